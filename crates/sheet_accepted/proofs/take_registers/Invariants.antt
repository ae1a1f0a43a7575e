use Rattle.std.proofs.Common.{◌≡◌, Ok, ◌+◌, ◌*◌, ◌++◌}
use lib.ListN.{drop}
use Rattle.sheet_instruction.specs.Instruction.{registers_from}
use Rattle.sheet_accepted.proofs.take_registers.Given as goal

abbrev pub invariant-loop-slot : goal.invariant-loop-slot
invariant-loop-slot l =
    record {
      list : l.slot-items ++ drop l.n (registers_from l.fn.r.bytes.now (Ok l.fn.r.at) 0).list ≡ (registers_from l.fn.r.bytes.now (Ok l.fn.r.at) l.slot-index).list;
      same : l.r.bytes.now ≡ l.fn.r.bytes.now;
      at : l.r.at ≡ l.fn.r.at + 4 * l.slot-index;
    }
