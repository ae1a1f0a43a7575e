use Rattle.std.proofs.Common.{◌≡◌, ◌≤◌, length, Ok}
use Rattle.sheet_field.specs.Field.{count_at}
use Rattle.sheet_instruction.specs.Instruction.{registers_from}
use Rattle.sheet_instruction.proofs.check_written.Given as goal

abbrev pub invariant-loop : goal.invariant-loop
invariant-loop l =
    let s = l.fn.r.bytes.now in
    (l.r.bytes.now ≡ s) × (l.r.at ≤ length s) × (Ok l.r.at ≡ (registers_from s (count_at 0 8 s (Ok l.fn.r.at)).next l.counter).next)
