use Rattle.std.proofs.Common.{◌≡◌}
use Rattle.machine.specs.Registers.{forget_registers}
use Rattle.machine.proofs.State.forget.Given as goal

abbrev pub invariant-loop-r : goal.invariant-loop-r
invariant-loop-r l = l.self ≡ forget_registers l.initial.self l.fn.i.written l.r-index
