use Prim.Native.Nat.{◌-◌}
use Rattle.poly.proofs.Moves.{MovingDown}
use Rattle.poly.proofs.take_out.Given as goal

abbrev pub invariant-loop-i : goal.invariant-loop-i
invariant-loop-i l = MovingDown l.initial.list l.list l.count l.at (l.i - 1)
