use Rattle.poly.proofs.Moves.{MovingUp}
use Rattle.poly.proofs.put_in.Given as goal

abbrev pub invariant-loop-i : goal.invariant-loop-i
invariant-loop-i l = MovingUp l.initial.list l.list l.count l.at l.i
