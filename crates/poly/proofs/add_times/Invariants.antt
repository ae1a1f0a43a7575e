use Rattle.poly.proofs.Running.{Times}
use Rattle.poly.proofs.add_times.Given as goal

abbrev pub invariant-loop-y : goal.invariant-loop-y
invariant-loop-y l = Times l.initial.list l.list l.count l.x l.b l.n l.y-index
