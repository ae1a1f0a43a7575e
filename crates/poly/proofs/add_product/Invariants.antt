use Rattle.poly.proofs.Running.{Products}
use Rattle.poly.proofs.add_product.Given as goal

abbrev pub invariant-loop-x : goal.invariant-loop-x
invariant-loop-x l = Products l.initial.list l.list l.count l.a l.b l.n l.x-index
