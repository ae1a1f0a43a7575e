-- `value::logic` meets its contract: a condition's value is of type signed 32. Assumes nothing.
use Rattle.value.proofs.Laws.{integer-typed}
use Rattle.value.proofs.logic.Goals as goal

pub invariant_of-result : goal.invariant_of-result
invariant_of-result c = record { typed = rw c.integer_of.ensures (integer-typed c.args.holds) }
