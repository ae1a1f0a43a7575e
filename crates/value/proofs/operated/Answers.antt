-- `value::operated` meets its contract: an operator's value is of the operator's type. Assumes nothing.
use Rattle.value.proofs.Laws.{strict-typed}
use Rattle.value.proofs.operated.Goals as goal

pub invariant_of-result : goal.invariant_of-result
invariant_of-result c =
    record { typed = rw (c.strict.ensures, c.binary_type.ensures) (strict-typed c.args.operator c.args.left.typing c.args.right.typing c.args.left.value c.args.right.value) }
