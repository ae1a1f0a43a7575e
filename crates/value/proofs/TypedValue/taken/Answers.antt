-- `value::TypedValue::taken` meets its contract: a value that is taken at a type is of that type. Assumes nothing.
use Rattle.value.proofs.Laws.{taken-typed}
use Rattle.value.proofs.TypedValue.taken.Goals as goal

pub invariant_of-result : goal.invariant_of-result
invariant_of-result c = record { typed = rw c.converted.ensures (taken-typed c.args.self.typing c.args.t c.args.self.value) }
