-- `value::Plain::child` meets its contract: what is cast is plain. Assumes nothing.
use mathlib.Core.Path.{sym, ap, ◌∙◌}
use Rattle.expr.specs.Scan.{plain_expr}
use Rattle.expr.proofs.Plainness.{plain-cast}
use Rattle.value.proofs.Plain.child.Goals as goal

pub invariant_of-result-clause-plain : goal.invariant_of-result-clause-plain
invariant_of-result-clause-plain c = plain-cast _ _ (ap plain_expr (sym c.child.ensures.tree) ∙ c.args.self.plain)
