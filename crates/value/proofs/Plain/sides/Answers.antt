-- `value::Plain::sides` meets its contract: a plain operator's sides are plain. Assumes nothing.
use mathlib.Core.Path.{sym, ap, ◌∙◌}
use Rattle.expr.specs.Scan.{plain_expr}
use Rattle.expr.proofs.Plainness.{plain-binary}
use Rattle.value.proofs.Plain.sides.Goals as goal

pub invariant_of-result-clause-plain : goal.invariant_of-result-clause-plain
invariant_of-result-clause-plain c = (plain-binary _ _ _ (ap plain_expr (sym c.sides.ensures.tree) ∙ c.args.self.plain)).0

pub invariant_of-result-2-clause-plain : goal.invariant_of-result-2-clause-plain
invariant_of-result-2-clause-plain c = (plain-binary _ _ _ (ap plain_expr (sym c.sides.ensures.tree) ∙ c.args.self.plain)).1
