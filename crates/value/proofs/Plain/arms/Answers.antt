-- `value::Plain::arms` meets its contract: a plain ternary's condition and arms are plain. Assumes nothing.
use mathlib.Core.Path.{sym, ap, ◌∙◌}
use Rattle.expr.specs.Scan.{plain_expr}
use Rattle.expr.proofs.Plainness.{plain-ternary}
use Rattle.value.proofs.Plain.arms.Goals as goal

pub invariant_of-result-clause-plain : goal.invariant_of-result-clause-plain
invariant_of-result-clause-plain c = (plain-ternary _ _ _ (ap plain_expr (sym c.arms.ensures.tree) ∙ c.args.self.plain)).0

pub invariant_of-result-2-clause-plain : goal.invariant_of-result-2-clause-plain
invariant_of-result-2-clause-plain c = (plain-ternary _ _ _ (ap plain_expr (sym c.arms.ensures.tree) ∙ c.args.self.plain)).1

pub invariant_of-result-3-clause-plain : goal.invariant_of-result-3-clause-plain
invariant_of-result-3-clause-plain c = (plain-ternary _ _ _ (ap plain_expr (sym c.arms.ensures.tree) ∙ c.args.self.plain)).2
