-- `value::compared` meets its contract: each number reads its entry of the table. Assumes nothing.
use mathlib.Core.Bool.{Bool, not}
use mathlib.Core.Path.{ap, ◌∙◌}
use Rattle.arith.proofs.Laws.{at-most}
use Rattle.value.specs.Operators.{flag, comparisons}
use Rattle.value.proofs.compared.Goals as goal

pub returns-in-12 : goal.returns-in-12
unfolding comparisons
returns-in-12 c = rw c.in-12.is (c.flagged-in-12.ensures ∙ ap flag c.below.ensures)

pub returns-in-13 : goal.returns-in-13
unfolding comparisons
returns-in-13 c =
    rw (c.in-13.is, at-most c.args.t c.args.a c.args.b) (c.flagged-in-13.ensures ∙ ap (λ (b : Bool). flag (not b)) c.below-in-13.ensures)

pub returns-in-15 : goal.returns-in-15
unfolding comparisons
returns-in-15 c =
    rw (c.in-15.is, at-most c.args.t c.args.b c.args.a) (c.flagged-in-15.ensures ∙ ap (λ (b : Bool). flag (not b)) c.below-in-15.ensures)
