-- What the code's steps give and ask.
use Rattle.std.specs.Prelude.{ℕ, eqb, Result}
use Rattle.expr.specs.Codes.{op_equal}
use Rattle.expr.specs.Tree.{Expr}
use Rattle.parity.specs.Lent.{within}
use Rattle.parity.specs.declared.TooMany.{TooMany}
use Rattle.verdict.specs.declared.Verdict.{Verdict}
use Rattle.decide.specs.Decide.{or_else, equal_sides, equality, equality_fits}

-- The answer for an equality: the first step that decides, where every step is within the limits.
abbrev pub equality_answer : ℕ → Expr → Expr → Result Verdict TooMany
equality_answer o a b = within (equality_fits a b) (or_else (equal_sides o a b) (equality (eqb o op_equal) a b))
