-- Statements of a node, as syntax.
use Rattle.std.specs.Prelude.{ℕ}
use Rattle.expr.specs.Tree.{Expr}

-- A statement: an assignment to a variable, or anything else, a 0-statement (S31, S32).
pub data Statement : Type 0 where
  assignment : (variable : ℕ) (value : Expr) → Statement
  other : Statement
