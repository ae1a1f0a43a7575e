-- A node's run, as a function of all that is free in it.
use Rattle.std.specs.Prelude.{Option, Some, None, Bool, cond, List, [], ◌∷◌, ℕ, suc, eqb}
use Rattle.expr.specs.Tree.{Expr}
use Rattle.expr.specs.Statement.{Statement}
use Rattle.expr.specs.Statement.Statement.{assignment, other}
use Rattle.value.specs.Operators.{truth_of}
use Rattle.value.specs.Evaluation.{Values, Contents, Memory, Effects, shared, ev}

-- What is free in a run: the variables' values at the start; and for the statement of each number, counted from 0, what its
-- loads find in memory, its effects, and, if it is a 0-statement, the variables' new values; for the condition what memory holds, and its effects,
-- by the count of statements as its number (N20, N22).
pub record Choices : Type 0 where
  pub start : Values
  pub memory : ℕ → Memory
  pub contents : Contents
  pub effects : ℕ → Effects
  pub renewed : ℕ → Values

-- the values after variable v is set to x
abbrev pub update : ℕ → ℕ → Values → Values
update v x ρ n = cond (eqb n v) x (ρ n)

-- Go on with a value, if there is one; where an expression divides by zero the run has no outcome (V10).
abbrev pub given : Option ℕ → (ℕ → Option Bool) → Option Bool
given (Some x) next = next x
given None next = None

-- The run from the statement of number i on, at the values ρ: an assignment gives its variable the value of its expression, a 0-statement makes
-- all of them new, and at the end the condition is the outcome (N21, N22, N23).
unfoldable pub run_from : List ℕ → Choices → Expr → ℕ → List Statement → Values → Option Bool
run_from types c condition i [] ρ = truth_of (ev types ρ ρ (shared c.contents) (c.effects i) condition)
run_from types c condition i (assignment v e ∷ rest) ρ =
    given (ev types ρ ρ (c.memory i) (c.effects i) e) (λ x. run_from types c condition (suc i) rest (update v x ρ))
run_from types c condition i (other ∷ rest) ρ = run_from types c condition (suc i) rest (c.renewed i)

-- The run of a node, from whatever values its variables have (N20).
abbrev pub run : List ℕ → List Statement → Expr → Choices → Option Bool
run types statements condition c = run_from types c condition 0 statements c.start
