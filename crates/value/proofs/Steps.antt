-- Evaluation on borrowed values is a node's run. An expression without load and effect does not look at memory, at the effects or at what variables
-- are inside loads; so each statement of a run, on values that stand in a list, is one evaluation. Assumes nothing.
use Rattle.std.specs.Prelude.{Option, Some, None}
use mathlib.Core.Path.{◌≡◌, refl, sym, ap, fun_ext, ◌∙◌}
use mathlib.Core.Bool.{Bool, true, false, cond}
use mathlib.Core.List.{List, [], ◌∷◌}
use Prim.Native.Nat.{ℕ, suc, ◌<◌}
use lib.Dec.{eqb}
use lib.ListN as ListN
use lib.ListN.{length, get_or}
use lib.Seq.{get_or-set_same, get_or-set_other}
use borrow.Author.Tests.{eqb-true, eqb-false}
use Rattle.expr.specs.Tree.{Expr}
use Rattle.expr.specs.Scan.{has_own_value, has_load}
use Rattle.value.specs.Operators.{truth_of}
use Rattle.value.specs.Evaluation.{Values, Memory, Effects, shared, ev, evaluated, settled}
use Rattle.expr.specs.Statement.{Statement}
use Rattle.value.specs.Run.{Choices, update, given, run_from}
use Rattle.expr.specs.Statement.Statement.{assignment}
use Rattle.value.proofs.Independence.{without-own-value, without-load}

-- no load, and nothing with a value of its own
pub record Plain (e : Expr) : Type 0 where
  pub no_load : has_load e ≡ false
  pub no_own_value : has_own_value e ≡ false

-- a plain expression has one value, whatever memory and effects are
pub plain-ev : (types : List ℕ) (ρ σ σ' : Values) (m m' : Memory) (f f' : Effects) (e : Expr) → Plain e → ev types ρ σ m f e ≡ ev types ρ σ' m' f' e
plain-ev types ρ σ σ' m m' f f' e p = without-load types ρ σ σ' m m' f e p.no_load ∙ without-own-value types ρ σ' m' f f' e p.no_own_value

-- the values that stand in a list
abbrev pub lent : List ℕ → Values
lent values n = get_or values n 0

-- setting a variable is a store to the list
pub lent-set : (values : List ℕ) (v x : ℕ) → v < length values → update v x (lent values) ≡ lent (ListN.set values v x)
lent-set values v x h = fun_ext (λ n. by n (eqb n v) refl)
  where
    by : (n : ℕ) (b : Bool) → eqb n v ≡ b → cond b x (get_or values n 0) ≡ get_or (ListN.set values v x) n 0
    by n true e = sym (ap (λ (k : ℕ). get_or (ListN.set values v x) k 0) (eqb-true n v e) ∙ get_or-set_same values v x 0 h)
    by n false e = sym (get_or-set_other values v n x 0 (eqb-false n v e))

module _ (types : List ℕ) (c : Choices) (condition : Expr) (i : ℕ) (values : List ℕ) where
  -- the value in the run is the evaluation's
  pub run_value : (m : Memory) (e : Expr) → Plain e → ev types (lent values) (lent values) m (c.effects i) e ≡ evaluated types values e
  unfolding evaluated
  run_value m e p = plain-ev types (lent values) (lent values) (lent values) m (λ path t a. 0) (c.effects i) (λ path. 0) e p

  module _ (v : ℕ) (e : Expr) (rest : List Statement) (p : Plain e) where
    -- an assignment goes on from the list with its variable's value stored
    pub assigns : (x : ℕ) → v < length values → evaluated types values e ≡ Some x
        → run_from types c condition i (assignment v e ∷ rest) (lent values) ≡ run_from types c condition (suc i) rest (lent (ListN.set values v x))
    unfolding run_from
    assigns x h g =
        ap (λ (u : Option ℕ). given u (λ x. run_from types c condition (suc i) rest (update v x (lent values)))) (run_value (c.memory i) e p ∙ g)
        ∙ ap (run_from types c condition (suc i) rest) (lent-set values v x h)

    -- or has no outcome
    pub stops : evaluated types values e ≡ None → run_from types c condition i (assignment v e ∷ rest) (lent values) ≡ None
    unfolding run_from
    stops g = ap (λ (u : Option ℕ). given u (λ x. run_from types c condition (suc i) rest (update v x (lent values)))) (run_value (c.memory i) e p ∙ g)

  -- after the last statement the outcome is the condition's
  pub ends : Plain condition → run_from types c condition i [] (lent values) ≡ settled types values condition
  unfolding run_from
  ends p = ap truth_of (run_value (shared c.contents) condition p)
