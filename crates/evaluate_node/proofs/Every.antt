-- Evaluation is the run: whatever is free beside the values of the declared variables, a node's run has the outcome that its evaluation gives.
-- Assumes nothing.
use Rattle.std.specs.Prelude.{Option, Some, None, Err}
use Prim.Native.Nat.{ℕ, ◌≤◌}
use mathlib.Core.Path.{◌≡◌, refl, sym, ap}
use mathlib.Core.List.{List}
use mathlib.Core.Bool.{Bool, true, false, cond, ◌&&◌}
use native.Mathlib.Omega.{arith}
use lib.ListN.{length}
use Rattle.expr.specs.Scan.{plain_expr}
use Rattle.sheet_node.specs.Node.{Node}
use Rattle.sheet_node.proofs.Variables.{ReadsDeclared}
use Rattle.value.specs.Run.{Choices, run}
use Rattle.refusal.specs.declared.Fault.{Fault}
use Rattle.refusal.specs.declared.Fault.TheVariants.{Division, NotPlain, Value}
use Rattle.refusal.specs.declared.Refusal.{Refusal}
use Rattle.refusal.specs.Numbers.{refused, number_of}
use Rattle.evaluate_node.specs.Evaluate.{Evaluation, plain_all, unfit_from, on_values, on_fit, on_truth, evaluation_of, StartsFrom, Gives, FromRun}
use Rattle.evaluate_node.proofs.Same.{same-run}
use Rattle.laws.proofs.Booleans.{and_left, and_right}

module _ (n : Node) (place : ℕ) (values : List ℕ) (declared : ReadsDeclared n) (c : Choices) (starts : StartsFrom n.types values c) where
  abbrev Run : Option Bool
  Run = run n.types n.statements n.condition c

  -- a node that is plain and has its values: its evaluation is the outcome of its run
  pub evaluation-run : (plain_all n.statements && plain_expr n.condition) ≡ true → unfit_from 0 n.types values ≡ None
      → evaluation_of n place values ≡ on_truth place Run
  unfolding evaluation_of
  evaluation-run plain fit =
      rw (plain, fit)
      (ap (on_truth place)
      (same-run n.types (length n.types) (on_values values) c n.condition 0 n.statements (on_values values).start c.start
      (and_left (plain_all n.statements) (plain_expr n.condition) plain) (and_right (plain_all n.statements) (plain_expr n.condition) plain) declared.statements declared.condition
      (λ v below. sym (starts v below))))

  refused-15 : (plain_all n.statements && plain_expr n.condition) ≡ false → evaluation_of n place values ≡ Err (refused NotPlain place)
  unfolding evaluation_of
  refused-15 q = rw q

  refused-16 : (plain_all n.statements && plain_expr n.condition) ≡ true → {v : ℕ} → unfit_from 0 n.types values ≡ Some v
      → evaluation_of n place values ≡ Err (refused Value v)
  unfolding evaluation_of
  refused-16 plain q = rw (plain, q)

  given-run : (t : Option Bool) → Gives (on_truth place t) t
  given-run (Some true) = refl
  given-run (Some false) = refl
  given-run None = λ e. refl

  -- The theorem: what the evaluation gives is the outcome of every run that starts from the borrowed values.
  pub every-run : Gives (evaluation_of n place values) Run
  every-run = by-plain (plain_all n.statements && plain_expr n.condition) refl
    where
      by-fit : (plain_all n.statements && plain_expr n.condition) ≡ true → (f : Option ℕ) → unfit_from 0 n.types values ≡ f
          → Gives (evaluation_of n place values) Run
      by-fit plain None q = rw (evaluation-run plain q) (given-run Run)
      by-fit plain (Some v) q = rw (refused-16 plain q) (λ e. absurd cc)

      by-plain : (b : Bool) → (plain_all n.statements && plain_expr n.condition) ≡ b → Gives (evaluation_of n place values) Run
      by-plain true q = by-fit q (unfit_from 0 n.types values) refl
      by-plain false q = rw (refused-15 q) (λ e. absurd cc)

  -- and an evaluation that comes from the run is the outcome of each of those runs
  pub evaluation-outcome : FromRun (evaluation_of n place values) → evaluation_of n place values ≡ on_truth place Run
  evaluation-outcome from = by-plain (plain_all n.statements && plain_expr n.condition) refl
    where
      other-number : {r : Refusal} → evaluation_of n place values ≡ Err r → (r.fault ≡ Division → ⊥) → evaluation_of n place values ≡ on_truth place Run
      other-number q other = absurd (other (rw q at from))

      by-fit : (plain_all n.statements && plain_expr n.condition) ≡ true → (f : Option ℕ) → unfit_from 0 n.types values ≡ f
          → evaluation_of n place values ≡ on_truth place Run
      by-fit plain None q = evaluation-run plain q
      by-fit plain (Some v) q = other-number (refused-16 plain q) (λ e. cc)

      by-plain : (b : Bool) → (plain_all n.statements && plain_expr n.condition) ≡ b → evaluation_of n place values ≡ on_truth place Run
      by-plain true q = by-fit q (unfit_from 0 n.types values) refl
      by-plain false q = other-number (refused-15 q) (λ e. cc)

-- a node's evaluation refuses as 14, 15 or 16
abbrev pub ByNode : Refusal → Type 0
ByNode r = (14 ≤ number_of r.fault) × (number_of r.fault ≤ 16)

module _ {r : Refusal} where
  same_number : {f : Fault} {place : ℕ} → ◌≡◌ {A = Evaluation} (Err (refused f place)) (Err r) → 14 ≤ number_of f → number_of f ≤ 16 → ByNode r
  same_number {f} e l h = let same : f ≡ r.fault = cc in rw (← same) (l, h)

  truth-number : (place : ℕ) (t : Option Bool) → on_truth place t ≡ Err r → ByNode r
  truth-number place (Some true) e = absurd cc
  truth-number place (Some false) e = absurd cc
  truth-number place None e = same_number e (omega arith) (omega arith)

  fit-number : (place : ℕ) (f : Option ℕ) (t : Option Bool) → on_fit f (on_truth place t) ≡ Err r → ByNode r
  fit-number place None t e = truth-number place t e
  fit-number place (Some v) t e = same_number e (omega arith) (omega arith)

  plain-number : (place : ℕ) (b : Bool) (f : Option ℕ) (t : Option Bool) → cond b (on_fit f (on_truth place t)) (Err (refused NotPlain place)) ≡ Err r → ByNode r
  plain-number place true f t e = fit-number place f t e
  plain-number place false f t e = same_number e (omega arith) (omega arith)

  pub evaluation-number : (n : Node) (place : ℕ) (values : List ℕ) → evaluation_of n place values ≡ Err r → ByNode r
  unfolding evaluation_of
  evaluation-number n place values e =
      plain-number place (plain_all n.statements && plain_expr n.condition) (unfit_from 0 n.types values)
      (run n.types n.statements n.condition (on_values values)) e
