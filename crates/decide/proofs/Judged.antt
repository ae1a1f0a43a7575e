-- The laws that the verdict's code cites: an equality from its steps' answers, a condition by its root and its operator.
use Prim.Native.Nat.{ℕ, ◌+◌, ◌≤◌, ◌<◌}
use mathlib.Core.Path.{◌≡◌, refl, sym, ap, ◌∙◌}
use mathlib.Core.Bool.{Bool, true, false, cond, ◌&&◌, ◌||◌}
use mathlib.Core.List.{[]}
use Rattle.std.specs.Prelude.{Result, Ok, IsErr}
use native.Mathlib.Omega.{arith}
use lib.Dec.{eqb}
use borrow.Author.Tests.{eqb-true, eq-eqb, ne_eqb}
use mathlib.Core.Logic.{◌⊎◌, inl, inr}
use native.Mathlib.Nat.{eq-or-lt_of_le}
use Rattle.laws.proofs.Booleans.{or_left, or_right, by_test}
use Rattle.expr.specs.Tree.{Expr}
use Rattle.expr.specs.Tree.Expr.{variable, constant, condition_true, condition_false, effect, load, cast, binary, ternary}
use Rattle.expr.specs.Root.{root_of, root_argument}
use Rattle.expr.specs.declared.Root.TheVariants.{True, False, Cast, Binary}
use Rattle.expr.proofs.Views.{by-root}
use Rattle.parity.specs.declared.TooMany.{TooMany}
use Rattle.parity.specs.Lent.{within}
use Rattle.parity.specs.Parity.{parity, right_low, difference, few}
use Rattle.parity.proofs.Limits.{only}
use Rattle.verdict.specs.declared.Reason.TheVariants.{Truth}
use Rattle.verdict.specs.declared.Verdict.{Verdict}
use Rattle.verdict.specs.declared.Verdict.TheVariants.{Always, Never, Undecided}
use Rattle.exact.specs.Exact.{same_sides, is_constant, exact_fits}
use Rattle.exact.specs.Answers.{sum_fits}
use Rattle.decide.specs.Decide.{or_else, equal_sides, equality, unsigned, unsigned_cast, above_zero, mirrored, unsigned_zero, both, either, decide, equality_fits, fits}
use Rattle.decide.specs.Answers.{equality_answer}

and_assoc : (x y d e : Bool) → ((x && (y && d)) && e) ≡ (x && (y && (d && e)))
and_assoc true true d e = refl
and_assoc true false d e = refl
and_assoc false y d e = refl

-- an equality within the limits, and one that passes them
pub equality-limits : (a b : Expr) → equality_fits a b ≡ (sum_fits a b && (exact_fits a && exact_fits b))
equality-limits a b = sym (and_assoc (parity [] a).fits (right_low a b).fits (few (difference a b)) (exact_fits a && exact_fits b))

pub equality-found : (o : ℕ) (a b : Expr) {v : Verdict} → sum_fits a b ≡ true → exact_fits a ≡ true → exact_fits b ≡ true
    → v ≡ or_else (equal_sides o a b) (equality (eqb o 10) a b) → Ok v ≡ equality_answer o a b
equality-found o a b {v} f g h is =
    let all : equality_fits a b ≡ true = equality-limits a b ∙ rw (f, g, h) refl in
    rw (all, is) refl

-- a cast by its root, and a root that is no cast
pub unsigned_told : (e : Expr) → root_of e ≡ Cast → unsigned (root_argument e) ≡ unsigned_cast e
unsigned_told e h = sym (ap unsigned_cast (by-root e Cast h))

pub not_cast : (e : Expr) → (root_of e ≡ Cast → ⊥) → false ≡ unsigned_cast e
unfolding root_of
not_cast (variable n) h = refl
not_cast (constant w x) h = refl
not_cast condition_true h = refl
not_cast condition_false h = refl
not_cast (effect t) h = refl
not_cast (load t a) h = refl
not_cast (cast t a) h = absurd (h refl)
not_cast (binary o a b) h = refl
not_cast (ternary c a b) h = refl

-- an unsigned cast against 0, on its left
pub zero_left : (o : ℕ) (a b : Expr) {c d : Bool} → is_constant 0 b ≡ false → c ≡ is_constant 0 a → d ≡ unsigned_cast b
    → cond (c && d) (above_zero (mirrored o)) Undecided ≡ unsigned_zero o a b
zero_left o a b n c d = rw (n, c, d) (nested (is_constant 0 a) (unsigned_cast b) (above_zero (mirrored o)))
  where
    nested : (s t : Bool) (v : Verdict) → cond (s && t) v Undecided ≡ cond s (cond t v Undecided) Undecided
    nested true t v = refl
    nested false t v = refl

-- conditions that are not logical nodes or comparisons
pub decide-other : (e : Expr) → (root_of e ≡ True → ⊥) → (root_of e ≡ False → ⊥) → (root_of e ≡ Binary → ⊥) → Ok Undecided ≡ within (fits e) (decide e)
unfolding root_of decide fits
decide-other (variable n) h2 h3 h7 = refl
decide-other (constant w x) h2 h3 h7 = refl
decide-other condition_true h2 h3 h7 = absurd (h2 refl)
decide-other condition_false h2 h3 h7 = absurd (h3 refl)
decide-other (effect t) h2 h3 h7 = refl
decide-other (load t a) h2 h3 h7 = refl
decide-other (cast t a) h2 h3 h7 = refl
decide-other (binary o a b) h2 h3 h7 = absurd (h7 refl)
decide-other (ternary c a b) h2 h3 h7 = refl

either_way : (t : Bool) (v : Verdict) → cond t v v ≡ v
either_way true v = refl
either_way false v = refl

-- a condition by its operator
module _ (o : ℕ) (a b : Expr) where
  -- && and ||: equal sides say nothing
  pub logic : (eqb o 16 || eqb o 17) ≡ true
      → within (fits a && fits b) (cond (eqb o 16) (both (decide a) (decide b)) (either (decide a) (decide b))) ≡ within (fits (binary o a b)) (decide (binary o a b))
  unfolding decide fits
  logic h = by_test (eqb o 16) (λ t. rw (eqb-true o 16 t) (rw (either_way (same_sides a b) Undecided))) (λ t. rw (eqb-true o 17 (rw t at h)) (rw (either_way (same_sides a b) Undecided)))

  pub same_or_not : (eqb o 10 || eqb o 11) ≡ true
      → within (equality_fits a b) (or_else (equal_sides o a b) (equality (eqb o 10) a b)) ≡ within (fits (binary o a b)) (decide (binary o a b))
  unfolding decide fits
  same_or_not h = by_test (eqb o 10) (λ t. rw (eqb-true o 10 t)) (λ t. rw (eqb-true o 11 (rw t at h)))

  -- the step against 0 says nothing of an operator that is no relation
  zero-else : (eqb o 12 || (eqb o 13 || (eqb o 14 || eqb o 15))) ≡ false → unsigned_zero o a b ≡ Undecided
  zero-else h =
      let less = or_left (eqb o 12) _ h in
      let rest = or_right (eqb o 12) _ h in
      let less_equal = or_left (eqb o 13) _ rest in
      let rest₂ = or_right (eqb o 13) _ rest in
      let greater = or_left (eqb o 14) _ rest₂ in
      let greater_equal = or_right (eqb o 14) _ rest₂ in
      rw (less, less_equal, greater, greater_equal, less, greater_equal) (by (is_constant 0 b) (unsigned_cast a) (is_constant 0 a) (unsigned_cast b))
    where
      by : (p q s t : Bool) → cond p (cond q Undecided Undecided) (cond s (cond t Undecided Undecided) Undecided) ≡ Undecided
      by p q s t = rw (either_way q Undecided, either_way t Undecided, either_way s Undecided, either_way p Undecided)

  pub relation-is : (eqb o 16 || eqb o 17) ≡ false → (eqb o 10 || eqb o 11) ≡ false
      → Ok (or_else (equal_sides o a b) (unsigned_zero o a b)) ≡ within (fits (binary o a b)) (decide (binary o a b))
  unfolding decide fits
  relation-is h g =
      rw (g, h, or_left (eqb o 10) (eqb o 11) g, or_right (eqb o 10) (eqb o 11) g, or_left (eqb o 16) (eqb o 17) h, or_right (eqb o 16) (eqb o 17) h)
      (by_test (eqb o 12 || (eqb o 13 || (eqb o 14 || eqb o 15))) (λ t. rw t) (λ t. rw (t, zero-else t)))

-- the same by the number that the code has read
pub one-of-two : {o k : ℕ} → k ≤ o → o < k + 2 → (eqb o k || eqb o (k + 1)) ≡ true
one-of-two {o} {k} low high = by (eq-or-lt_of_le low)
  where
    by : (k ≡ o) ⊎ (k < o) → (eqb o k || eqb o (k + 1)) ≡ true
    by (inl e) = rw (eq-eqb o k (sym e)) refl
    by (inr h) = rw (ne_eqb o k (λ e. omega arith), eq-eqb o (k + 1) (omega arith)) refl

pub neither : (o k : ℕ) → (o ≡ k → ⊥) → (o ≡ k + 1 → ⊥) → (eqb o k || eqb o (k + 1)) ≡ false
neither o k p q = rw (ne_eqb o k p, ne_eqb o (k + 1) q) refl

-- a condition by its root, and by its operator
module _ (e : Expr) where
  pub decide-true : root_of e ≡ True → Ok (Always Truth) ≡ within (fits e) (decide e)
  unfolding decide fits
  decide-true h = sym (ap (λ (x : Expr). within (fits x) (decide x)) (by-root e True h))

  pub decide-false : root_of e ≡ False → Ok (Never Truth) ≡ within (fits e) (decide e)
  unfolding decide fits
  decide-false h = sym (ap (λ (x : Expr). within (fits x) (decide x)) (by-root e False h))

  module _ {o : ℕ} {a b : Expr} (t : e ≡ binary (root_argument e) a b) (p : o ≡ root_argument e) where
    at-root : {r : Result Verdict TooMany} → r ≡ within (fits (binary o a b)) (decide (binary o a b)) → r ≡ within (fits e) (decide e)
    at-root h = h ∙ ap (λ (x : Expr). within (fits x) (decide x)) (sym (t ∙ ap (λ (k : ℕ). binary k a b) (sym p)))

    pub halves-kept : {v : Verdict} → (eqb o 16 || eqb o 17) ≡ true → fits a ≡ true → fits b ≡ true
        → v ≡ cond (eqb o 16) (both (decide a) (decide b)) (either (decide a) (decide b)) → Ok v ≡ within (fits e) (decide e)
    halves-kept h f g is = at-root (rw (f, g, ← is) at (logic o a b h))

    pub halves-past : {q : Result Verdict TooMany} → (eqb o 16 || eqb o 17) ≡ true → (fits a && fits b) ≡ false → IsErr q → q ≡ within (fits e) (decide e)
    halves-past h f is = at-root (only is ∙ (rw f at (logic o a b h)))

    pub decide-equality : {r : Result Verdict TooMany} → (eqb o 10 || eqb o 11) ≡ true → r ≡ equality_answer o a b → r ≡ within (fits e) (decide e)
    decide-equality h is = at-root (is ∙ same_or_not o a b h)

    pub decide-relation : {v : Verdict} → (eqb o 16 || eqb o 17) ≡ false → (eqb o 10 || eqb o 11) ≡ false
        → v ≡ or_else (equal_sides o a b) (unsigned_zero o a b) → Ok v ≡ within (fits e) (decide e)
    decide-relation h k is = at-root (rw (← is) at (relation-is o a b h k))
