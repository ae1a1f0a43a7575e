-- Tests as facts, and two functions of a number that agree wherever a table says so.
use Prim.Native.Nat.{ℕ, zero, suc, ◌<◌, ◌≤◌}
use mathlib.Core.Path.{◌≡◌, refl}
use mathlib.Core.Logic.{◌⊎◌, inl, inr, ⊎_elim}
use mathlib.Core.List.{List, [], ◌∷◌}
use mathlib.Core.Bool.{Bool, true, false, ◌&&◌, ◌||◌, or-true, false≢true}
use native.Mathlib.Omega.{arith}
use lib.Dec.{eqb, leb}
use borrow.Author.Tests.{eqb-true, eqb-false, eq-eqb, leb-true, le-leb}
use Rattle.laws.proofs.Booleans.{and_left, and_right}

pub or_cases : (a b : Bool) → (a || b) ≡ true → (a ≡ true) ⊎ (b ≡ true)
or_cases true b e = inl refl
or_cases false b e = inr e

-- a test that fails wherever another passes
pub both_false : (a b : Bool) → (a ≡ true → b ≡ false) → (a && b) ≡ false
both_false true b h = h refl
both_false false b h = refl

pub never : {X : Type 0} → false ≡ true → X
never e = absurd (false≢true e)

-- a test and what it tests
pub record Tests (b : Bool) (P : Type 0) : Type 0 where
  pub holds : b ≡ true → P
  pub passes : P → b ≡ true

pub of_eq : (a b : ℕ) → Tests (eqb a b) (a ≡ b)
of_eq a b = record { holds = eqb-true a b; passes = eq-eqb a b }

pub of_le : (a b : ℕ) → Tests (leb a b) (a ≤ b)
of_le a b = record { holds = leb-true a b; passes = le-leb a b }

pub of_and : {a b : Bool} {P Q : Type 0} → Tests a P → Tests b Q → Tests (a && b) (P × Q)
of_and {a} {b} s t = record { holds = λ e. (s.holds (and_left a b e), t.holds (and_right a b e)); passes = λ h. rw (s.passes h.0) (t.passes h.1) }

pub of_or : {a b : Bool} {P Q : Type 0} → Tests a P → Tests b Q → Tests (a || b) (P ⊎ Q)
of_or {a} {b} {P} {Q} s t = record {
  holds = λ e. ⊎_elim (λ h. inl (s.holds h)) (λ h. inr (t.holds h)) (or_cases a b e);
  passes = ⊎_elim (λ h. rw (s.passes h)) (λ h. rw (t.passes h) (or-true a));
}

-- f 0 to f (n - 1), the last first
unfoldable pub table : {A : Type 0} → (ℕ → A) → ℕ → List A
table f zero = []
table f (suc n) = f n ∷ table f n

pub same-table : {A : Type 0} (f g : ℕ → A) (n : ℕ) → table f n ≡ table g n → (m : ℕ) → m < n → f m ≡ g m
unfolding table
same-table f g zero e m lt = absurd (omega arith)
same-table f g (suc n) e m lt = go (same-table f g n tail m) (eqb m n) refl
  where
    head : f n ≡ g n
    head = cc

    tail : table f n ≡ table g n
    tail = cc

    go : (m < n → f m ≡ g m) → (t : Bool) → eqb m n ≡ t → f m ≡ g m
    go below true q = rw (eqb-true m n q) head
    go below false q = below (omega (arith, eqb-false m n q))
