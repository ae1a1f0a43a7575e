-- Laws of one record: its argument is small, and the record from its parts.
use Prim.Native.Nat.{ℕ, ◌≤◌}
use mathlib.Core.Path.{◌≡◌, refl}
use mathlib.Core.Logic.{◌⊎◌, inl, inr, ⊎_elim}
use mathlib.Core.List.{List}
use mathlib.Core.Bool.{Bool, true, false, ◌&&◌, ◌||◌}
use lib.Dec.{leb, ltb, eqb}
use native.Mathlib.Omega.{arith}
use borrow.Author.Tests.{ltb-true, eqb-true}
use Rattle.refusal.specs.declared.Fault.TheVariants.{Code}
use Rattle.sheet_field.specs.Field.{Place, field_at, start_of, code_at}
use Rattle.sheet_field.proofs.Fields.{check-below}
use Rattle.sheet_expression.specs.Expression.{has_argument, argument_ok, argument_at}
use Rattle.laws.proofs.Booleans.{and_both}

pub or-true : (a b : Bool) → (a || b) ≡ true → (a ≡ true) ⊎ (b ≡ true)
or-true true b e = inl refl
or-true false b e = inr e

width_small : (x : ℕ) → (eqb x 1 || eqb x 2 || eqb x 4 || eqb x 8) ≡ true → x ≤ 32
width_small x e =
    ⊎_elim
    (λ d. ⊎_elim
    (λ d'. ⊎_elim (λ h. omega (arith, eqb-true x 1 h)) (λ h. omega (arith, eqb-true x 2 h)) (or-true (eqb x 1) (eqb x 2) d'))
    (λ h. omega (arith, eqb-true x 4 h))
    (or-true (eqb x 1 || eqb x 2) (eqb x 4) d))
    (λ h. omega (arith, eqb-true x 8 h))
    (or-true (eqb x 1 || eqb x 2 || eqb x 4) (eqb x 8) e)

ok-small : (variables kind x : ℕ) → variables ≤ 32 → argument_ok variables kind x ≡ true → x ≤ 32
ok-small variables kind x few e =
    ⊎_elim
    (λ d. ⊎_elim
    (λ d'. ⊎_elim
    (λ h. omega (arith, ltb-true x variables (and_both (eqb kind 0) (ltb x variables) h).1))
    (λ h. width_small x (and_both (eqb kind 1) (eqb x 1 || eqb x 2 || eqb x 4 || eqb x 8) h).1)
    (or-true (eqb kind 0 && ltb x variables) _ d'))
    (λ h. omega (arith, ltb-true x 10 (and_both (leb 4 kind && leb kind 6) (ltb x 10) h).1))
    (or-true ((eqb kind 0 && ltb x variables) || (eqb kind 1 && (eqb x 1 || eqb x 2 || eqb x 4 || eqb x 8))) _ d))
    (λ h. omega (arith, ltb-true x 18 (and_both (eqb kind 7) (ltb x 18) h).1))
    (or-true _ (eqb kind 7 && ltb x 18) e)

pub read-small : (variables kind : ℕ) (s : List ℕ) (p : Place) → variables ≤ 32 → (argument_at variables kind s p).value ≤ 32
unfolding argument_at
read-small variables kind s p few = go (has_argument kind) refl
  where
    go : (t : Bool) → has_argument kind ≡ t → (argument_at variables kind s p).value ≤ 32
    go true e = rw e (check-below _ Code (start_of p) (field_at 1 s p) 32 (ok-small variables kind (field_at 1 s p).value few))
    go false e = rw e (omega arith)

-- a kind is in its table
pub kind-small : (s : List ℕ) (p : Place) → (code_at 9 s p).value ≤ 8
unfolding code_at
kind-small s p = check-below _ Code (start_of p) (field_at 1 s p) 8 (λ e. omega (arith, ltb-true (field_at 1 s p).value 9 e))
