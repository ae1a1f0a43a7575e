-- The laws that the code's steps cite: constants, shapes, low bits by their polynomials, exact sides by their roots.
use Rattle.std.specs.Prelude.{Option, Some, None, Result, Ok, Err, IsErr}
use Prim.Native.Nat.{ℕ, ◌≤◌}
use mathlib.Core.Path.{◌≡◌, refl, sym, ap, subst}
use mathlib.Core.Bool.{Bool, true, false}
use mathlib.Core.List.{List, []}
use native.Mathlib.Omega.{arith}
use lib.ListN.{length, take}
use Rattle.expr.specs.Tree.{Expr, value_of}
use Rattle.expr.specs.Tree.Expr.{variable, constant, condition_true, condition_false, effect, load, cast, binary, ternary}
use Rattle.expr.specs.Root.{root_of, root_argument}
use Rattle.expr.specs.declared.Root.TheVariants.{Constant, Cast, Binary}
use Rattle.expr.proofs.Views.{constant-root}
use Rattle.parity.specs.Parity.{parity, difference}
use Rattle.parity.specs.declared.Pair.TheVariants.{Sum}
use Rattle.parity.specs.declared.TooMany.{TooMany}
use Rattle.parity.specs.Lent.{within, pair_of, Lent, Given}
use Rattle.parity.proofs.Rooms.{products-lent}
use Rattle.parity.proofs.Steps.{told, passed}
use Rattle.parity.proofs.Limits.{only}
use Rattle.exact.specs.Exact.{is_one, decided_bit, low, shape, at_most_one, shape_value, exact, shape_written, written, shape_fits, exact_fits}
use Rattle.exact.specs.declared.Shape.{Shape}
use Rattle.exact.specs.Answers.{Buffers, sum_fits}

-- the same space serves a smaller part
pub buffers-lent : {u w : ℕ} {terms scratch terms' scratch' : List ℕ} → Buffers w terms scratch → u ≤ w → length terms' ≡ length terms → length scratch' ≡ length scratch → Buffers u terms' scratch'
buffers-lent b h k m = record { space = omega (arith, b.space, k); products = products-lent b.products h m }

-- a part by itself, with no atoms before it
pub lent_whole : {w : ℕ} {l : List Expr} {terms scratch : List ℕ} → l ≡ [] → w ≤ 256 → Buffers w terms scratch → Lent w (length l) terms scratch
lent_whole none h b = record { room = omega (arith, ap length none); space = b.space; products = b.products }

-- what is told of a part by itself, and of the sum of two sides, with no atoms before them
module _ (e : Expr) {l l' : List Expr} {terms : List ℕ} {r : Result ℕ TooMany} (none : l ≡ []) (g : Given (parity l e) l' terms r) where
  alone : Given (parity [] e) l' terms r
  alone = rw none at g

  pub low-past : {x : TooMany} {q : Result (Option ℕ) TooMany} → r ≡ Err x → IsErr q → q ≡ within (parity [] e).fits (low e)
  low-past h is = rw (passed alone.made h) (only is)

  pub low-told : {n : ℕ} {v : Option ℕ} → r ≡ Ok n → v ≡ decided_bit (take n terms) → Ok v ≡ within (parity [] e).fits (low e)
  low-told h is = let t = told alone.made h in rw (t.fit, is, t.stands) refl

module _ (a b : Expr) {l l' : List Expr} {terms : List ℕ} {r : Result ℕ TooMany} (none : l ≡ []) (g : Given (pair_of Sum l a b) l' terms r) where
  sum-alone : Given (pair_of Sum [] a b) l' terms r
  sum-alone = rw none at g

  pub parted-past : {x : TooMany} {q : Result Bool TooMany} → r ≡ Err x → IsErr q → q ≡ within (sum_fits a b) (is_one (difference a b))
  parted-past h is = rw (passed sum-alone.made h) (only is)

  pub parted-told : {n : ℕ} {v : Bool} → r ≡ Ok n → v ≡ is_one (take n terms) → Ok v ≡ within (sum_fits a b) (is_one (difference a b))
  parted-told h is = let t = told sum-alone.made h in rw (t.fit, is, t.stands) refl

-- What a part's root says of it: whether it is within the limits, its value as an exact side, and whether it is a constant as written.
pub record Seen (e : Expr) (within_limits : Bool) (v : Option ℕ) (as_written : Bool) : Type 0 where
  pub fits_is : exact_fits e ≡ within_limits
  pub exact_is : exact e ≡ v
  pub written_is : written e ≡ as_written

pub seen-constant : (e : Expr) → root_of e ≡ Constant → Seen e true (Some (value_of e)) true
unfolding exact exact_fits written
seen-constant e h = subst (λ (x : Expr). Seen x true (Some (value_of e)) true) (sym (constant-root e h)) (number (root_argument e) (value_of e))
  where
    number : (w x : ℕ) → Seen (constant w x) true (Some x) true
    number w x = record { fits_is = refl; exact_is = refl; written_is = refl }

pub seen-cast : (e : Expr) {t : ℕ} {a : Expr} → e ≡ cast t a → Seen e (exact_fits a) (at_most_one (exact a)) (written a)
unfolding exact exact_fits written
seen-cast e h = record { fits_is = rw h; exact_is = rw h; written_is = rw h }

pub seen-binary : (e : Expr) {o o' : ℕ} {a b : Expr} {s k : Shape} → e ≡ binary o a b → s ≡ shape o' a b → o' ≡ o → s ≡ k
    → Seen e (shape_fits k a b) (shape_value k a b) (shape_written k (written a) (written b))
unfolding exact exact_fits written
seen-binary e h g p is = record { fits_is = rw (h, ← p, ← g, is); exact_is = rw (h, ← p, ← g, is); written_is = rw (h, ← p, ← g, is) }

pub seen-other : (e : Expr) → (root_of e ≡ Constant → ⊥) → (root_of e ≡ Cast → ⊥) → (root_of e ≡ Binary → ⊥) → Seen e true None false
unfolding exact exact_fits written root_of
seen-other (variable n) h c b = record { fits_is = refl; exact_is = refl; written_is = refl }
seen-other (constant w x) h c b = absurd (h refl)
seen-other condition_true h c b = record { fits_is = refl; exact_is = refl; written_is = refl }
seen-other condition_false h c b = record { fits_is = refl; exact_is = refl; written_is = refl }
seen-other (effect t) h c b = record { fits_is = refl; exact_is = refl; written_is = refl }
seen-other (load t a) h c b = record { fits_is = refl; exact_is = refl; written_is = refl }
seen-other (cast t a) h c b = absurd (c refl)
seen-other (binary o a b) h c d = absurd (d refl)
seen-other (ternary c a b) h d e = record { fits_is = refl; exact_is = refl; written_is = refl }

-- the answer for a part from what is seen of it
pub found : {e : Expr} {f : Bool} {v : Option ℕ} {w : Bool} {r : Result (Option ℕ) TooMany} → Seen e f v w → r ≡ within f v → r ≡ within (exact_fits e) (exact e)
found s h = rw (s.fits_is, s.exact_is) h
