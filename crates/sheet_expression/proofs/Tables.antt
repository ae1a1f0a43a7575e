-- Laws of tables packed into one number, and of the types of records whose arguments are in their tables.
use Prim.Native.Nat.{ℕ, zero, suc, ◌*◌, ◌≤◌, ◌<◌, max}
use mathlib.Core.Path.{◌≡◌, refl}
use mathlib.Core.List.{List, [], ◌∷◌}
use mathlib.Core.Logic.{◌⊎◌, inl, inr, ⊎_elim}
use mathlib.Core.Bool.{Bool, true, false, cond, ◌&&◌, ◌||◌, or-false}
use native.Mathlib.Omega.{arith}
use native.Mathlib.Nat.{eq-or-lt_of_le}
use lib.Dec.{eqb, ltb, lit<}
use lib.ListN.{length, get_or, replicate}
use lib.Pow.{pow_pos}
use borrow.Author.Tests.{eqb-true, ltb-true, le-ltb}
use Rattle.laws.proofs.Booleans.{and_left, and_right}
use Rattle.expr.specs.Tree.{kind_of, argument_of}
use Rattle.expr.specs.Types.{bits, plain_type, promoted, common, together, record_types, record_type}
use Rattle.expr.specs.Admission.{InTable}
use Rattle.expr.proofs.Laws.{nine}
use Rattle.expr.proofs.Admission.{together-in, binary-in, constant-in}
use Rattle.sheet_expression.specs.Promises.{Tagged}
use Rattle.sheet_expression.proofs.OneRecord.{or-true}

-- a test of every number below a limit
every : (ℕ → Bool) → ℕ → Bool
every test zero = true
every test (suc n) = test n && every test n

each : (test : ℕ → Bool) (n k : ℕ) → every test n ≡ true → k < n → test k ≡ true
unfolding every
each test zero k all below = absurd (omega arith)
each test (suc n) k all below =
    ⊎_elim (λ (z : suc k ≡ suc n). let e : k ≡ n = omega arith in rw e (and_left (test n) (every test n) all))
    (λ (less : suc k < suc n). each test n k (and_right (test n) (every test n) all) (omega arith))
    (eq-or-lt_of_le below)

-- the entries of an empty stack
pub zeros-below : (n j : ℕ) → get_or (replicate n 0) j 0 < 10
zeros-below zero j = lit< tt
zeros-below (suc n) zero = lit< tt
zeros-below (suc n) (suc j) = zeros-below n j

-- by type, the place in the order of what operands are promoted to, and by two places the type
abbrev rank : ℕ → ℕ
rank a = get_or (0 ∷ 0 ∷ 0 ∷ 2 ∷ 0 ∷ 0 ∷ 1 ∷ 3 ∷ 3 ∷ 0 ∷ []) a 0

abbrev ranked : ℕ → ℕ → ℕ
ranked a b = get_or (2 ∷ 6 ∷ 3 ∷ 7 ∷ []) (max (rank a) (rank b)) 0

right : ℕ → ℕ → Bool
right a b = ltb (max (rank a) (rank b)) 4 && eqb (ranked a b) (together a b)

ranks-right : (a b : ℕ) → a < 10 → b < 10 → right a b ≡ true
unfolding every right common promoted plain_type bits
ranks-right a b h k = each (right a) 10 b (each (λ (x : ℕ). every (right x) 10) 10 a refl h) k

pub rank-below : (a b : ℕ) → a < 10 → b < 10 → max (rank a) (rank b) < 4
unfolding right
rank-below a b h k = ltb-true _ _ (and_left (ltb (max (rank a) (rank b)) 4) (eqb (ranked a b) (together a b)) (ranks-right a b h k))

pub ranked-is : (a b : ℕ) → a < 10 → b < 10 → ranked a b ≡ together a b
unfolding right
ranked-is a b h k = eqb-true _ _ (and_right (ltb (max (rank a) (rank b)) 4) (eqb (ranked a b) (together a b)) (ranks-right a b h k))

pub together-self : (a : ℕ) → together a a ≡ promoted a
unfolding common
together-self a = rw (le-ltb (bits (promoted a)) (bits (promoted a)) (omega arith)) (same (ltb (promoted a) 4))
  where
    same : (t : Bool) → cond t (promoted a) (promoted a) ≡ promoted a
    same true = refl
    same false = refl

-- the type of a record, kind by kind
module _ (types : List ℕ) (n a b k : ℕ) where
  pub own-type : 4 ≤ k → k < 7 → n ≡ get_or (record_types types n a b) k 10
  own-type from to =
      nine (λ (k : ℕ). 4 ≤ k → k < 7 → n ≡ get_or (record_types types n a b) k 10)
      (λ g h. absurd (omega arith)) (λ g h. absurd (omega arith)) (λ g h. absurd (omega arith)) (λ g h. absurd (omega arith))
      (λ g h. refl) (λ g h. refl) (λ g h. refl) (λ g h. absurd (omega arith)) (λ g h. absurd (omega arith))
      k (omega arith) from to

  pub truth-type : 2 ≤ k → k < 4 → 2 ≡ get_or (record_types types n a b) k 10
  truth-type from to =
      nine (λ (k : ℕ). 2 ≤ k → k < 4 → 2 ≡ get_or (record_types types n a b) k 10)
      (λ g h. absurd (omega arith)) (λ g h. absurd (omega arith)) (λ g h. refl) (λ g h. refl)
      (λ g h. absurd (omega arith)) (λ g h. absurd (omega arith)) (λ g h. absurd (omega arith)) (λ g h. absurd (omega arith)) (λ g h. absurd (omega arith))
      k (omega arith) from to

-- what a tag's argument is below
pub variable-below : (variables tag : ℕ) → Tagged variables tag → kind_of tag ≡ 0 → argument_of tag < variables
variable-below variables tag t e = ltb-true _ _ (simp or-false at (rw e at (t.argument (rw e))))

pub operator-below : (variables tag : ℕ) → Tagged variables tag → kind_of tag ≡ 7 → argument_of tag < 18
operator-below variables tag t e = ltb-true _ _ (rw e at (t.argument (rw e)))

width_of : (w : ℕ) → (eqb w 1 || eqb w 2 || eqb w 4 || eqb w 8) ≡ true → (w ≡ 1) ⊎ ((w ≡ 2) ⊎ ((w ≡ 4) ⊎ (w ≡ 8)))
width_of w h =
    ⊎_elim
    (λ (d : (eqb w 1 || eqb w 2 || eqb w 4) ≡ true). ⊎_elim
    (λ (d' : (eqb w 1 || eqb w 2) ≡ true). ⊎_elim (λ (q : eqb w 1 ≡ true). inl (eqb-true w 1 q)) (λ (q : eqb w 2 ≡ true). inr (inl (eqb-true w 2 q))) (or-true (eqb w 1) (eqb w 2) d'))
    (λ (q : eqb w 4 ≡ true). inr (inr (inl (eqb-true w 4 q))))
    (or-true (eqb w 1 || eqb w 2) (eqb w 4) d))
    (λ (q : eqb w 8 ≡ true). inr (inr (inr (eqb-true w 8 q))))
    (or-true (eqb w 1 || eqb w 2 || eqb w 4) (eqb w 8) h)

-- a record's type is a type
pub record-in : (types : List ℕ) (tag a b : ℕ) → InTable types → Tagged (length types) tag → a < 10 → b < 10 → record_type types tag a b < 10
unfolding record_type
record-in types tag a b table t h k =
    nine (λ (n : ℕ). kind_of tag ≡ n → get_or (record_types types (argument_of tag) a b) n 10 < 10)
    (λ e. table (argument_of tag) (variable-below (length types) tag t e))
    (λ e. constant-in (argument_of tag) 0 record { width = width_of (argument_of tag) (simp or-false at (rw e at (t.argument (rw e)))); fits = pow_pos (8 * argument_of tag) })
    (λ e. lit< tt)
    (λ e. lit< tt)
    (λ e. ltb-true _ _ (simp or-false at (rw e at (t.argument (rw e)))))
    (λ e. ltb-true _ _ (simp or-false at (rw e at (t.argument (rw e)))))
    (λ e. ltb-true _ _ (simp or-false at (rw e at (t.argument (rw e)))))
    (λ e. binary-in (argument_of tag) a b (operator-below (length types) tag t e) h k)
    (λ e. together-in a b h k)
    (kind_of tag) t.kind refl
