-- Adding a term, a sum and a product, at a choice of bits; and that they keep the order.
use Prim.Native.Nat.{ℕ, ◌≤◌, ◌<◌}
use mathlib.Core.Path.{◌≡◌, refl, sym, ap, ◌∙◌}
use mathlib.Core.Bool.{Bool, true, false, cond, ◌&&◌, xor, and-false}
use mathlib.Core.List.{List, [], ◌∷◌}
use native.Mathlib.Nat.{lt_trans}
use native.Mathlib.Omega.{arith}
use lib.Bits.{bit_or}
use lib.Dec.{ltb, eqb}
use borrow.Author.Tests.{ltb-true, ltb-false, eqb-true, eqb-false}
use Rattle.search.specs.Ascending.{Ascending}
use Rattle.search.proofs.Laws.{ascending-none}
use Rattle.poly.proofs.Order.{Below, none, first, Rising, empty, more, rising, ascending}
use Rattle.poly.specs.Terms.{toggle, sum, sum_times, sum_product, product}
use Rattle.poly.specs.Meaning.{holds, value}
use Rattle.poly.proofs.Sets.{holds-or, holds-none}

-- exclusive or on truth values
pub xor-none : (a : Bool) → xor a false ≡ a
unfolding xor
xor-none true = refl
xor-none false = refl

pub none-xor : (a : Bool) → xor false a ≡ a
unfolding xor
none-xor true = refl
none-xor false = refl

pub xor_assoc : (a b c : Bool) → xor (xor a b) c ≡ xor a (xor b c)
unfolding xor
xor_assoc true true true = refl
xor_assoc true true false = refl
xor_assoc true false true = refl
xor_assoc true false false = refl
xor_assoc false true true = refl
xor_assoc false true false = refl
xor_assoc false false true = refl
xor_assoc false false false = refl

pub xor_comm : (a b : Bool) → xor a b ≡ xor b a
unfolding xor
xor_comm true true = refl
xor_comm true false = refl
xor_comm false true = refl
xor_comm false false = refl

pub xor-cancel : (a b : Bool) → xor a (xor a b) ≡ b
unfolding xor
xor-cancel true true = refl
xor-cancel true false = refl
xor-cancel false true = refl
xor-cancel false false = refl

xor-swap : (a b c : Bool) → xor a (xor b c) ≡ xor b (xor a c)
xor-swap a b c = sym (xor_assoc a b c) ∙ ap (λ (t : Bool). xor t c) (xor_comm a b) ∙ xor_assoc b a c

-- and over exclusive or
and_xor : (a b c : Bool) → (a && xor b c) ≡ xor (a && b) (a && c)
unfolding xor
and_xor true b c = refl
and_xor false b c = refl

xor-and : (a b c : Bool) → (xor a b && c) ≡ xor (a && c) (b && c)
unfolding xor
xor-and true true true = refl
xor-and true true false = refl
xor-and true false true = refl
xor-and true false false = refl
xor-and false true true = refl
xor-and false true false = refl
xor-and false false true = refl
xor-and false false false = refl

-- Toggling a term turns the value where the term is one.
pub value-toggle : (e : ℕ → Bool) (t : ℕ) (l : List ℕ) → value e (toggle t l) ≡ xor (holds e t) (value e l)
unfolding toggle value
value-toggle e t [] = refl
value-toggle e t (x ∷ l) = go (ltb x t) (eqb x t) refl (value-toggle e t l)
  where
    go : (less same : Bool) → eqb x t ≡ same → value e (toggle t l) ≡ xor (holds e t) (value e l)
        → value e (cond less (x ∷ toggle t l) (cond same l (t ∷ x ∷ l))) ≡ xor (holds e t) (xor (holds e x) (value e l))
    go true same test rest = rw rest (xor-swap (holds e x) (holds e t) (value e l))
    go false true test rest = rw (eqb-true x t test) (sym (xor-cancel (holds e t) (value e l)))
    go false false test rest = refl

-- A sum is the exclusive or.
pub value-sum : (e : ℕ → Bool) (l a : List ℕ) → value e (sum l a) ≡ xor (value e l) (value e a)
unfolding sum value
value-sum e l [] = sym (xor-none (value e l))
value-sum e l (t ∷ a) =
    value-sum e (toggle t l) a
    ∙ ap (λ (v : Bool). xor v (value e a)) (value-toggle e t l ∙ xor_comm (holds e t) (value e l))
    ∙ xor_assoc (value e l) (holds e t) (value e a)

-- x times each term of b, added.
pub value-times : (e : ℕ → Bool) (l : List ℕ) (x : ℕ) (b : List ℕ)
    → value e (sum_times l x b) ≡ xor (value e l) (holds e x && value e b)
unfolding sum_times value
value-times e l x [] = rw and-false (sym (xor-none (value e l)))
value-times e l x (y ∷ b) =
    value-times e (toggle (bit_or x y) l) x b
    ∙ ap (λ (v : Bool). xor v (holds e x && value e b))
    (value-toggle e (bit_or x y) l ∙ xor_comm (holds e (bit_or x y)) (value e l)
    ∙ ap (λ (v : Bool). xor (value e l) v) (holds-or x y e))
    ∙ xor_assoc (value e l) (holds e x && holds e y) (holds e x && value e b)
    ∙ ap (λ (v : Bool). xor (value e l) v) (sym (and_xor (holds e x) (holds e y) (value e b)))

-- Each term of a times each term of b, added.
pub value-sum-product : (e : ℕ → Bool) (l a b : List ℕ)
    → value e (sum_product l a b) ≡ xor (value e l) (value e a && value e b)
unfolding sum_product value
value-sum-product e l [] b = sym (xor-none (value e l))
value-sum-product e l (x ∷ a) b =
    value-sum-product e (sum_times l x b) a b
    ∙ ap (λ (v : Bool). xor v (value e a && value e b)) (value-times e l x b)
    ∙ xor_assoc (value e l) (holds e x && value e b) (value e a && value e b)
    ∙ ap (λ (v : Bool). xor (value e l) v) (sym (xor-and (holds e x) (value e a) (value e b)))

-- A product is the and.
pub value-product : (e : ℕ → Bool) (a b : List ℕ) → value e (product a b) ≡ (value e a && value e b)
unfolding value
value-product e a b = value-sum-product e [] a b ∙ none-xor (value e a && value e b)

-- The constant one.
pub value-one : (e : ℕ → Bool) → value e (0 ∷ []) ≡ true
unfolding value
value-one e = rw (holds-none e) (xor-none true)

-- Toggling keeps the order.
pub below-lower : {x y : ℕ} {l : List ℕ} → x < y → Below y l → Below x l
below-lower less none = none
below-lower less (first h) = first (lt_trans less h)

below-toggle : (x t : ℕ) (l : List ℕ) → x < t → Below x l → Rising l → Below x (toggle t l)
unfolding toggle
below-toggle x t [] less b up = first less
below-toggle x t (y ∷ l) less (first h) (more b up) = go (ltb y t) (eqb y t)
  where
    go : (lower same : Bool) → Below x (cond lower (y ∷ toggle t l) (cond same l (t ∷ y ∷ l)))
    go true same = first h
    go false true = below-lower h b
    go false false = first less

rising-toggle : (t : ℕ) (l : List ℕ) → Rising l → Rising (toggle t l)
unfolding toggle
rising-toggle t [] up = more none empty
rising-toggle t (x ∷ l) (more b up) = go (ltb x t) (eqb x t) refl refl (rising-toggle t l up)
  where
    go : (lower same : Bool) → ltb x t ≡ lower → eqb x t ≡ same → Rising (toggle t l)
        → Rising (cond lower (x ∷ toggle t l) (cond same l (t ∷ x ∷ l)))
    go true same less test rest = more (below-toggle x t l (ltb-true x t less) b up) rest
    go false true less test rest = up
    go false false less test rest =
        let off : x ≡ t → ⊥ = eqb-false x t test in
        let upto : t ≤ x = ltb-false x t less in
        let under : t < x = omega arith in
        more (first under) (more b up)

-- The same of `Ascending`.
pub ascending-toggle : (t : ℕ) (l : List ℕ) → Ascending l → Ascending (toggle t l)
ascending-toggle t l up = ascending (rising-toggle t l (rising l up))

pub ascending-sum : (l a : List ℕ) → Ascending l → Ascending (sum l a)
unfolding sum
ascending-sum l [] up = up
ascending-sum l (t ∷ a) up = ascending-sum (toggle t l) a (ascending-toggle t l up)

pub ascending-times : (l : List ℕ) (x : ℕ) (b : List ℕ) → Ascending l → Ascending (sum_times l x b)
unfolding sum_times
ascending-times l x [] up = up
ascending-times l x (y ∷ b) up = ascending-times (toggle (bit_or x y) l) x b (ascending-toggle (bit_or x y) l up)

pub ascending-sum-product : (l a b : List ℕ) → Ascending l → Ascending (sum_product l a b)
unfolding sum_product
ascending-sum-product l [] b up = up
ascending-sum-product l (x ∷ a) b up = ascending-sum-product (sum_times l x b) a b (ascending-times l x b up)

pub ascending-product : (a b : List ℕ) → Ascending (product a b)
ascending-product a b = ascending-sum-product [] a b ascending-none
