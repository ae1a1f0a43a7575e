-- A polynomial is known by its values: two ascending lists that are alike at the bits of every monomial are equal. With it
-- every law of sums and products of polynomials is one of truth values.
use Prim.Native.Nat.{ℕ, ◌<◌}
use mathlib.Core.Path.{◌≡◌, refl, sym, ap, ◌∙◌}
use mathlib.Core.Bool.{Bool, true, false, xor, true≢false, and_comm}
use mathlib.Core.List.{List, [], ◌∷◌}
use native.Mathlib.Decide.{dec_lt}
use native.Mathlib.Omega.{arith}
use Rattle.search.specs.Ascending.{Ascending}
use Rattle.search.proofs.Laws.{ascending-none}
use Rattle.poly.proofs.Order.{Below, none, first, Rising, empty, more, rising, ascending}
use Rattle.poly.specs.Terms.{sum, product}
use Rattle.poly.specs.Meaning.{bits, holds, value}
use Rattle.poly.proofs.Sets.{holds-own, holds-greater}
use Rattle.poly.proofs.Values.{xor-none, xor_comm, xor_assoc, xor-cancel, below-lower, value-sum, value-product, value-one, ascending-sum, ascending-product}

-- At the bits of a monomial below all terms, an ascending list is zero,
value-below : (m : ℕ) (l : List ℕ) → Below m l → Rising l → value (bits m) l ≡ false
unfolding value
value-below m [] b up = refl
value-below m (x ∷ l) (first less) (more b up) =
    rw (holds-greater x m less, value-below m l (below-lower less b) up) (xor-none false)

-- and at the bits of its first term it is one.
value-first : (x : ℕ) (l : List ℕ) → Below x l → Rising l → value (bits x) (x ∷ l) ≡ true
unfolding value
value-first x l b up = rw (holds-own x, value-below x l b up) (xor-none true)

-- So the lesser of two first terms tells the lists apart.
apart : (x : ℕ) (l k : List ℕ) → Below x l → Rising l → Below x k → Rising k
    → ((m : ℕ) → value (bits m) (x ∷ l) ≡ value (bits m) k) → ⊥
apart x l k b up b' up' alike = true≢false (sym (value-first x l b up) ∙ alike x ∙ value-below x k b' up')

-- Behind an equal first term the rests are alike.
alike-rest : (e : ℕ → Bool) (x : ℕ) (l k : List ℕ) → value e (x ∷ l) ≡ value e (x ∷ k) → value e l ≡ value e k
unfolding value
alike-rest e x l k alike = cancel (holds e x) (value e l) (value e k) alike
  where
    cancel : (a b c : Bool) → xor a b ≡ xor a c → b ≡ c
    cancel a b c h = sym (xor-cancel a b) ∙ ap (λ (t : Bool). xor a t) h ∙ xor-cancel a c

known-by-values : (a b : List ℕ) → Rising a → Rising b → ((m : ℕ) → value (bits m) a ≡ value (bits m) b) → a ≡ b
known-by-values [] [] up up' alike = refl
known-by-values [] (y ∷ b) up (more h up') alike = absurd (apart y b [] h up' none empty (λ m. sym (alike m)))
known-by-values (x ∷ a) [] (more h up) up' alike = absurd (apart x a [] h up none empty alike)
known-by-values (x ∷ a) (y ∷ b) (more h up) (more h' up') alike =
    go (dec_lt x y) (dec_lt y x) (λ same. known-by-values a b up up' (λ m. alike-rest (bits m) x a b (alike m ∙ rw same)))
  where
    go : Dec (x < y) → Dec (y < x) → (x ≡ y → a ≡ b) → (x ∷ a) ≡ (y ∷ b)
    go (yes less) other rest = absurd (apart x a (y ∷ b) h up (first less) (more h' up') alike)
    go (no upto) (yes less) rest = absurd (apart y b (x ∷ a) h' up' (first less) (more h up) (λ m. sym (alike m)))
    go (no upto) (no from) rest = let same : x ≡ y = omega arith in rw (same, rest same)

pub unique : (a b : List ℕ) → Ascending a → Ascending b → ((m : ℕ) → value (bits m) a ≡ value (bits m) b) → a ≡ b
unique a b up up' alike = known-by-values a b (rising a up) (rising b up') alike

-- A polynomial that is one everywhere is the constant one, and one that is zero everywhere has no terms.
pub one-everywhere : (a : List ℕ) → Ascending a → ((m : ℕ) → value (bits m) a ≡ true) → a ≡ 0 ∷ []
one-everywhere a up one = unique a (0 ∷ []) up (ascending (more none empty)) (λ m. one m ∙ sym (value-one (bits m)))

pub zero-everywhere : (a : List ℕ) → Ascending a → ((m : ℕ) → value (bits m) a ≡ false) → a ≡ []
unfolding value
zero-everywhere a up zero = unique a [] up ascending-none zero

-- Two that differ everywhere have the sum one, and two that are alike the sum zero.
pub differ-everywhere : (a b : List ℕ) → Ascending a → ((m : ℕ) → xor (value (bits m) a) (value (bits m) b) ≡ true)
    → sum a b ≡ 0 ∷ []
differ-everywhere a b up differ = one-everywhere (sum a b) (ascending-sum a b up) (λ m. value-sum (bits m) a b ∙ differ m)

-- Sums and products in any order.
pub sum_comm : (a b : List ℕ) → Ascending a → Ascending b → sum a b ≡ sum b a
sum_comm a b up up' =
    unique (sum a b) (sum b a) (ascending-sum a b up) (ascending-sum b a up')
    (λ m. value-sum (bits m) a b ∙ xor_comm (value (bits m) a) (value (bits m) b) ∙ sym (value-sum (bits m) b a))

pub sum-assoc : (a b c : List ℕ) → Ascending a → sum (sum a b) c ≡ sum a (sum b c)
sum-assoc a b c up =
    unique (sum (sum a b) c) (sum a (sum b c)) (ascending-sum (sum a b) c (ascending-sum a b up)) (ascending-sum a (sum b c) up)
    (λ m. rw (value-sum (bits m) (sum a b) c, value-sum (bits m) a b, value-sum (bits m) a (sum b c), value-sum (bits m) b c)
    (xor_assoc (value (bits m) a) (value (bits m) b) (value (bits m) c)))

pub product-comm : (a b : List ℕ) → product a b ≡ product b a
product-comm a b =
    unique (product a b) (product b a) (ascending-product a b) (ascending-product b a)
    (λ m. value-product (bits m) a b ∙ and_comm (value (bits m) a) (value (bits m) b) ∙ sym (value-product (bits m) b a))
