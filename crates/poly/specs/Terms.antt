-- Polynomials with coefficients modulo two, as ascending lists of monomials. A monomial is a set of atoms, held as a number
-- whose binary digit i says whether atom i is in it; 0 is the empty set, the constant one. A product of monomials is their
-- union. Modulo two a term that stands twice is gone, so a term is added by toggling it. (F16)
use Rattle.std.specs.Prelude.{ℕ, cond, List, [], ◌∷◌, ◌++◌, ◌≡◌, length, take, drop, ltb, eqb}
use Rattle.std.specs.Int.Bits.{bit_or}

-- An ascending list with one term added: inserted where the order has it, or taken out where it is there. (F16)
unfoldable pub toggle : ℕ → List ℕ → List ℕ
toggle t [] = t ∷ []
toggle t (x ∷ l) = cond (ltb x t) (x ∷ toggle t l) (cond (eqb x t) l (t ∷ x ∷ l))

-- The running sum l with the terms of a added, one after the other. (N11)
unfoldable pub sum : List ℕ → List ℕ → List ℕ
sum l [] = l
sum l (t ∷ a) = sum (toggle t l) a

-- The running sum l with x times each term of b added.
unfoldable pub sum_times : List ℕ → ℕ → List ℕ → List ℕ
sum_times l x [] = l
sum_times l x (y ∷ b) = sum_times (toggle (bit_or x y) l) x b

-- The running sum l with each term of a times each term of b added.
unfoldable pub sum_product : List ℕ → List ℕ → List ℕ → List ℕ
sum_product l [] b = l
sum_product l (x ∷ a) b = sum_product (sum_times l x b) a b

-- The product is each pair's product, added up from nothing. (N11)
abbrev pub product : List ℕ → List ℕ → List ℕ
product a b = sum_product [] a b

-- A borrowed list with t written over its start; what stands beyond t is as it was.
abbrev pub over : List ℕ → List ℕ → List ℕ
over t l = t ++ drop (length t) l

-- t stands at the start of a borrowed list, as its first n entries; from `room` on the list is as it was. What stands between
-- them is left free: terms that cancelled.
pub record Written (t : List ℕ) (n room : ℕ) (old new : List ℕ) : Type 0 where
  pub count : n ≡ length t
  pub terms : take n new ≡ t
  pub beyond : drop room new ≡ drop room old
