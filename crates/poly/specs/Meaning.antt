-- What a polynomial modulo two is at a choice of bits for its atoms.
use Rattle.std.specs.Prelude.{ℕ, zero, suc, ◌/◌, ◌%◌, Bool, true, false, not, ◌&&◌, ◌||◌, List, [], ◌∷◌, eqb}
use Rattle.std.specs.Bool.{xor}

-- The binary digits of a number, the lowest first: which atoms a monomial has.
unfoldable pub bits : ℕ → ℕ → Bool
bits m zero = eqb (m % 2) 1
bits m (suc i) = bits (m / 2) i

-- Whether every number below n passes a test.
unfoldable pub every : ℕ → (ℕ → Bool) → Bool
every zero f = true
every (suc n) f = f 0 && every n (λ i. f (suc i))

-- A monomial is one where the bits of all its atoms are. The atoms of m have numbers below m. (F16)
unfoldable pub holds : (ℕ → Bool) → ℕ → Bool
holds e m = every m (λ i. not (bits m i) || e i)

-- A polynomial is the exclusive or of its terms. (N11)
unfoldable pub value : (ℕ → Bool) → List ℕ → Bool
value e [] = false
value e (m ∷ l) = xor (holds e m) (value e l)
