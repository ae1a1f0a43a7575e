-- Numbers as digits, in ASCII.
use Rattle.std.specs.Prelude.{ℕ, zero, suc, ◌+◌, ◌/◌, ◌%◌, List, [], ◌∷◌, ◌++◌, cond, ltb}

-- a digit below sixteen: 0 to 9, then a to f
abbrev pub digit : ℕ → ℕ
digit d = cond (ltb d 10) (48 + d) (87 + d)

-- the last k digits of n in a base, the highest first
unfoldable pub digits : ℕ → ℕ → ℕ → List ℕ
digits base zero n = []
digits base (suc k) n = digits base k (n / base) ++ (digit (n % base) ∷ [])

-- how many digits n has in a base, if n can be divided by the base at most so many times before it is below it
unfoldable pub places_within : ℕ → ℕ → ℕ → ℕ
places_within base zero n = 1
places_within base (suc times) n = cond (ltb n base) 1 (suc (places_within base times (n / base)))

-- how many digits n has in a base
abbrev pub places_of : ℕ → ℕ → ℕ
places_of base n = places_within base n n

-- n in base ten, without leading zeros
abbrev pub decimal : ℕ → List ℕ
decimal n = digits 10 (places_of 10 n) n

-- n in base sixteen, without leading zeros
abbrev pub hexadecimal : ℕ → List ℕ
hexadecimal n = digits 16 (places_of 16 n) n
