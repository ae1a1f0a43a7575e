-- What the bit pattern of a type stands for, and how whole numbers become patterns again. A type is its number.
use Rattle.std.specs.Prelude.{ℕ, suc, ◌+◌, ◌-◌, ◌*◌, ◌%◌, ◌^◌, Bool, cond, ◌&&◌, ℤ, pos, negsuc, ◌==◌, int_div, int_le, int_lt, int_rem, nat_le, nat_lt}
unfoldable pub use Rattle.expr.specs.Types.{bits}
pub use Rattle.expr.specs.Types.{signed}
use Rattle.expr.specs.Codes.{bool}
use Rattle.std.specs.Int.Signed.{shr_z}

-- x is a pattern of type t: it has no bit above the type's width, and a bool is 0 or 1 (E5, E6).
abbrev pub fits : ℕ → ℕ → Bool
fits t x = nat_lt x (2 ^ bits t)

-- a pattern of a signed type whose top bit is set
unfoldable pub negative : ℕ → ℕ → Bool
negative t x = signed t && nat_le (2 ^ bits t) (2 * x)

-- The whole number that the pattern x of type t stands for.
unfoldable pub number : ℕ → ℕ → ℤ
number t x = cond (negative t x) (negsuc (2 ^ bits t - suc x)) (pos x)

-- what a whole number leaves modulo m, never negative: -1 leaves m - 1
unfoldable pub residue : ℕ → ℤ → ℕ
residue m (pos n) = n % m
residue m (negsuc n) = m - 1 - n % m

-- The pattern of type t whose number differs from z by a multiple of 2 ^ bits (V6).
abbrev pub wrap : ℕ → ℤ → ℕ
wrap t z = residue (2 ^ bits t) z

-- A cast, and the conversion to a promoted or common type: the pattern of type t for the number that x of type s stands for; to bool it is 1
-- where x is not zero (V14, V15).
unfoldable pub convert : ℕ → ℕ → ℕ → ℕ
convert s t x = cond (t == bool) (cond (x == 0) 0 1) (wrap t (number s x))

-- Sum, difference and product of two patterns of type t, wrapped. A pattern and its number leave the same modulo 2 ^ bits, so the sign plays no
-- part (V6).
abbrev pub sum : ℕ → ℕ → ℕ → ℕ
sum t a b = (a + b) % 2 ^ bits t

abbrev pub difference : ℕ → ℕ → ℕ → ℕ
difference t a b = (a + (2 ^ bits t - b)) % 2 ^ bits t

abbrev pub product : ℕ → ℕ → ℕ → ℕ
product t a b = a * b % 2 ^ bits t

-- The quotient of the whole numbers, rounded toward zero, and what is left of the dividend, with the dividend's sign. b is not zero (V9).
unfoldable pub quotient : ℕ → ℕ → ℕ → ℕ
quotient t a b = wrap t (int_div (number t a) (number t b))

unfoldable pub remainder : ℕ → ℕ → ℕ → ℕ
remainder t a b = wrap t (int_rem (number t a) (number t b))

-- Shifts: a times 2 ^ k, wrapped; and a's number divided by 2 ^ k and rounded down, which fills with the sign (V7, V8).
abbrev pub shift_left : ℕ → ℕ → ℕ → ℕ
shift_left t a k = a * 2 ^ k % 2 ^ bits t

unfoldable pub shift_right : ℕ → ℕ → ℕ → ℕ
shift_right t a k = wrap t (shr_z (number t a) (2 ^ k))

-- A shift's count: the number that x of type s stands for, modulo the width of type t (V7).
unfoldable pub count : ℕ → ℕ → ℕ → ℕ
count t s x = residue (bits t) (number s x)

-- Comparisons of two patterns of one type, by the numbers that they stand for (V2).
unfoldable pub below : ℕ → ℕ → ℕ → Bool
below t a b = int_lt (number t a) (number t b)

unfoldable pub at_most : ℕ → ℕ → ℕ → Bool
at_most t a b = int_le (number t a) (number t b)
