-- The numbers that digits stand for, by place value.
use Rattle.std.specs.Prelude.{ℕ, ◌+◌, ◌-◌, ◌*◌, List, [], ◌∷◌, cond, ltb}

-- the value of a digit: codes from 48 on stand for 0 to 9, codes from 97 on for 10 to 15
abbrev pub digit_value : ℕ → ℕ
digit_value code = cond (ltb code 97) (code - 48) (code - 87)

-- the number that digits in a base make, read from the first on, after digits that make one already
unfoldable pub number_after : ℕ → ℕ → List ℕ → ℕ
number_after base before [] = before
number_after base before (code ∷ rest) = number_after base (before * base + digit_value code) rest

-- the number that digits in a base make
abbrev pub number_of : ℕ → List ℕ → ℕ
number_of base text = number_after base 0 text
