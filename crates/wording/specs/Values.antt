-- How sentences write values.
use Rattle.std.specs.Prelude.{ℕ, ◌+◌, ◌-◌, ◌%◌, ◌^◌, ◌≤◌, ◌≡◌, cond, List, [], ◌++◌, length, leb, codes, Option, Some, None}
use Rattle.isa.specs.declared.Register.{Register}
use Rattle.alu.specs.declared.Width.{Width}
use Rattle.alu.specs.Width.{bits, width_of}
use Rattle.text.specs.Digits.{digits, decimal, hexadecimal}
use Rattle.wording.specs.declared.Shown.{Shown}
use Rattle.wording.specs.Names.{register_name}

-- A pattern below a modulus, read as signed: from -9 to 9 in base ten, else the pattern itself in base sixteen (W4).
unfoldable pub signed_below : (modulus x : ℕ) → List ℕ
signed_below modulus x =
    cond (leb x 9) (decimal x) (cond (leb modulus (x + 9)) (codes "-" ++ decimal (modulus - x)) (codes "0x" ++ hexadecimal x))

-- The Rust's `signed_text`: the low bits that the width has, so written (W4).
unfoldable pub signed_text : Width → ℕ → List ℕ
signed_text w value = signed_below (2 ^ bits w) (value % 2 ^ bits w)

-- a size that has no width has no values
abbrev pub sized_text : Option Width → ℕ → List ℕ
sized_text (Some w) value = signed_text w value
sized_text None value = []

-- That a register is a value, at a size in bits (W5).
unfoldable pub is_text : Register → ℕ → ℕ → List ℕ
is_text r size value = register_name r ++ codes " is " ++ sized_text (width_of size) value

-- what is shown and its digits are that text
pub record Shows (s : Shown) (text : List ℕ) : Type 0 where
  pub short : length s.front.now ≤ 2
  pub few : s.digits ≤ 16
  pub is : s.front.now ++ digits 16 s.digits s.number ≡ text
