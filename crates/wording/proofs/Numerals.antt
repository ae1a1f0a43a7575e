-- Values as text, for any modulus.
use Prim.Native.Nat.{ℕ, ◌+◌, ◌-◌, ◌%◌, ◌^◌, ◌≤◌, ◌<◌}
use mathlib.Core.Path.{◌≡◌, ap}
use mathlib.Core.List.{List, ◌++◌}
use lib.Chars.{codes}
use native.Mathlib.Nat.{mod-eq_of_lt, mod-lt}
use native.Mathlib.Omega.{arith}
use borrow.Author.Tests.{le-leb, lt-leb}
use lib.Pow.{pow_pos}
use Rattle.alu.specs.declared.Width.{Width}
use Rattle.alu.specs.declared.Width.TheVariants.{Byte, Word, Double, Quad}
use Rattle.alu.specs.Width.{bits}
use Rattle.text.specs.Digits.{digits, places_of, decimal}
use Rattle.text.proofs.Lengths.{places-few as one-place, places-most}
use Rattle.wording.specs.Values.{signed_below}

-- a digit below ten is the same in both bases
same-digit : (n : ℕ) → n ≤ 9 → digits 16 1 n ≡ decimal n
unfolding digits
same-digit n h =
    let ten : n < 10 = omega arith in
    let sixteen : n < 16 = omega arith in
    rw (one-place 10 n ten, mod-eq_of_lt sixteen, mod-eq_of_lt ten)

pub small : (modulus x : ℕ) → x ≤ 9 → digits 16 1 x ≡ signed_below modulus x
unfolding signed_below
small modulus x h = rw (le-leb x 9 h) (same-digit x h)

pub negative : (modulus x most : ℕ) → most ≡ modulus - 1 → 9 < x → x < modulus → most - x ≤ 8
    → codes "-" ++ digits 16 1 (most - x + 1) ≡ signed_below modulus x
unfolding signed_below
negative modulus x most most-is more less near =
    let left : most - x + 1 ≡ modulus - x = omega arith in
    rw (lt-leb x 9 more, le-leb modulus (x + 9) (omega arith), left)
    (ap (λ (l : List ℕ). codes "-" ++ l) (same-digit (modulus - x) (omega arith)))

pub pattern : (modulus x most places : ℕ) → most ≡ modulus - 1 → 9 < x → x < modulus → 8 < most - x → places ≡ places_of 16 x
    → codes "0x" ++ digits 16 places x ≡ signed_below modulus x
unfolding signed_below
pattern modulus x most places most-is more less far places_is =
    rw (lt-leb x 9 more, lt-leb modulus (x + 9) (omega arith), places_is)

pub few-places : (x places : ℕ) → x < 2 ^ 64 → places ≡ places_of 16 x → places ≤ 16
few-places x places fits is = rw is (places-most 16 15 x (omega arith) fits)

-- what is left of a value is below the width's modulus, and of the greatest number it is one less than that
pub left_below : (w : Width) (value x : ℕ) → x ≡ value % 2 ^ bits w → x < 2 ^ bits w
left_below w value x e = rw e (mod-lt value (pow_pos (bits w)))

pub greatest : (w : Width) (most : ℕ) → most ≡ 18446744073709551615 % 2 ^ bits w → most ≡ 2 ^ bits w - 1
greatest Byte most e = e
greatest Word most e = e
greatest Double most e = e
greatest Quad most e = e
