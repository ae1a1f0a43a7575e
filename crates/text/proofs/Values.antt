-- The digits of a number make it again, and there are no more of them than it takes.
use Prim.Native.Nat.{ℕ, zero, suc, ◌+◌, ◌*◌, ◌/◌, ◌%◌, ◌^◌, ◌≤◌, ◌<◌}
use mathlib.Core.Path.{◌≡◌, refl, sym, ◌∙◌}
use mathlib.Core.Bool.{Bool, true, false, cond}
use mathlib.Core.List.{List, [], ◌∷◌, ◌++◌}
use native.Mathlib.Nat.{pow-zero, pow-suc, pow-succ', pow-le-pow_right, mul-pos, one-mul, mod-lt, mod-one, mod-eq_of_lt, div-lt_iff_lt-mul}
use native.Mathlib.Omega.{arith}
use lib.Arith.{mod-mul}
use lib.Dec.{leb, ltb}
use borrow.Author.Tests.{leb-true, leb-false, ltb-true, ltb-false, lt-ltb, le-ltb}
use Rattle.text.specs.Digits.{digit, digits, places_within, places_of}
use Rattle.text.proofs.Lengths.{falls, places-most}
use Rattle.text.specs.Numbers.{digit_value, number_after, number_of}

pow-positive : (base k : ℕ) → 0 < base → 0 < base ^ k
pow-positive base zero some = rw pow-zero (omega arith)
pow-positive base (suc k) some = rw pow-suc (mul-pos (pow-positive base k some) some)

number_append : (base before : ℕ) (a b : List ℕ) → number_after base before (a ++ b) ≡ number_after base (number_after base before a) b
unfolding number_after
number_append base before [] b = refl
number_append base before (x ∷ a) b = number_append base (before * base + digit_value x) a b

digit_value_lem : (d : ℕ) → d < 16 → digit_value (digit d) ≡ d
digit_value_lem d h = go (ltb d 10) refl
  where
    go : (small : Bool) → ltb d 10 ≡ small → digit_value (digit d) ≡ d
    go true e = rw (e, lt-ltb (48 + d) 97 (omega (arith, ltb-true d 10 e))) (omega arith)
    go false e = rw (e, le-ltb (87 + d) 97 (omega (arith, ltb-false d 10 e))) (omega arith)

-- the last k digits make what is left of the number modulo the base's power
pub digits_number : (base k n : ℕ) → 0 < base → base ≤ 16 → number_of base (digits base k n) ≡ n % base ^ k
unfolding digits number_after
digits_number base zero n some most = rw pow-zero (sym (mod-one n))
digits_number base (suc k) n some most =
    number_append base 0 (digits base k (n / base)) (digit (n % base) ∷ [])
    ∙ rw (digits_number base k (n / base) some most, digit_value_lem (n % base) (omega (arith, mod-lt n some)))
    (sym (rw pow-suc (mod-mul n {m = base ^ k} {c = base} (pow-positive base k some) some)))

within-enough : (base times n : ℕ) → 2 ≤ base → n ≤ times → n < base ^ places_within base times n
unfolding places_within
within-enough base zero n two h = rw (pow-suc, pow-zero, one-mul) (omega arith)
within-enough base (suc times) n two h =
    go (ltb n base) refl (λ more. within-enough base times (n / base) two (omega (arith, falls base n two more)))
  where
    go : (small : Bool) → ltb n base ≡ small → (base ≤ n → n / base < base ^ places_within base times (n / base))
        → n < base ^ cond small 1 (suc (places_within base times (n / base)))
    go true e part = rw (pow-suc, pow-zero, one-mul) (ltb-true n base e)
    go false e part = rw pow-suc ((div-lt_iff_lt-mul {k = base} (omega arith)).0 (part (ltb-false n base e)))

-- a number's digits make it; with places-most, so many digits and no fewer do
pub places-enough : (base n : ℕ) → 2 ≤ base → n < base ^ places_of base n
places-enough base n two = within-enough base n n two (omega arith)

-- the whole part of a logarithm is one less than the number of digits
pub places-log : (base k n : ℕ) → 2 ≤ base → base ^ k ≤ n → n < base * base ^ k → suc k ≡ places_of base n
places-log base k n two low high =
    let most : places_of base n ≤ suc k = places-most base k n (omega arith) (rw pow-succ' high) in
    go (leb (places_of base n) k) refl most
  where
    go : (few : Bool) → leb (places_of base n) k ≡ few → places_of base n ≤ suc k → suc k ≡ places_of base n
    go true e most =
        absurd (omega (arith, pow-le-pow_right {n = base} (omega arith) (leb-true (places_of base n) k e), places-enough base n two, low))
    go false e most = omega (arith, leb-false (places_of base n) k e, most)

pub number_is : (base n : ℕ) → 2 ≤ base → base ≤ 16 → number_of base (digits base (places_of base n) n) ≡ n
number_is base n two most = digits_number base (places_of base n) n (omega arith) most ∙ mod-eq_of_lt (places-enough base n two)
