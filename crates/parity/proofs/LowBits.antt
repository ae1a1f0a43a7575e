-- The low bit of what the value rules make of patterns. A pattern and its whole number have one low bit, and so have a value and
-- what it is converted to, for a type has at least one bit; only a conversion to bool can change it.
use Prim.Native.Nat.{ℕ, zero, suc, ◌+◌, ◌*◌, ◌-◌, ◌/◌, ◌%◌, ◌^◌, ◌<◌, ◌≤◌, min, max}
use mathlib.Core.Path.{◌≡◌, refl, sym, ap, ◌∙◌}
use mathlib.Core.Bool.{Bool, true, false, xor, ◌&&◌, ◌||◌, false≢true}
use native.Mathlib.Nat.{two-pow-succ, add-mul, mul_assoc, mul-add-mod_self_left, mul-mod_right, dvd_of_mod-eq-zero, mod-mod_of_dvd, dvd-mul_right, add-mod, mod-lt}
use native.Mathlib.Omega.{arith}
use lib.Bits.{differ, bit_and, bit_or, bit_xor, and_step, or_step, xor_step}
use lib.Dec.{eqb}
use lib.IntN.{ℤ, pos, negsuc, neg_ℤ, nat_abs}
use lib.Signed.{rem_z}
use Rattle.arith.specs.Numbers.{number, residue, convert, sum, difference, product, remainder, shift_left}
use Rattle.expr.specs.Types.{bits}
use Rattle.arith.proofs.Laws.{bits_pos, by_sign, some}
use Rattle.parity.specs.LowBit.{bit}

-- every power of 2 above the first is even
pub record Halved (k : ℕ) : Type 0 where
  pub half : ℕ
  pub is : 2 ^ k ≡ 2 * half

halved : (k : ℕ) → 1 ≤ k → Halved k
halved zero h = absurd (omega arith)
halved (suc k) h = record { half = 2 ^ k; is = omega (arith, two-pow-succ k) }

pub even-width : (t : ℕ) → Halved (bits t)
even-width t = halved (bits t) (bits_pos t)

-- truncated to a width, a number keeps its low bit
cut_low : (m h n : ℕ) → m ≡ 2 * h → n % m % 2 ≡ n % 2
cut_low m h n e = rw e (mod-mod_of_dvd 2 n (dvd-mul_right 2 h))

pub width_low : (t n : ℕ) → n % 2 ^ bits t % 2 ≡ n % 2
width_low t n = let w = even-width t in cut_low (2 ^ bits t) w.half n w.is

-- one of the two low bits
pub by_two : (P : ℕ → Type 0) → P 0 → P 1 → (r : ℕ) → r < 2 → P r
by_two P p q zero h = p
by_two P p q (suc zero) h = q
by_two P p q (suc (suc r)) h = absurd (omega arith)

pub bit-add : (a b : ℕ) → bit (a + b) ≡ xor (bit a) (bit b)
unfolding xor
bit-add a b =
    rw (add-mod a b 2)
    (by_two (λ (r : ℕ). eqb ((r + b % 2) % 2) 1 ≡ xor (eqb r 1) (bit b))
    (by_two (λ (s : ℕ). eqb ((0 + s) % 2) 1 ≡ xor false (eqb s 1)) refl refl (b % 2) (omega arith))
    (by_two (λ (s : ℕ). eqb ((1 + s) % 2) 1 ≡ xor true (eqb s 1)) refl refl (b % 2) (omega arith)) (a % 2) (omega arith))

pub bit-mul : (a b : ℕ) → bit (a * b) ≡ (bit a && bit b)
bit-mul a b =
    by_two (λ (r : ℕ). a % 2 ≡ r → bit (a * b) ≡ (eqb r 1 && bit b))
    (λ e. let is : a ≡ 2 * (a / 2) = omega arith in let even : 2 * (a / 2) * b % 2 ≡ 0 = rw (mul_assoc 2 (a / 2) b) (mul-mod_right 2 (a / 2 * b)) in let none : a * b % 2 ≡ 0 = ap (λ (n : ℕ). n * b % 2) is ∙ even in rw none)
    (λ e. let is : a ≡ 2 * (a / 2) + 1 = omega arith in let odd : (2 * (a / 2) + 1) * b % 2 ≡ b % 2 = rw (add-mul (2 * (a / 2)) 1 b, mul_assoc 2 (a / 2) b) (mul-add-mod_self_left 2 (a / 2 * b) (1 * b) ∙ omega arith) in let same : a * b % 2 ≡ b % 2 = ap (λ (n : ℕ). n * b % 2) is ∙ odd in rw same)
    (a % 2) (omega arith) refl

-- a value and what is left of its whole number modulo a width
pub residue-low : (t : ℕ) (z : ℤ) → residue (2 ^ bits t) z % 2 ≡ nat_abs z % 2
unfolding residue
residue-low t (pos n) = width_low t n
residue-low t (negsuc n) = let w = even-width t in omega (arith, width_low t n, w.is, mod-lt n (some t))

pub number-low : (t x : ℕ) → x < 2 ^ bits t → nat_abs (number t x) % 2 ≡ x % 2
number-low t x h = let w = even-width t in by_sign t x (λ (b : Bool) (z : ℤ). nat_abs z % 2 ≡ x % 2) (λ e. omega (arith, w.is)) (λ e. refl)

-- a conversion keeps the low bit, but to bool
pub convert-low : (s t x : ℕ) → eqb t 9 ≡ false → x < 2 ^ bits s → convert s t x % 2 ≡ x % 2
unfolding convert
convert-low s t x test h = rw test (residue-low t (number s x) ∙ number-low s x h)

nat_abs-neg : (r : ℕ) → nat_abs (neg_ℤ (pos r)) ≡ r
nat_abs-neg zero = refl
nat_abs-neg (suc r) = refl

pub rem-nat_abs : (z d : ℤ) → nat_abs (rem_z z d) ≡ nat_abs z % nat_abs d
rem-nat_abs (pos n) d = refl
rem-nat_abs (negsuc n) d = nat_abs-neg (suc n % nat_abs d)

pub sum_low : (t a b : ℕ) → bit (sum t a b) ≡ xor (bit a) (bit b)
sum_low t a b = rw (width_low t (a + b)) (bit-add a b)

pub difference_low : (t a b : ℕ) → b < 2 ^ bits t → bit (difference t a b) ≡ xor (bit a) (bit b)
difference_low t a b h =
    let w = even-width t in
    let same : (2 ^ bits t - b) % 2 ≡ b % 2 = omega (arith, w.is) in
    rw (width_low t (a + (2 ^ bits t - b))) (bit-add a (2 ^ bits t - b) ∙ rw same)

pub product-low : (t a b : ℕ) → bit (product t a b) ≡ (bit a && bit b)
product-low t a b = rw (width_low t (a * b)) (bit-mul a b)

pub xor_low : (a b : ℕ) → bit (bit_xor a b) ≡ xor (bit a) (bit b)
unfolding xor
xor_low a b =
    let low : bit_xor a b % 2 ≡ differ (a % 2) (b % 2) = omega (arith, xor_step a b, small (a % 2) (b % 2) (omega arith) (omega arith)) in
    rw low
    (by_two (λ (r : ℕ). eqb (differ r (b % 2)) 1 ≡ xor (eqb r 1) (bit b))
    (by_two (λ (s : ℕ). eqb (differ 0 s) 1 ≡ xor false (eqb s 1)) refl refl (b % 2) (omega arith))
    (by_two (λ (s : ℕ). eqb (differ 1 s) 1 ≡ xor true (eqb s 1)) refl refl (b % 2) (omega arith)) (a % 2) (omega arith))
  where
    small : (r s : ℕ) → r < 2 → s < 2 → differ r s < 2
    small r s p q = by_two (λ (r : ℕ). differ r s < 2) (by_two (λ (s : ℕ). differ 0 s < 2) (omega arith) (omega arith) s q) (by_two (λ (s : ℕ). differ 1 s < 2) (omega arith) (omega arith) s q) r p

pub and_low : (a b : ℕ) → bit (bit_and a b) ≡ (bit a && bit b)
and_low a b =
    let low : bit_and a b % 2 ≡ min (a % 2) (b % 2) = omega (arith, and_step a b, small (a % 2) (b % 2) (omega arith) (omega arith)) in
    rw low
    (by_two (λ (r : ℕ). eqb (min r (b % 2)) 1 ≡ (eqb r 1 && bit b))
    (by_two (λ (s : ℕ). eqb (min 0 s) 1 ≡ (false && eqb s 1)) refl refl (b % 2) (omega arith))
    (by_two (λ (s : ℕ). eqb (min 1 s) 1 ≡ (true && eqb s 1)) refl refl (b % 2) (omega arith)) (a % 2) (omega arith))
  where
    small : (r s : ℕ) → r < 2 → s < 2 → min r s < 2
    small r s p q = by_two (λ (r : ℕ). min r s < 2) (by_two (λ (s : ℕ). min 0 s < 2) (omega arith) (omega arith) s q) (by_two (λ (s : ℕ). min 1 s < 2) (omega arith) (omega arith) s q) r p

pub or-low : (a b : ℕ) → bit (bit_or a b) ≡ (bit a || bit b)
or-low a b =
    let low : bit_or a b % 2 ≡ max (a % 2) (b % 2) = omega (arith, or_step a b, small (a % 2) (b % 2) (omega arith) (omega arith)) in
    rw low
    (by_two (λ (r : ℕ). eqb (max r (b % 2)) 1 ≡ (eqb r 1 || bit b))
    (by_two (λ (s : ℕ). eqb (max 0 s) 1 ≡ (false || eqb s 1)) refl refl (b % 2) (omega arith))
    (by_two (λ (s : ℕ). eqb (max 1 s) 1 ≡ (true || eqb s 1)) refl refl (b % 2) (omega arith)) (a % 2) (omega arith))
  where
    small : (r s : ℕ) → r < 2 → s < 2 → max r s < 2
    small r s p q = by_two (λ (r : ℕ). max r s < 2) (by_two (λ (s : ℕ). max 0 s < 2) (omega arith) (omega arith) s q) (by_two (λ (s : ℕ). max 1 s < 2) (omega arith) (omega arith) s q) r p

-- what is left by an even divisor
pub remainder-low : (t a b : ℕ) → a < 2 ^ bits t → b < 2 ^ bits t → b % 2 ≡ 0 → remainder t a b % 2 ≡ a % 2
unfolding remainder
remainder-low t a b ha hb even = residue-low t (rem_z (number t a) (number t b)) ∙ rw (rem-nat_abs (number t a) (number t b))
    (mod-mod_of_dvd 2 (nat_abs (number t a)) (dvd_of_mod-eq-zero 2 (number-low t b hb ∙ even)) ∙ number-low t a ha)

-- a shift by 0, and by more
pub shift_none : (t a : ℕ) → shift_left t a 0 % 2 ≡ a % 2
shift_none t a = width_low t (a * 1) ∙ omega arith

pub shift-some : (t a k : ℕ) → 1 ≤ k → shift_left t a k % 2 ≡ 0
shift-some t a k h =
    let w = halved k h in
    width_low t (a * 2 ^ k)
    ∙ rw w.is (low (a * (2 * w.half)) (bit-mul a (2 * w.half) ∙ rw (even w.half) (no (bit a))))
  where
    even : (n : ℕ) → 2 * n % 2 ≡ 0
    even n = omega arith

    no : (b : Bool) → (b && false) ≡ false
    no true = refl
    no false = refl

    low : (n : ℕ) → eqb (n % 2) 1 ≡ false → n % 2 ≡ 0
    low n e = by_two (λ (r : ℕ). eqb r 1 ≡ false → r ≡ 0) (λ e. refl) (λ e. absurd (false≢true (sym e))) (n % 2) (omega arith) e
