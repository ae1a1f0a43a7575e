-- The laws of patterns and the numbers that they stand for, over any width. Assumes nothing.
use Rattle.std.proofs.Common.{◌≡◌, ℕ, zero, suc, ◌+◌, ◌-◌, ◌*◌, ◌/◌, ◌%◌, ◌^◌, ◌<◌, ◌≤◌, Bool, true, false, cond, not, ◌&&◌, ◌||◌, eqb, ltb, leb, List, [], ◌∷◌, get_or, ℤ, pos, negsuc, neg_ℤ, nat_abs, sym, refl, ap, ◌∙◌, ap₂, mod-lt, mod-eq_of_lt, mul_assoc, div-lt_iff_lt-mul, div-add-mod', div-le_self, arith, lit<, lit≤, pow_pos, pow_mono, ltb-false, ltb-true, le-ltb, lt-ltb, eqb-true, le-leb, leb-false, leb-true}
use mathlib.Core.Bool.{beq}
use native.Mathlib.Nat.{mod-le, mod_self, mod-add-mod, add-mod_right}
use lib.Arith.{digits_mod}
use lib.Signed.{lt_z, le_z, non_neg, quot_z, rem_z, shr_z}
use lib.Pow.{mod-mod-pow}
use borrow.Author.Tests.{lt-leb}
use Rattle.arith.specs.Numbers.{bits, signed, negative, number, residue, wrap, convert, quotient, remainder, shift_right, count, below, at_most}
use Rattle.laws.proofs.Booleans.{and_left, and_right}

-- a property of each entry of a list
abbrev Each : (ℕ → Type 0) → List ℕ → Type 0
Each P [] = Unit {0}
Each P (x ∷ l) = P x × Each P l

every : (P : ℕ → Type 0) (l : List ℕ) (d : ℕ) → Each P l → P d → (i : ℕ) → P (get_or l i d)
every P [] d h e i = e
every P (x ∷ l) d h e zero = h.0
every P (x ∷ l) d h e (suc i) = every P l d h.1 e i

-- what holds of each width holds of every type's
pub by_bits : (P : ℕ → Type 0) → P 1 → P 8 → P 16 → P 32 → P 64 → (t : ℕ) → P (bits t)
unfolding bits
by_bits P e a b c d t =
    every P (8 ∷ 16 ∷ 32 ∷ 64 ∷ 8 ∷ 16 ∷ 32 ∷ 64 ∷ 64 ∷ 1 ∷ []) 64 (a, (b, (c, (d, (a, (b, (c, (d, (d, (e, tt)))))))))) d t

pub bits_le : (t : ℕ) → bits t ≤ 64
bits_le t = by_bits (λ (b : ℕ). b ≤ 64) (lit≤ tt) (lit≤ tt) (lit≤ tt) (lit≤ tt) (lit≤ tt) t

pub bits_pos : (t : ℕ) → 1 ≤ bits t
bits_pos t = by_bits (λ (b : ℕ). 1 ≤ b) (lit≤ tt) (lit≤ tt) (lit≤ tt) (lit≤ tt) (lit≤ tt) t

-- 2 ^ bits is some 2 ^ 64 at most
pub full : (t : ℕ) → 2 ^ bits t ≤ 2 ^ 64
full t = pow_mono (bits_le t)

pub some : (t : ℕ) → 0 < 2 ^ bits t
some t = pow_pos (bits t)

pub mask_of : (t : ℕ) → (2 ^ 64 - 1) / 2 ^ (64 - bits t) ≡ 2 ^ bits t - 1
mask_of t = by_bits (λ (b : ℕ). (2 ^ 64 - 1) / 2 ^ (64 - b) ≡ 2 ^ b - 1) refl refl refl refl refl t

-- what wraps at 64 bits and is then truncated wraps at the width
pub low_bits : (t x : ℕ) → x % 2 ^ 64 % 2 ^ bits t ≡ x % 2 ^ bits t
low_bits t x =
    by_bits (λ (b : ℕ). x % 2 ^ 64 % 2 ^ b ≡ x % 2 ^ b) (mod-mod-pow x 63 1) (mod-mod-pow x 56 8) (mod-mod-pow x 48 16) (mod-mod-pow x 32 32) (mod-mod-pow x 0 64) t

complement-split : (w q d r : ℕ) → r < w → (q + d + 1) * w - 1 - (q * w + r) ≡ d * w + (w - 1 - r)
complement-split w q d r h = omega arith

-- the complement of n in a multiple of w leaves the complement of what n leaves
pub complement-mod : (w c n : ℕ) → 0 < w → n < c * w → (c * w - 1 - n) % w ≡ w - 1 - n % w
complement-mod w c n p h =
    let q = n / w in
    let r = n % w in
    let rl : r < w = mod-lt n p in
    let ql : q < c = (div-lt_iff_lt-mul p).1 h in
    let e : c ≡ q + (c - 1 - q) + 1 = omega arith in
    let s : n ≡ q * w + r = sym (div-add-mod' n w) in
    ap (λ (k : ℕ). (k * w - 1 - n) % w) e
    ∙ ap (λ (k : ℕ). ((q + (c - 1 - q) + 1) * w - 1 - k) % w) s
    ∙ ap (λ (k : ℕ). k % w) (complement-split w q (c - 1 - q) r rl)
    ∙ digits_mod (c - 1 - q) (omega arith)

-- 2 ^ 64 is a multiple of every 2 ^ bits
pub multiple : (t : ℕ) → 2 ^ (64 - bits t) * 2 ^ bits t ≡ 2 ^ 64
multiple t = by_bits (λ (b : ℕ). 2 ^ (64 - b) * 2 ^ b ≡ 2 ^ 64) refl refl refl refl refl t

-- what a number leaves at 64 bits, truncated, is what it leaves at the width
pub residue_cut : (t : ℕ) (z : ℤ) → residue (2 ^ 64) z % 2 ^ bits t ≡ residue (2 ^ bits t) z
unfolding residue
residue_cut t (pos n) = low_bits t n
residue_cut t (negsuc n) =
    let m = 2 ^ bits t in
    let h : n % 2 ^ 64 < 2 ^ (64 - bits t) * m = rw (multiple t) (omega arith) in
    ap (λ (k : ℕ). (k - 1 - n % 2 ^ 64) % m) (sym (multiple t))
    ∙ complement-mod m (2 ^ (64 - bits t)) (n % 2 ^ 64) (some t) h
    ∙ ap (λ (k : ℕ). m - 1 - k) (low_bits t n)

-- the test of the top bit: above the half of the largest pattern
pub half_test : (m x : ℕ) → 0 < m → ltb ((m - 1) / 2) x ≡ leb m (2 * x)
half_test m x h = by (leb m (2 * x)) refl
  where
    by : (b : Bool) → leb m (2 * x) ≡ b → ltb ((m - 1) / 2) x ≡ leb m (2 * x)
    by true e = let g : m ≤ 2 * x = leb-true m (2 * x) e in lt-ltb ((m - 1) / 2) x (omega arith) ∙ sym e
    by false e = let g : 2 * x < m = leb-false m (2 * x) e in le-ltb ((m - 1) / 2) x (omega arith) ∙ sym e

-- at most the largest pattern is below all of them
pub below_full : (m x : ℕ) → 0 < m → leb x (m - 1) ≡ ltb x m
below_full m x h = by (ltb x m) refl
  where
    by : (b : Bool) → ltb x m ≡ b → leb x (m - 1) ≡ b
    by true e = let l : x < m = ltb-true x m e in le-leb x (m - 1) (omega arith)
    by false e = let l : m ≤ x = ltb-false x m e in lt-leb x (m - 1) (omega arith)

module _ (t x : ℕ) where
  pub number-negative : negative t x ≡ true → number t x ≡ negsuc (2 ^ bits t - suc x)
  unfolding number
  number-negative e = rw e

  pub number-plain : negative t x ≡ false → number t x ≡ pos x
  unfolding number
  number-plain e = rw e

  -- a negative pattern is in the upper half
  pub upper : negative t x ≡ true → 2 ^ bits t ≤ 2 * x
  unfolding negative
  upper e = leb-true (2 ^ bits t) (2 * x) (and_right (signed t) (leb (2 ^ bits t) (2 * x)) e)

  pub has-sign : negative t x ≡ true → t < 4
  unfolding negative
  has-sign e = ltb-true t 4 (and_left (signed t) (leb (2 ^ bits t) (2 * x)) e)

  -- a property of a pattern's number, by its sign
  pub by_sign : (P : Bool → ℤ → Type 0) → (negative t x ≡ true → P true (negsuc (2 ^ bits t - suc x))) → (negative t x ≡ false → P false (pos x)) → P (negative t x) (number t x)
  unfolding number
  by_sign P f g = by (negative t x) refl
    where
      by : (b : Bool) → negative t x ≡ b → P b (cond b (negsuc (2 ^ bits t - suc x)) (pos x))
      by true e = f e
      by false e = g e

  -- the sign of a pattern is its number's
  pub sign-is : negative t x ≡ not (non_neg (number t x))
  sign-is = by_sign (λ (b : Bool) (z : ℤ). b ≡ not (non_neg z)) (λ e. refl) (λ e. refl)

  module _ (h : x < 2 ^ bits t) where
    pub magnitude-lt : nat_abs (number t x) < 2 ^ bits t
    magnitude-lt = by_sign (λ (b : Bool) (z : ℤ). nat_abs z < 2 ^ bits t) (λ e. omega (arith, upper e, some t)) (λ e. h)

    -- the sign copied up to 64 bits
    pub widened_negative : (m : ℕ) → m ≡ 2 ^ bits t - 1 → negative t x ≡ true → x + (2 ^ 64 - 1 - m) ≡ residue (2 ^ 64) (number t x)
    unfolding residue
    widened_negative m e n = rw (number-negative n) (omega (arith, full t))

    pub widened_plain : negative t x ≡ false → x ≡ residue (2 ^ 64) (number t x)
    unfolding residue
    widened_plain n = rw (number-plain n) (omega (arith, full t))

-- the pattern of a negation
pub negation : (m x : ℕ) → x < m → (0 + (m - x)) % m ≡ residue m (neg_ℤ (pos x))
unfolding residue
negation m zero h = ap (λ (k : ℕ). k % m) e ∙ mod_self m ∙ sym (mod-eq_of_lt h)
  where
    e : 0 + (m - 0) ≡ m
    e = omega arith
negation m (suc x) h =
    mod-eq_of_lt (omega arith) ∙ e ∙ ap (λ (k : ℕ). m - 1 - k) (sym (mod-eq_of_lt (omega arith)))
  where
    e : 0 + (m - suc x) ≡ m - 1 - x
    e = omega arith

-- the pattern of a negative value's negation is its magnitude
pub magnitude : (t x : ℕ) → x < 2 ^ bits t → wrap t (cond (negative t x) (neg_ℤ (pos x)) (pos x)) ≡ nat_abs (number t x)
unfolding residue
magnitude t x h =
    by_sign t x (λ (b : Bool) (z : ℤ). wrap t (cond b (neg_ℤ (pos x)) (pos x)) ≡ nat_abs z)
    (λ e. sym (negation (2 ^ bits t) x h) ∙ mod-eq_of_lt (omega (arith, upper t x e, some t)) ∙ omega (arith, h))
    (λ e. mod-eq_of_lt h)

-- quotient and remainder by their magnitudes and signs
quotient-signs : (a b : ℤ)
    → quot_z a b ≡ cond (not (beq (not (non_neg a)) (not (non_neg b)))) (neg_ℤ (pos (nat_abs a / nat_abs b))) (pos (nat_abs a / nat_abs b))
quotient-signs (pos a) (pos b) = refl
quotient-signs (pos a) (negsuc b) = refl
quotient-signs (negsuc a) (pos b) = refl
quotient-signs (negsuc a) (negsuc b) = refl

remainder-signs : (a b : ℤ) → rem_z a b ≡ cond (not (non_neg a)) (neg_ℤ (pos (nat_abs a % nat_abs b))) (pos (nat_abs a % nat_abs b))
remainder-signs (pos a) b = refl
remainder-signs (negsuc a) b = refl

-- a division by magnitudes, x of a and y of b
module _ (t a b : ℕ) {x y : ℕ} (left : a < 2 ^ bits t) (x-is : x ≡ nat_abs (number t a)) (y-is : y ≡ nat_abs (number t b)) where
  pub divisor_positive : (b ≡ 0 → ⊥) → 0 < y
  divisor_positive h = rw y-is (by_sign t b (λ (n : Bool) (z : ℤ). 0 < nat_abs z) (λ e. omega arith) (λ e. omega arith))

  dividend-lt : x < 2 ^ bits t
  dividend-lt = rw x-is (magnitude-lt t a left)

  pub quotient_lt : x / y < 2 ^ bits t
  quotient_lt = omega (arith, div-le_self x y, dividend-lt)

  pub remainder_lt : x % y < 2 ^ bits t
  remainder_lt = omega (arith, mod-le x y, dividend-lt)

  pub quotient_is : {na nb : Bool} {q : ℕ} → na ≡ negative t a → nb ≡ negative t b
      → q ≡ wrap t (cond (not (beq na nb)) (neg_ℤ (pos (x / y))) (pos (x / y))) → q ≡ quotient t a b
  unfolding quotient
  quotient_is {na} {nb} {q} f g e = e ∙ rw (f ∙ sign-is t a, g ∙ sign-is t b, x-is, y-is) (ap (wrap t) (sym (quotient-signs (number t a) (number t b))))

  pub remainder_is : {na : Bool} {r : ℕ} → na ≡ negative t a → r ≡ wrap t (cond na (neg_ℤ (pos (x % y))) (pos (x % y))) → r ≡ remainder t a b
  unfolding remainder
  remainder_is {na} {r} f e = e ∙ rw (f ∙ sign-is t a, x-is, y-is) (ap (wrap t) (sym (remainder-signs (number t a) (number t b))))

-- a difference at 64 bits, truncated
pub difference_wraps : (t a b s : ℕ) → b < 2 ^ bits t → (s + b) % 2 ^ 64 ≡ a → s % 2 ^ bits t ≡ (a + (2 ^ bits t - b)) % 2 ^ bits t
difference_wraps t a b s h e =
    let m = 2 ^ bits t in
    let same : s + b + (m - b) ≡ s + m = omega arith in
    sym (add-mod_right s m)
    ∙ ap (λ (k : ℕ). k % m) (sym same)
    ∙ sym (mod-add-mod (s + b) m (m - b))
    ∙ ap (λ (k : ℕ). (k + (m - b)) % m) (sym (low_bits t (s + b)) ∙ ap (λ (k : ℕ). k % m) e)
    ∙ mod-add-mod a m (m - b)

-- a negative value is shifted as its complement
pub shift_negative : (t a k m : ℕ) → m ≡ 2 ^ bits t - 1 → a < 2 ^ bits t → negative t a ≡ true → m - (m - a) / 2 ^ k ≡ shift_right t a k
unfolding shift_right residue
shift_negative t a k m e h n =
    rw (number-negative t a n)
    (ap₂ (λ (u v : ℕ). u - v / 2 ^ k) e f ∙ ap (λ (v : ℕ). 2 ^ bits t - 1 - v) (sym (mod-eq_of_lt small)))
  where
    f : m - a ≡ 2 ^ bits t - suc a
    f = omega arith

    small : (2 ^ bits t - suc a) / 2 ^ k < 2 ^ bits t
    small = omega (arith, div-le_self (2 ^ bits t - suc a) (2 ^ k), some t)

pub shift_plain : (t a k : ℕ) → a < 2 ^ bits t → negative t a ≡ false → a / 2 ^ k ≡ shift_right t a k
unfolding shift_right residue
shift_plain t a k h n = rw (number-plain t a n) (sym (mod-eq_of_lt (omega (arith, div-le_self a (2 ^ k)))))

-- every width divides 2 ^ 8, and 2 ^ 8 every signed type's 2 ^ bits
width-divides : (t : ℕ) → 256 / bits t * bits t ≡ 256
width-divides t = by_bits (λ (b : ℕ). 256 / b * b ≡ 256) refl refl refl refl refl t

signed-multiple : (s : ℕ) → s < 4 → 2 ^ (bits s - 8) * 256 ≡ 2 ^ bits s
unfolding bits
signed-multiple zero h = refl
signed-multiple (suc zero) h = refl
signed-multiple (suc (suc zero)) h = refl
signed-multiple (suc (suc (suc zero))) h = refl
signed-multiple (suc (suc (suc (suc s)))) h = absurd (omega arith)

-- a pattern leaves modulo a width what its number leaves
pub count-is : (t s x : ℕ) → x < 2 ^ bits s → x % bits t ≡ count t s x
unfolding count residue
count-is t s x h =
    by_sign s x (λ (n : Bool) (z : ℤ). x % bits t ≡ residue (bits t) z)
    (λ e. sym (complement e))
    (λ e. refl)
  where
    complement : negative s x ≡ true → bits t - 1 - (2 ^ bits s - suc x) % bits t ≡ x % bits t
    complement e =
        let w = bits t in
        let c = 2 ^ (bits s - 8) * (256 / w) in
        let m : c * w ≡ 2 ^ bits s = mul_assoc (2 ^ (bits s - 8)) (256 / w) w ∙ ap (λ (k : ℕ). 2 ^ (bits s - 8) * k) (width-divides t) ∙ signed-multiple s (has-sign s x e) in
        let g : (2 ^ bits s - suc x) % w ≡ w - 1 - x % w = ap (λ (k : ℕ). k % w) (omega (arith, m)) ∙ complement-mod w c x (bits_pos t) (omega (arith, m)) in
        let l : x % w < w = mod-lt x (bits_pos t) in
        omega arith

ltb-mirror : (m a b : ℕ) → a < m → b < m → ltb (m - suc b) (m - suc a) ≡ ltb a b
ltb-mirror m a b ha hb = by (ltb a b) refl
  where
    by : (r : Bool) → ltb a b ≡ r → ltb (m - suc b) (m - suc a) ≡ ltb a b
    by true e = let g : a < b = ltb-true a b e in lt-ltb (m - suc b) (m - suc a) (omega arith) ∙ sym e
    by false e = let g : b ≤ a = ltb-false a b e in le-ltb (m - suc b) (m - suc a) (omega arith) ∙ sym e

-- the order of numbers by their signs and patterns
pub below_is : (t a b : ℕ) (na nb : Bool) → na ≡ negative t a → nb ≡ negative t b → a < 2 ^ bits t → b < 2 ^ bits t
    → (na && not nb || (na || not nb) && ltb a b) ≡ below t a b
unfolding below
below_is t a b na nb ea eb ha hb =
    rw (ea, eb)
    (by_sign t a (λ (u : Bool) (z : ℤ). (u && not (negative t b) || (u || not (negative t b)) && ltb a b) ≡ lt_z z (number t b))
    (λ e. by_sign t b (λ (v : Bool) (z : ℤ). (true && not v || (true || not v) && ltb a b) ≡ lt_z (negsuc (2 ^ bits t - suc a)) z)
    (λ f. sym (ltb-mirror (2 ^ bits t) a b ha hb))
    (λ f. refl))
    (λ e. by_sign t b (λ (v : Bool) (z : ℤ). (false && not v || (false || not v) && ltb a b) ≡ lt_z (pos a) z)
    (λ f. refl)
    (λ f. refl)))

leb-ltb : (a b : ℕ) → leb a b ≡ not (ltb b a)
leb-ltb a b = by (ltb b a) refl
  where
    by : (r : Bool) → ltb b a ≡ r → leb a b ≡ not r
    by true e = let g : b < a = ltb-true b a e in lt-leb a b g
    by false e = let g : a ≤ b = ltb-false b a e in le-leb a b g

le-lt : (x y : ℤ) → le_z x y ≡ not (lt_z y x)
le-lt (pos a) (pos b) = leb-ltb a b
le-lt (pos a) (negsuc b) = refl
le-lt (negsuc a) (pos b) = refl
le-lt (negsuc a) (negsuc b) = leb-ltb b a

-- at most is not above
pub at-most : (t a b : ℕ) → at_most t a b ≡ not (below t b a)
unfolding at_most below
at-most t a b = le-lt (number t a) (number t b)

-- every result is a pattern of its type
pub residue-lt : (m : ℕ) (z : ℤ) → 0 < m → residue m z < m
unfolding residue
residue-lt m (pos n) h = mod-lt n h
residue-lt m (negsuc n) h = omega arith

pub wrap-lt : (t : ℕ) (z : ℤ) → wrap t z < 2 ^ bits t
wrap-lt t z = residue-lt (2 ^ bits t) z (some t)

pub cut-lt : (t x : ℕ) → x % 2 ^ bits t < 2 ^ bits t
cut-lt t x = mod-lt x (some t)

pub quotient-typed : (t a b : ℕ) → quotient t a b < 2 ^ bits t
unfolding quotient
quotient-typed t a b = wrap-lt t (quot_z (number t a) (number t b))

pub remainder-typed : (t a b : ℕ) → remainder t a b < 2 ^ bits t
unfolding remainder
remainder-typed t a b = wrap-lt t (rem_z (number t a) (number t b))

pub shift-typed : (t a k : ℕ) → shift_right t a k < 2 ^ bits t
unfolding shift_right
shift-typed t a k = wrap-lt t (shr_z (number t a) (2 ^ k))

pub convert-lt : (s t x : ℕ) → convert s t x < 2 ^ bits t
unfolding convert bits
convert-lt s t x = by (eqb t 9) refl
  where
    bit : (b : Bool) → t ≡ 9 → cond b 0 1 < 2 ^ bits t
    bit true e = rw e (lit< tt)
    bit false e = rw e (lit< tt)

    by : (b : Bool) → eqb t 9 ≡ b → cond b (cond (eqb x 0) 0 1) (wrap t (number s x)) < 2 ^ bits t
    by true e = bit (eqb x 0) (eqb-true t 9 e)
    by false e = wrap-lt t (number s x)

pub count-lt : (t s x : ℕ) → count t s x < 64
unfolding count
count-lt t s x = omega (arith, residue-lt (bits t) (number s x) (bits_pos t), bits_le t)
