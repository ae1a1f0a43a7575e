-- Patterns and whole numbers: the pattern of a sum, difference or product of two patterns is that of the sum, difference or product of the numbers
-- that they stand for. Division in whole numbers: what quotient and remainder say of the dividend. Assumes nothing.
use Rattle.std.proofs.Common.{◌≡◌, ℕ, zero, suc, ◌+◌, ◌-◌, ◌*◌, ◌/◌, ◌%◌, ◌^◌, ◌<◌, ◌≤◌, Bool, true, false, cond, ◌&&◌, ltb, leb, ◌⊎◌, ℤ, pos, negsuc, ◌+ℤ◌, ◌-ℤ◌, ◌*ℤ◌, neg_ℤ, nat_abs, sym, refl, ap, ◌∙◌, ap₂, inl, inr, mod-lt, mod-eq_of_lt, mul_comm, div-add-mod', div-le_self, div-mul-le_self, arith, ltb-false, ltb-true, le-ltb, lt-ltb, le-leb, leb-false}
use native.Mathlib.Nat.{mod-le, add-mod-mod, add-mul-mod_self_right}
use lib.IntN.{sub_ℕ, neg_ℤ-+ℤ}
use lib.Signed.{quot_z, rem_z, non_neg}
use borrow.Author.Tests.{lt-leb}
use Rattle.arith.specs.Numbers.{bits, signed, negative, number, residue, wrap, sum, difference, product, quotient, remainder}
use Rattle.arith.proofs.Laws.{some, by_sign, residue-lt, number-negative, number-plain, upper, has-sign}

-- a pattern is what its number leaves
pub wrap-number : (t x : ℕ) → x < 2 ^ bits t → wrap t (number t x) ≡ x
unfolding residue
wrap-number t x h =
    by_sign t x (λ (b : Bool) (z : ℤ). residue (2 ^ bits t) z ≡ x)
    (λ e. ap (λ (k : ℕ). 2 ^ bits t - 1 - k) (mod-eq_of_lt (omega (arith, some t))) ∙ omega (arith, h))
    (λ e. mod-eq_of_lt h)

module _ (m : ℕ) (p : 0 < m) where
  -- adding a multiple of m changes nothing modulo m
  multiple : (x k : ℕ) → (x + k * m) % m ≡ x % m
  multiple x k = add-mul-mod_self_right x k m

  -- what -(n + 1) leaves: with n + 1 it makes a multiple
  below-zero : (n : ℕ) → residue m (negsuc n) + suc n ≡ (n / m + 1) * m
  unfolding residue
  below-zero n = omega (arith, mod-lt n p, div-add-mod' n m)

  -- r is what z leaves, if r is less than m and differs from z by a multiple
  leaves-pos : (r n j k : ℕ) → r < m → r + j * m ≡ n + k * m → r ≡ residue m (pos n)
  unfolding residue
  leaves-pos r n j k h e = sym (mod-eq_of_lt h) ∙ sym (multiple r j) ∙ ap (λ (x : ℕ). x % m) e ∙ multiple n k

  leaves-negsuc : (r n j k : ℕ) → r < m → r + suc n + j * m ≡ k * m → r ≡ residue m (negsuc n)
  unfolding residue
  leaves-negsuc r n j k h e =
      let s = residue m (negsuc n) in
      let f : r + (n / m + 1 + j) * m ≡ s + k * m = omega (arith, below-zero n) in
      leaves-pos r s (n / m + 1 + j) k h f ∙ mod-eq_of_lt (residue-lt m (negsuc n) p)

  leaves-neg : (r n j k : ℕ) → r < m → r + n + j * m ≡ k * m → r ≡ residue m (neg_ℤ (pos n))
  leaves-neg r zero j k h e = leaves-pos r 0 j k h (omega arith)
  leaves-neg r (suc n) j k h e = leaves-negsuc r n j k h e

  -- what a number that is not negative leaves, and the multiple that is taken away
  from-pos : (n : ℕ) → n ≡ residue m (pos n) + n / m * m
  unfolding residue
  from-pos n = omega (arith, div-add-mod' n m)

  cut : (x : ℕ) → x ≡ x % m + x / m * m
  cut x = omega (arith, div-add-mod' x m)

  -- a sum
  add-mixed : (a b r q : ℕ) → r < m → residue m (pos a) + residue m (negsuc b) ≡ r + q * m → r ≡ residue m (sub_ℕ a (suc b))
  add-mixed a b r q h e = by (ltb a (suc b)) refl
    where
      by : (c : Bool) → ltb a (suc b) ≡ c → r ≡ residue m (cond c (negsuc (suc b - suc a)) (pos (a - suc b)))
      by true f =
          let g : a < suc b = ltb-true a (suc b) f in
          leaves-negsuc r (suc b - suc a) (q + a / m) (b / m + 1) h (omega (arith, from-pos a, below-zero b))
      by false f =
          let g : suc b ≤ a = ltb-false a (suc b) f in
          leaves-pos r (a - suc b) (q + a / m) (b / m + 1) h (omega (arith, from-pos a, below-zero b))

  residue-add : (x y : ℤ) → (residue m x + residue m y) % m ≡ residue m (x +ℤ y)
  residue-add (pos a) (pos b) =
      let s = residue m (pos a) + residue m (pos b) in
      leaves-pos (s % m) (a + b) (s / m + a / m + b / m) 0 (mod-lt s p) (omega (arith, from-pos a, from-pos b, cut s))
  residue-add (pos a) (negsuc b) =
      let s = residue m (pos a) + residue m (negsuc b) in
      add-mixed a b (s % m) (s / m) (mod-lt s p) (cut s)
  residue-add (negsuc a) (pos b) =
      let s = residue m (negsuc a) + residue m (pos b) in
      add-mixed b a (s % m) (s / m) (mod-lt s p) (omega (arith, cut s))
  residue-add (negsuc a) (negsuc b) =
      let s = residue m (negsuc a) + residue m (negsuc b) in
      leaves-negsuc (s % m) (suc (a + b)) (s / m) (a / m + 1 + (b / m + 1)) (mod-lt s p) (omega (arith, below-zero a, below-zero b, cut s))

  -- a negation
  residue-neg : (x : ℤ) → (m - residue m x) % m ≡ residue m (neg_ℤ x)
  residue-neg (pos n) =
      let s = m - residue m (pos n) in
      leaves-neg (s % m) n (s / m) (1 + n / m) (mod-lt s p) (omega (arith, from-pos n, cut s, residue-lt m (pos n) p))
  residue-neg (negsuc n) =
      let s = m - residue m (negsuc n) in
      leaves-pos (s % m) (suc n) (s / m + (n / m + 1)) 1 (mod-lt s p) (omega (arith, below-zero n, cut s, residue-lt m (negsuc n) p))

  residue-sub : (x y : ℤ) → (residue m x + (m - residue m y)) % m ≡ residue m (x -ℤ y)
  residue-sub x y =
      sym (add-mod-mod (residue m x) (m - residue m y) m)
      ∙ ap (λ (k : ℕ). (residue m x + k) % m) (residue-neg y)
      ∙ residue-add x (neg_ℤ y)

  -- a product
  mul-mixed : (a b r q : ℕ) → r < m → residue m (pos a) * residue m (negsuc b) ≡ r + q * m → r ≡ residue m (neg_ℤ (pos (a * suc b)))
  mul-mixed a b r q h e =
      let X = residue m (pos a) in
      let Y = residue m (negsuc b) in
      let f : a * (Y + suc b) ≡ a * ((b / m + 1) * m) = ap (λ (k : ℕ). a * k) (below-zero b) in
      let g : a * Y ≡ (X + a / m * m) * Y = ap (λ (k : ℕ). k * Y) (from-pos a) in
      leaves-neg r (a * suc b) (q + a / m * Y) (a * (b / m + 1)) h (omega (arith, e, f, g))

  residue-mul : (x y : ℤ) → residue m x * residue m y % m ≡ residue m (x *ℤ y)
  residue-mul (pos a) (pos b) =
      let X = residue m (pos a) in
      let Y = residue m (pos b) in
      let f : a * b ≡ (X + a / m * m) * (Y + b / m * m) = ap₂ (λ (u v : ℕ). u * v) (from-pos a) (from-pos b) in
      leaves-pos (X * Y % m) (a * b) (X * Y / m + X * (b / m) + a / m * Y + a / m * (b / m) * m) 0 (mod-lt (X * Y) p) (omega (arith, f, cut (X * Y)))
  residue-mul (pos a) (negsuc b) =
      let s = residue m (pos a) * residue m (negsuc b) in
      mul-mixed a b (s % m) (s / m) (mod-lt s p) (cut s)
  residue-mul (negsuc a) (pos b) =
      let s = residue m (negsuc a) * residue m (pos b) in
      mul-mixed b a (s % m) (s / m) (mod-lt s p) (mul_comm (residue m (pos b)) (residue m (negsuc a)) ∙ cut s)
      ∙ ap (λ (k : ℕ). residue m (neg_ℤ (pos k))) (mul_comm b (suc a))
  residue-mul (negsuc a) (negsuc b) =
      let X = residue m (negsuc a) in
      let Y = residue m (negsuc b) in
      let K = a / m + 1 in
      let L = b / m + 1 in
      let f : X * (Y + suc b) ≡ X * (L * m) = ap (λ (k : ℕ). X * k) (below-zero b) in
      let g : (X + suc a) * Y ≡ K * m * Y = ap (λ (k : ℕ). k * Y) (below-zero a) in
      let h : (X + suc a) * (Y + suc b) ≡ K * m * (L * m) = ap₂ (λ (u v : ℕ). u * v) (below-zero a) (below-zero b) in
      leaves-pos (X * Y % m) (suc a * suc b) (X * Y / m + K * L * m) (X * L + K * Y) (mod-lt (X * Y) p) (omega (arith, f, g, h, cut (X * Y)))

-- Sum, difference and product of patterns are those of their numbers, wrapped.
module _ (t a b : ℕ) (ha : a < 2 ^ bits t) (hb : b < 2 ^ bits t) where
  pub sum-whole : sum t a b ≡ wrap t (number t a +ℤ number t b)
  sum-whole =
      ap₂ (λ (u v : ℕ). (u + v) % 2 ^ bits t) (sym (wrap-number t a ha)) (sym (wrap-number t b hb))
      ∙ residue-add (2 ^ bits t) (some t) (number t a) (number t b)

  pub difference-whole : difference t a b ≡ wrap t (number t a -ℤ number t b)
  difference-whole =
      ap₂ (λ (u v : ℕ). (u + (2 ^ bits t - v)) % 2 ^ bits t) (sym (wrap-number t a ha)) (sym (wrap-number t b hb))
      ∙ residue-sub (2 ^ bits t) (some t) (number t a) (number t b)

  pub product_whole : product t a b ≡ wrap t (number t a *ℤ number t b)
  product_whole =
      ap₂ (λ (u v : ℕ). u * v % 2 ^ bits t) (sym (wrap-number t a ha)) (sym (wrap-number t b hb))
      ∙ residue-mul (2 ^ bits t) (some t) (number t a) (number t b)

-- Division in whole numbers: the dividend is quotient times divisor plus remainder; the remainder's size is below the divisor's, and its sign, if it
-- is not 0, is that of the dividend.
times-negsuc : (q b : ℕ) → neg_ℤ (pos q) *ℤ negsuc b ≡ pos (q * suc b)
times-negsuc zero b = ap (λ (k : ℕ). neg_ℤ (pos k)) zero-product ∙ ap pos (sym zero-product)
  where
    zero-product : 0 * suc b ≡ 0
    zero-product = omega arith
times-negsuc (suc q) b = refl

times-pos : (q b : ℕ) → neg_ℤ (pos q) *ℤ pos b ≡ neg_ℤ (pos (q * b))
times-pos zero b = ap pos zero-product ∙ ap (λ (k : ℕ). neg_ℤ (pos k)) (sym zero-product)
  where
    zero-product : 0 * b ≡ 0
    zero-product = omega arith
times-pos (suc q) b = refl

pub dividend-is : (a b : ℤ) → quot_z a b *ℤ b +ℤ rem_z a b ≡ a
dividend-is (pos a) (pos b) = ap pos (div-add-mod' a b)
dividend-is (pos a) (negsuc b) = ap (λ (z : ℤ). z +ℤ pos (a % suc b)) (times-negsuc (a / suc b) b) ∙ ap pos (div-add-mod' a (suc b))
dividend-is (negsuc a) (pos b) =
    ap (λ (z : ℤ). z +ℤ neg_ℤ (pos (suc a % b))) (times-pos (suc a / b) b)
    ∙ sym (neg_ℤ-+ℤ (pos (suc a / b * b)) (pos (suc a % b)))
    ∙ ap (λ (k : ℕ). neg_ℤ (pos k)) (div-add-mod' (suc a) b)
dividend-is (negsuc a) (negsuc b) =
    sym (neg_ℤ-+ℤ (pos (suc a / suc b * suc b)) (pos (suc a % suc b))) ∙ ap (λ (k : ℕ). neg_ℤ (pos k)) (div-add-mod' (suc a) (suc b))

size-neg : (n : ℕ) → nat_abs (neg_ℤ (pos n)) ≡ n
size-neg zero = refl
size-neg (suc n) = refl

pub remainder-smaller : (a b : ℤ) → 0 < nat_abs b → nat_abs (rem_z a b) < nat_abs b
remainder-smaller (pos a) b h = mod-lt a h
remainder-smaller (negsuc a) b h = rw (size-neg (suc a % nat_abs b)) (mod-lt (suc a) h)

pub remainder_signed : (a b : ℤ) → (rem_z a b ≡ pos 0) ⊎ (non_neg (rem_z a b) ≡ non_neg a)
remainder_signed (pos a) b = inr refl
remainder_signed (negsuc a) b = by (suc a % nat_abs b)
  where
    by : (r : ℕ) → (neg_ℤ (pos r) ≡ pos 0) ⊎ (non_neg (neg_ℤ (pos r)) ≡ false)
    by zero = inl refl
    by (suc r) = inr refl

-- The numbers that quotient and remainder stand for.
not-upper : (t x : ℕ) → t < 4 → negative t x ≡ false → 2 * x < 2 ^ bits t
unfolding negative
not-upper t x h e =
    leb-false (2 ^ bits t) (2 * x) (ap (λ (b : Bool). b && leb (2 ^ bits t) (2 * x)) (sym (lt-ltb t 4 h)) ∙ e)

plain-below : (t x : ℕ) → 2 * x < 2 ^ bits t → negative t x ≡ false
unfolding negative
plain-below t x h = rw (lt-leb (2 ^ bits t) (2 * x) h) (and-false (signed t))
  where
    and-false : (b : Bool) → (b && false) ≡ false
    and-false true = refl
    and-false false = refl

unsigned-plain : (t x : ℕ) → 4 ≤ t → negative t x ≡ false
unfolding negative
unsigned-plain t x h = rw (le-ltb t 4 h)

-- below a value that is not negative there is none
plain-lower : (t x y : ℕ) → y ≤ x → negative t x ≡ false → negative t y ≡ false
plain-lower t x y h e = by (ltb t 4) refl
  where
    by : (b : Bool) → ltb t 4 ≡ b → negative t y ≡ false
    by true f = plain-below t y (omega (arith, not-upper t x (ltb-true t 4 f) e))
    by false f = unsigned-plain t y (ltb-false t 4 f)

wrapped-pos : (t n : ℕ) → n < 2 ^ bits t → negative t n ≡ false → number t (wrap t (pos n)) ≡ pos n
unfolding residue
wrapped-pos t n h e = ap (number t) (mod-eq_of_lt h) ∙ number-plain t n e

wrapped-neg : (t n : ℕ) → t < 4 → 2 * n ≤ 2 ^ bits t → number t (wrap t (neg_ℤ (pos n))) ≡ neg_ℤ (pos n)
unfolding residue negative
wrapped-neg t zero h l = wrapped-pos t 0 (some t) (plain-below t 0 (some t))
wrapped-neg t (suc n) h l =
    let m = 2 ^ bits t in
    let x = m - 1 - n in
    let e : m - 1 - n % m ≡ x = ap (λ (k : ℕ). m - 1 - k) (mod-eq_of_lt (omega arith)) in
    let f : negative t x ≡ true = rw (lt-ltb t 4 h, le-leb m (2 * x) (omega arith)) in
    ap (number t) e ∙ number-negative t x f ∙ ap negsuc (omega arith)

module _ (t a b : ℕ) (ha : a < 2 ^ bits t) where
  pub remainder-number : number t (remainder t a b) ≡ rem_z (number t a) (number t b)
  unfolding remainder
  remainder-number =
      let d = nat_abs (number t b) in
      by_sign t a (λ (c : Bool) (z : ℤ). number t (wrap t (rem_z z (number t b))) ≡ rem_z z (number t b))
      (λ e. wrapped-neg t (suc (2 ^ bits t - suc a) % d) (has-sign t a e) (omega (arith, upper t a e, mod-le (suc (2 ^ bits t - suc a)) d)))
      (λ e. wrapped-pos t (a % d) (omega (arith, mod-le a d)) (plain-lower t a (a % d) (mod-le a d) e))

  -- the least value of a signed type by -1 is left out: its quotient wraps
  pub quotient-number : (2 * a ≡ 2 ^ bits t → number t b ≡ negsuc 0 → ⊥) → number t (quotient t a b) ≡ quot_z (number t a) (number t b)
  unfolding quotient
  quotient-number out =
      let m = 2 ^ bits t in
      by_sign t b (λ (c : Bool) (w : ℤ). (2 * a ≡ m → w ≡ negsuc 0 → ⊥) → number t (wrap t (quot_z (number t a) w)) ≡ quot_z (number t a) w)
      (λ f. by_sign t a (λ (c : Bool) (z : ℤ). (2 * a ≡ m → negsuc (m - suc b) ≡ negsuc 0 → ⊥) → number t (wrap t (quot_z z (negsuc (m - suc b)))) ≡ quot_z z (negsuc (m - suc b)))
      (λ e o. both_negative e o)
      (λ e o. wrapped-neg t (a / suc (m - suc b)) (has-sign t b f) (omega (arith, not-upper t a (has-sign t b f) e, div-le_self a (suc (m - suc b))))))
      (λ f. by_sign t a (λ (c : Bool) (z : ℤ). (2 * a ≡ m → pos b ≡ negsuc 0 → ⊥) → number t (wrap t (quot_z z (pos b))) ≡ quot_z z (pos b))
      (λ e o. wrapped-neg t (suc (m - suc a) / b) (has-sign t a e) (omega (arith, upper t a e, div-le_self (suc (m - suc a)) b)))
      (λ e o. wrapped-pos t (a / b) (omega (arith, div-le_self a b)) (plain-lower t a (a / b) (div-le_self a b) e)))
      out
    where
      half : (n k : ℕ) → n / suc (suc k) * 2 ≤ n
      half n k = omega (arith, div-mul-le_self n (suc (suc k)))

      small : (k : ℕ) → negative t a ≡ true → (2 * a ≡ 2 ^ bits t → negsuc k ≡ negsuc 0 → ⊥) → 2 * (suc (2 ^ bits t - suc a) / suc k) < 2 ^ bits t
      small zero e o =
          let ne : 2 * a ≡ 2 ^ bits t → ⊥ = λ h. o h refl in
          omega (arith, upper t a e, div-le_self (suc (2 ^ bits t - suc a)) 1)
      small (suc k) e o = omega (arith, upper t a e, half (suc (2 ^ bits t - suc a)) k, some t)

      both_negative : negative t a ≡ true → (2 * a ≡ 2 ^ bits t → negsuc (2 ^ bits t - suc b) ≡ negsuc 0 → ⊥) → number t (wrap t (pos (suc (2 ^ bits t - suc a) / suc (2 ^ bits t - suc b)))) ≡ pos (suc (2 ^ bits t - suc a) / suc (2 ^ bits t - suc b))
      both_negative e o =
          let q = suc (2 ^ bits t - suc a) / suc (2 ^ bits t - suc b) in
          let l : 2 * q < 2 ^ bits t = small (2 ^ bits t - suc b) e o in
          wrapped-pos t q (omega arith) (plain-below t q l)
