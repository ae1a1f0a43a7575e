-- How many digits there are.
use Prim.Native.Nat.{ℕ, zero, suc, ◌/◌, ◌^◌, ◌≤◌, ◌<◌}
use mathlib.Core.Path.{◌≡◌, refl, sym, ap, ◌∙◌}
use mathlib.Core.Bool.{Bool, true, false, cond}
use native.Mathlib.Numerals.{add-one}
use native.Mathlib.Nat.{pow-zero, pow-suc, one-mul, div-lt_self, div-lt_iff_lt-mul}
use native.Mathlib.Omega.{arith}
use lib.Dec.{ltb}
use lib.ListN.{length, length-append}
use borrow.Author.Tests.{ltb-true, ltb-false, lt-ltb, le-ltb}
use Rattle.text.specs.Digits.{digits, places_within, places_of, decimal}

pub digits_long : (base k n : ℕ) → length (digits base k n) ≡ k
unfolding digits
digits_long base zero n = refl
digits_long base (suc k) n = rw (length-append, digits_long base k (n / base)) (add-one k)

pub places-long : (base n : ℕ) → length (digits base (places_of base n) n) ≡ places_of base n
places-long base n = digits_long base (places_of base n) n

few : (base times n : ℕ) → n < base → places_within base times n ≡ 1
unfolding places_within
few base zero n h = refl
few base (suc times) n h = rw (lt-ltb n base h)

many : (base times n : ℕ) → base ≤ n → places_within base (suc times) n ≡ suc (places_within base times (n / base))
unfolding places_within
many base times n h = rw (le-ltb n base h)

-- a number that is not below its base falls by a division
pub falls : (base n : ℕ) → 2 ≤ base → base ≤ n → n / base < n
falls base n two h = div-lt_self (omega arith) two

-- more divisions than n itself allows are not made
settled : (base f g n : ℕ) → 2 ≤ base → n ≤ f → n ≤ g → places_within base f n ≡ places_within base g n
settled base zero g n two h k = few base zero n (omega arith) ∙ sym (few base g n (omega arith))
settled base (suc f) zero n two h k = few base (suc f) n (omega arith) ∙ sym (few base zero n (omega arith))
settled base (suc f) (suc g) n two h k =
    by_size (ltb n base) refl (λ more. settled base f g (n / base) two (omega (arith, falls base n two more)) (omega (arith, falls base n two more)))
  where
    by_size : (small : Bool) → ltb n base ≡ small → (base ≤ n → places_within base f (n / base) ≡ places_within base g (n / base))
        → places_within base (suc f) n ≡ places_within base (suc g) n
    by_size true e part = few base (suc f) n (ltb-true n base e) ∙ sym (few base (suc g) n (ltb-true n base e))
    by_size false e part =
        let more : base ≤ n = ltb-false n base e in
        many base f n more ∙ ap suc (part more) ∙ sym (many base g n more)

-- a number below its base has one digit, any other one more than its quotient
pub places-few : (base n : ℕ) → n < base → places_of base n ≡ 1
places-few base n h = few base n n h

pub places-more : (base n : ℕ) → 2 ≤ base → base ≤ n → places_of base n ≡ suc (places_of base (n / base))
places-more base zero two h = omega arith
places-more base (suc m) two h =
    let less : suc m / base < suc m = falls base (suc m) two h in
    many base m (suc m) h ∙ ap suc (settled base m (suc m / base) (suc m / base) two (omega arith) (omega arith))

either : (small : Bool) (more most : ℕ) → more ≤ most → cond small 1 (suc more) ≤ suc most
either true more most h = omega arith
either false more most h = omega arith

within-most : (base times k n : ℕ) → 0 < base → n < base ^ suc k → places_within base times n ≤ suc k
unfolding places_within
within-most base zero k n some h = omega arith
within-most base (suc times) zero n some h = rw (lt-ltb n base (rw (pow-suc, pow-zero, one-mul) at h)) (omega arith)
within-most base (suc times) (suc k) n some h =
    either (ltb n base) (places_within base times (n / base)) (suc k)
    (within-most base times k (n / base) some ((div-lt_iff_lt-mul some).1 (rw pow-suc at h)))

-- a number below a power of its base has no more digits than the exponent says
pub places-most : (base k n : ℕ) → 0 < base → n < base ^ suc k → places_of base n ≤ suc k
places-most base k n some h = within-most base n k n some h

-- how long numbers of 64 bits, of 8 bits and below ten can be
pub word-short : (n : ℕ) → n < 2 ^ 64 → length (decimal n) ≤ 20
word-short n h = rw digits_long (places-most 10 19 n (omega arith) (omega arith))

pub byte-short : (n : ℕ) → n < 2 ^ 8 → length (decimal n) ≤ 3
byte-short n h = rw digits_long (places-most 10 2 n (omega arith) (omega arith))

pub one-short : (n : ℕ) → n ≤ 9 → length (decimal n) ≤ 1
one-short n h = rw (digits_long, places-few 10 n (omega arith)) (omega arith)

-- how long the pieces of a text are
pub ruleset short = (digits_long, word-short, byte-short)
