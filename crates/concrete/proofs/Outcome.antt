-- An operation's result and flags by the rules are those by the manual, at every width.
use Rattle.std.proofs.lemmas.Bool.Decides.{nat_tests}
use Prim.Native.Nat.{ℕ, zero, suc, ◌+◌, ◌-◌, ◌/◌, ◌%◌, ◌^◌, ◌<◌}
use mathlib.Core.Path.{◌≡◌, refl, ◌∙◌}
use mathlib.Core.Bool.{not, ◌||◌}
use native.Mathlib.Nat.{mod-one, zero-add}
use native.Mathlib.Numerals.{add-one}
use native.Mathlib.Omega.{arith}
use lib.Dec.{leb, ltb, eqb}
use lib.Pow.{field, mod-mod-pow}
use lib.Count.{ones, ones_step}
use Rattle.alu.specs.declared.Width.{Width}
use Rattle.alu.specs.declared.Operation.{Operation}
use Rattle.alu.specs.declared.Operation.TheVariants.{Add, Sub}
use Rattle.alu.specs.declared.Performed.{Performed}
use Rattle.alu.specs.Width.{bits}
use Rattle.concrete.specs.Concrete.{Result, lifted, sum, difference, ones_below, status_of}
use Rattle.concrete.specs.Agreement.{FlagsAgree}
use Rattle.concrete.proofs.Arithmetic.{carry-law, sum-overflow-law, difference-overflow-law}
use Rattle.alu.specs.Arithmetic as rules

-- half of a width's numbers, and all of them
abbrev pub half : Width → ℕ
half w = 2 ^ (bits w - 1)

pub halves : (w : Width) → 2 ^ bits w ≡ half w + half w
halves w = grind (arith, nat_tests)

pub half_pos : (w : Width) → 0 < half w
half_pos w = grind (arith, nat_tests)

pub ones_below_lem : (k x : ℕ) → ones_below k x ≡ ones (x % 2 ^ k)
unfolding ones_below ones
ones_below_lem zero x = rw (mod-one x)
ones_below_lem (suc k) x =
    rw (ones_step (x % 2 ^ suc k), ← (add-one k), mod-mod-pow x k 1, field x k 1, ← (ones_below_lem k (x / 2)))

-- an outcome of the rules is a result of the manual, at a size
pub record Matches (n : ℕ) (o : Performed) (r : Result) : Type 0 where
  pub value : o.value ≡ r.value
  pub flags : FlagsAgree o.flags (status_of n r)

pub matches : (op : Operation) (w : Width) (a b : ℕ) (r : Result)
    → rules.result_of op w a b ≡ r.value
    → rules.carry op a b (rules.result_of op w a b) ≡ r.carry
    → rules.overflow op w a b (rules.result_of op w a b) ≡ r.overflow
    → Matches (bits w) (rules.performed op w a b) r
unfolding rules.performed rules.result_flags status_of
matches op w a b r value-is carry-is overflow-is =
    record {
      value = value-is;
      flags = record {
        cf = carry-is;
        pf = rw (value-is, ones_below_lem 8 r.value);
        zf = rw value-is;
        sf = rw value-is;
        of = overflow-is;
      };
    }

-- a value of the width is its own remainder
pub within : (w : Width) (a b : ℕ) → b < 2 ^ bits w → (a + (2 ^ bits w - b % 2 ^ bits w)) % 2 ^ bits w ≡ (a + (2 ^ bits w - b)) % 2 ^ bits w
within w a b h = grind (arith, nat_tests)

-- zero minus a: out of range only for the least number
pub negation-overflow : (h a : ℕ) → 0 < h → a < h + h
    → (ltb (lifted h 0 + h) (lifted h a) || leb (lifted h a + h) (lifted h 0)) ≡ eqb a h
negation-overflow h a h0 ha = grind (arith, nat_tests)

pub zero_test : (a : ℕ) → ltb 0 a ≡ not (eqb a 0)
zero_test a = grind (arith, nat_tests)

module _ (w : Width) (a b : ℕ) (ha : a < 2 ^ bits w) (hb : b < 2 ^ bits w) where
  ha' : a < half w + half w
  ha' = rw (halves w) at ha

  hb' : b < half w + half w
  hb' = rw (halves w) at hb

  pub add-matches : Matches (bits w) (rules.performed Add w a b) (sum (bits w) a b)
  unfolding rules.result_of rules.carry rules.overflow sum
  add-matches =
      matches Add w a b (sum (bits w) a b) refl
      (carry-law (2 ^ bits w) a b ha hb)
      (rw (halves w) (sum-overflow-law (half w) a b ha' hb'))

  pub sub-matches : Matches (bits w) (rules.performed Sub w a b) (difference (bits w) a b)
  unfolding rules.result_of rules.carry rules.overflow difference
  sub-matches =
      matches Sub w a b (difference (bits w) a b) (within w a b hb) refl
      (rw (within w a b hb, halves w) (difference-overflow-law (half w) a b ha' hb'))

-- neg: zero minus the value
pub neg-matches : (w : Width) (a : ℕ) → a < 2 ^ bits w
    → Matches (bits w) (rules.performed Sub w 0 a)
    (record { value = (2 ^ bits w - a) % 2 ^ bits w; carry = not (eqb a 0); overflow = eqb a (2 ^ (bits w - 1)) })
unfolding rules.result_of rules.carry rules.overflow
neg-matches w a ha =
    let ha' : a < half w + half w = rw (halves w) at ha in
    let out : rules.overflow Sub w 0 a (rules.result_of Sub w 0 a) ≡ eqb a (half w) =
    rw (within w 0 a ha, halves w) (difference-overflow-law (half w) 0 a (omega (arith, half_pos w)) ha' ∙ negation-overflow (half w) a (half_pos w) ha') in
    matches Sub w 0 a _ (within w 0 a ha ∙ rw zero-add) (zero_test a) out
