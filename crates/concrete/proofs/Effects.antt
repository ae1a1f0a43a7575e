-- What the arithmetic instructions leave, value and flags, is what the manual's results are.
use Rattle.std.proofs.lemmas.Bool.Decides.{nat_tests}
use Rattle.std.proofs.Common.{None, Option, Some}
use Prim.{tt}
use Prim.Native.Nat.{ℕ, ◌+◌, ◌-◌, ◌^◌, ◌<◌}
use mathlib.Core.Path.{◌≡◌, refl, sym}
use mathlib.Core.Bool.{Bool, true, false, ◌&&◌}
use native.Mathlib.Nat.{mod-lt, mod_self}
use native.Mathlib.Omega.{arith}
use borrow.Author.Tests.{le-ltb, lt-leb}
use lib.Pow.{pow_pos}
use lib.Count.{ones}
use lib.Bits.{bit_and, bit_or, bit_xor, and_lt, or_lt, xor_lt, xor_self}
use Rattle.alu.specs.declared.Width.{Width}
use Rattle.alu.specs.declared.Flags.{Flags}
use Rattle.alu.specs.declared.Operation.{Operation}
use Rattle.alu.specs.declared.Operation.TheVariants as operation
use Rattle.isa.specs.declared.Binary.{Binary}
use Rattle.isa.specs.declared.Binary.TheVariants.{Add, Sub, Cmp, And, Or, Xor, Test}
use Rattle.isa.specs.declared.Unary.{Unary}
use Rattle.isa.specs.declared.Unary.TheVariants.{Inc, Dec, Neg}
use Rattle.alu.specs.Width.{bits}
use Rattle.known.specs.declared.Effect.{Effect}
use Rattle.known.specs.Operations.{operation_of, is_idiom, of_itself, no_flags, bitwise_flags, of_unknown, of_known, on_operands, arith_effect, alone, kept_carry}
use Rattle.concrete.specs.Concrete.{Status, Result, lifted, sum, difference, bitwise, ones_below, status_of, computed, computed_alone, with_own_carry}
use Rattle.concrete.specs.Agreement.{Allows, FlagsAgree}
use Rattle.concrete.proofs.Outcome.{Matches, matches, add-matches, sub-matches, neg-matches}
use Rattle.concrete.proofs.Registers.{never}
use Rattle.alu.specs.Arithmetic as rules
use Rattle.laws.proofs.Booleans.{and_left, and_right, by_test}

-- add to test, one record for all: known operands, a register with itself, an unknown operand
pub record Right (op : Binary) : Type 0 where
  pub known : (w : Width) (a b : ℕ) → a < 2 ^ bits w → b < 2 ^ bits w
      → Matches (bits w) (rules.performed (operation_of op) w a b) (computed op (bits w) a b)
  pub itself : is_idiom op ≡ true → (n a : ℕ) → a < 2 ^ n
      → ((computed op n a a).value ≡ 0) × ((computed op n a a).carry ≡ false) × ((computed op n a a).overflow ≡ false)
  pub unknown : (n a b : ℕ) → FlagsAgree (of_unknown op) (status_of n (computed op n a b))
  pub below : (n a b : ℕ) → a < 2 ^ n → b < 2 ^ n → (computed op n a b).value < 2 ^ n

difference-itself : (n a : ℕ) → a < 2 ^ n
    → ((difference n a a).value ≡ 0) × ((difference n a a).carry ≡ false) × ((difference n a a).overflow ≡ false)
unfolding difference
difference-itself n a h =
    let whole : a + (2 ^ n - a) ≡ 2 ^ n = omega arith in
    let half = 2 ^ (n - 1) in
    let at = lifted half a in
    let some : 0 < half = pow_pos (n - 1) in (
      rw whole (mod_self (2 ^ n)),
      le-ltb a a (omega arith),
      rw (le-ltb (at + half) at (omega arith), lt-leb (at + half) at (omega arith)),
    )

all-unknown : (g : Status) → FlagsAgree no_flags g
all-unknown g = record { cf = tt; pf = tt; zf = tt; sf = tt; of = tt }

right-add : Right Add
unfolding sum
right-add =
    record {
      known = λ w a b ha hb. add-matches w a b ha hb;
      itself = λ h. never h;
      unknown = λ n a b. all-unknown _;
      below = λ n a b ha hb. mod-lt _ (pow_pos n);
    }

-- sub and cmp
right-sub : (op : Binary) → operation_of op ≡ operation.Sub → ((n a b : ℕ) → computed op n a b ≡ difference n a b) → of_unknown op ≡ no_flags → Right op
unfolding difference
right-sub op op-is is none =
    record {
      known = λ w a b ha hb. rw (op-is, is (bits w) a b) (sub-matches w a b ha hb);
      itself = λ h n a k. rw (is n a a) (difference-itself n a k);
      unknown = λ n a b. rw none (all-unknown _);
      below = λ n a b ha hb. rw (is n a b) (mod-lt _ (pow_pos n));
    }

logical-unknown : (n x : ℕ) → FlagsAgree bitwise_flags (status_of n (bitwise x))
unfolding status_of
logical-unknown n x = record { cf = refl; pf = tt; zf = tt; sf = tt; of = refl }

-- and, or, xor, test
right-logical : (op : Binary) (r : Operation) (f : ℕ → ℕ → ℕ) → operation_of op ≡ r
    → ((n a b : ℕ) → computed op n a b ≡ bitwise (f a b))
    → ((w : Width) (a b : ℕ) → Matches (bits w) (rules.performed r w a b) (bitwise (f a b)))
    → ((n a b : ℕ) → a < 2 ^ n → b < 2 ^ n → f a b < 2 ^ n)
    → (is_idiom op ≡ true → (a : ℕ) → f a a ≡ 0)
    → of_unknown op ≡ bitwise_flags
    → Right op
right-logical op r f op-is is same lt self clear =
    record {
      known = λ w a b ha hb. rw (op-is, is (bits w) a b) (same w a b);
      itself = λ h n a k. rw (is n a a) (self h a, refl, refl);
      unknown = λ n a b. rw (is n a b, clear) (logical-unknown n (f a b));
      below = λ n a b ha hb. rw (is n a b) (lt n a b ha hb);
    }

pub right : (op : Binary) → Right op
unfolding rules.result_of rules.carry rules.overflow
right Add = right-add
right Sub = right-sub Sub refl (λ n a b. refl) refl
right Cmp = right-sub Cmp refl (λ n a b. refl) refl
right And = right-logical And operation.And bit_and refl (λ n a b. refl) (λ w a b. matches operation.And w a b _ refl refl refl) and_lt never refl
right Or = right-logical Or operation.Or bit_or refl (λ n a b. refl) (λ w a b. matches operation.Or w a b _ refl refl refl) or_lt never refl
right Xor = right-logical Xor operation.Xor bit_xor refl (λ n a b. refl) (λ w a b. matches operation.Xor w a b _ refl refl refl) xor_lt (λ h. xor_self) refl
right Test = right-logical Test operation.And bit_and refl (λ n a b. refl) (λ w a b. matches operation.And w a b _ refl refl refl) and_lt never refl

-- an effect of the rules and a result of the manual
pub record EffectAgrees (e : Effect) (n : ℕ) (r : Result) : Type 0 where
  pub value : Allows e.value r.value
  pub flags : FlagsAgree e.flags (status_of n r)

itself-agrees : (w : Width) (r : Result) → r.value ≡ 0 → r.carry ≡ false → r.overflow ≡ false → EffectAgrees (of_itself w) (bits w) r
unfolding of_itself rules.result_flags status_of ones_below ones
itself-agrees w r zero_is no-carry no_overflow =
    record {
      value = sym zero_is;
      flags = record { cf = sym no-carry; pf = rw zero_is; zf = rw zero_is; sf = rw zero_is; of = sym no_overflow };
    }

unknown-agrees : (op : Binary) (w : Width) (x y : ℕ)
    → EffectAgrees (record { value = None; flags = of_unknown op }) (bits w) (computed op (bits w) x y)
unknown-agrees op w x y = record { value = tt; flags = (right op).unknown (bits w) x y }

on-operands-agrees : (op : Binary) (w : Width) (a b : Option ℕ) (x y : ℕ) → x < 2 ^ bits w → y < 2 ^ bits w
    → Allows a x → Allows b y → EffectAgrees (on_operands op w a b) (bits w) (computed op (bits w) x y)
unfolding of_known
on-operands-agrees op w (Some a) (Some b) x y hx hy ha hb =
    let same = (right op).known w x y hx hy in
    rw (ha, hb) (record { value = same.value; flags = same.flags })
on-operands-agrees op w (Some a) None x y hx hy ha hb = unknown-agrees op w x y
on-operands-agrees op w None b x y hx hy ha hb = unknown-agrees op w x y

-- add to test
pub arith-agrees : (op : Binary) (w : Width) (same : Bool) (a b : Option ℕ) (x y : ℕ) → x < 2 ^ bits w → y < 2 ^ bits w
    → Allows a x → Allows b y → (same ≡ true → y ≡ x)
    → EffectAgrees (arith_effect op (Some w) same a b) (bits w) (computed op (bits w) x y)
unfolding arith_effect
arith-agrees op w same a b x y hx hy ha hb one =
    by_test (is_idiom op && same)
    (λ t.
    let zeros = (right op).itself (and_left (is_idiom op) same t) (bits w) x hx in
    rw (t, one (and_right (is_idiom op) same t))
    (itself-agrees w (computed op (bits w) x x) zeros.0 zeros.1 zeros.2))
    (λ t. rw t (on-operands-agrees op w a b x y hx hy ha hb))

-- ---- inc, dec, neg

one_below : (w : Width) → 1 < 2 ^ bits w
one_below w = grind (arith, nat_tests)

pub alone-matches : (op : Unary) (w : Width) (a : ℕ) → a < 2 ^ bits w → Matches (bits w) (alone op w a) (computed_alone op (bits w) a)
alone-matches Inc w a h = add-matches w a 1 h (one_below w)
alone-matches Dec w a h = sub-matches w a 1 h (one_below w)
alone-matches Neg w a h = neg-matches w a h

pub alone-below : (op : Unary) (n a : ℕ) → (computed_alone op n a).value < 2 ^ n
unfolding sum difference
alone-below op n a = grind (arith, mod-lt, pow_pos)

pub kept-agrees : (op : Unary) (cf : Option Bool) (c : Bool) (f : Flags) (g : Status) → Allows cf c → FlagsAgree f g
    → FlagsAgree (kept_carry op cf f) (with_own_carry op g c)
kept-agrees Inc cf c f g h agrees = record { cf = h; pf = agrees.pf; zf = agrees.zf; sf = agrees.sf; of = agrees.of }
kept-agrees Dec cf c f g h agrees = record { cf = h; pf = agrees.pf; zf = agrees.zf; sf = agrees.sf; of = agrees.of }
kept-agrees Neg cf c f g h agrees = agrees
