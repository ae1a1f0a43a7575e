-- The verdict on a condition once more, as a relation in the scope document's numbers: the value, 1 always or 0 never, and the
-- reason. One constructor for each step, in the scope document's order, each with what says that no step before it answers. Nothing
-- is shared with `decide`: exact sides and low bits are those of `exact/specs/Sides.antt` and `parity/specs/LowBit.antt`.
use Rattle.std.specs.Prelude.{ℕ, ◌≤◌, ◌≡◌}
use Rattle.expr.specs.Codes.{op_equal, op_greater, op_greater_equal, op_less, op_less_equal, op_logical_and, op_logical_or, op_not_equal, pointer, unsigned8}
use Rattle.expr.specs.Tree.{Expr}
use Rattle.expr.specs.Tree.Expr.{variable, constant, condition_true, condition_false, effect, load, cast, binary, ternary}
use Rattle.parity.specs.LowBit.{AlwaysDiffer}
use Rattle.exact.specs.Sides.{NoEffect, HasValue, AsWritten}

-- Equal sides without an effect (N3, N17).
pub record Same (a b : Expr) : Type 0 where
  pub equal : a ≡ b
  pub plain : NoEffect a

-- A comparison of a value with itself: == <= >= hold, != < > fail (N3).
pub data OfSame : (operator value : ℕ) → Type 0 where
  equal : OfSame op_equal 1
  at-most : OfSame op_less_equal 1
  at_least : OfSame op_greater_equal 1
  not_equal : OfSame op_not_equal 0
  less : OfSame op_less 0
  greater : OfSame op_greater 0

-- An equality, == or !=: what it is of equal sides, and of others.
pub data Equality : (operator equal unequal : ℕ) → Type 0 where
  equal : Equality op_equal 1 0
  not_equal : Equality op_not_equal 0 1

-- Both sides are exact, with these values, and one of them at least is no constant as written (N5).
pub record ExactValues (a b : Expr) (x y : ℕ) : Type 0 where
  pub left : HasValue a x
  pub right : HasValue b y
  pub apart : AsWritten a → AsWritten b → ⊥

-- a cast to an unsigned type or to a pointer: the types from unsigned 8 to pointer
pub data UnsignedCast : Expr → Type 0 where
  unsigned : {t : ℕ} {a : Expr} → unsigned8 ≤ t → t ≤ pointer → UnsignedCast (cast t a)

-- the constant 0
pub data Zero : Expr → Type 0 where
  zero : {w : ℕ} → Zero (constant w 0)

-- What a binary condition is decided to be, given what its halves are.
pub data Step (a b : Expr) (left right : ℕ → ℕ → Type 0) : (operator value reason : ℕ) → Type 0 where
  -- Equal sides of a comparison (N3, N17).
  same-sides : {o v : ℕ} → OfSame o v → Same a b → Step a b left right o v 2
  -- Exact sides of an equality, of one value or of two (N5).
  one_value : {o v u x : ℕ} → Equality o v u → (Same a b → ⊥) → ExactValues a b x x → Step a b left right o v 5
  two-values : {o v u x y : ℕ} → Equality o v u → (Same a b → ⊥) → ExactValues a b x y → (x ≡ y → ⊥) → Step a b left right o u 5
  -- Low bits that differ for every choice of atom bits (N6).
  low_bits : {o v u : ℕ} → Equality o v u → (Same a b → ⊥) → ((x y : ℕ) → ExactValues a b x y → ⊥) → AlwaysDiffer a b → Step a b left right o u 6
  -- An unsigned or pointer cast against 0, on either side; such sides are not the same (N7).
  below-zero : UnsignedCast a → Zero b → Step a b left right op_less 0 4
  at-least-zero : UnsignedCast a → Zero b → Step a b left right op_greater_equal 1 4
  zero-above : Zero a → UnsignedCast b → Step a b left right op_greater 0 4
  zero_at_most : Zero a → UnsignedCast b → Step a b left right op_less_equal 1 4
  -- Both halves of && hold, or one fails and gives its reason, the left one first (N8, N9, N10).
  both_hold : {p q : ℕ} → left 1 p → right 1 q → Step a b left right op_logical_and 1 7
  left-fails : {r : ℕ} → left 0 r → Step a b left right op_logical_and 0 r
  right-fails : {r : ℕ} → ((q : ℕ) → left 0 q → ⊥) → right 0 r → Step a b left right op_logical_and 0 r
  -- Both halves of || fail, or one holds and gives its reason, the left one first (N8, N9, N10).
  both-fail : {p q : ℕ} → left 0 p → right 0 q → Step a b left right op_logical_or 0 7
  left-holds : {r : ℕ} → left 1 r → Step a b left right op_logical_or 1 r
  right-holds : {r : ℕ} → ((q : ℕ) → left 1 q → ⊥) → right 1 r → Step a b left right op_logical_or 1 r

-- A condition is decided to be this value, 1 always or 0 never, for this reason: true and false themselves (N4), and what a step
-- says of a comparison or of logic.
unfoldable pub Decided : Expr → (value reason : ℕ) → Type 0
Decided (variable n) value reason = ⊥
Decided (constant w x) value reason = ⊥
Decided condition_true value reason = (value ≡ 1) × (reason ≡ 3)
Decided condition_false value reason = (value ≡ 0) × (reason ≡ 3)
Decided (effect t) value reason = ⊥
Decided (load t a) value reason = ⊥
Decided (cast t a) value reason = ⊥
Decided (binary o a b) value reason = Step a b (Decided a) (Decided b) o value reason
Decided (ternary c a b) value reason = ⊥
