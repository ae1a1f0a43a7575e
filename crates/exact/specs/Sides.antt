-- Exact sides once more, as relations: which value a side has whatever its atoms are, and which sides are constants as written.
-- They are said by low bits for every choice of atom bits, and share nothing with the definitions that the code is proved against.
use Rattle.std.specs.Prelude.{ℕ, ◌≤◌, ◌≡◌, Bool, eqb}
use Rattle.expr.specs.Codes.{op_and, op_mod, op_mul, op_sub, op_xor}
use Rattle.expr.specs.Tree.{Expr}
use Rattle.expr.specs.Tree.Expr.{variable, constant, condition_true, condition_false, effect, load, cast, binary, ternary}
use Rattle.value.specs.Evaluation.{ByPath}
use Rattle.parity.specs.LowBit.{low_bit}

-- No effect stands in a part, under a load neither (N17).
unfoldable pub NoEffect : Expr → Type 0
NoEffect (variable n) = Unit {0}
NoEffect (constant w x) = Unit {0}
NoEffect condition_true = Unit {0}
NoEffect condition_false = Unit {0}
NoEffect (effect t) = ⊥
NoEffect (load t a) = NoEffect a
NoEffect (cast t a) = NoEffect a
NoEffect (binary o a b) = NoEffect a × NoEffect b
NoEffect (ternary c a b) = NoEffect c × NoEffect a × NoEffect b

-- The low bit of a part is v, 0 or 1, for every choice of atom bits.
pub record LowBitIs (e : Expr) (v : ℕ) : Type 0 where
  pub small : v ≤ 1
  pub is : (shared : Expr → Bool) (own : ByPath Bool) → low_bit shared own e ≡ eqb v 1

-- A side has the value v: a constant; a 0 or a 1 in a cast; & 1, by the other side's low bit; % 2 of an even part; a difference or
-- an exclusive or of equal sides without an effect; a product or & with 0 (N5).
pub data HasValue : Expr → ℕ → Type 0 where
  number : {w x : ℕ} → HasValue (constant w x) x
  in-cast : {t v : ℕ} {a : Expr} → v ≤ 1 → HasValue a v → HasValue (cast t a) v
  and_one : {w v : ℕ} {a : Expr} → LowBitIs a v → HasValue (binary op_and a (constant w 1)) v
  one-and : {w v : ℕ} {b : Expr} → LowBitIs b v → HasValue (binary op_and (constant w 1) b) v
  even : {w : ℕ} {a : Expr} → LowBitIs a 0 → HasValue (binary op_mod a (constant w 2)) 0
  less-itself : {a : Expr} → NoEffect a → HasValue (binary op_sub a a) 0
  xor-itself : {a : Expr} → NoEffect a → HasValue (binary op_xor a a) 0
  times_zero : {w : ℕ} {a : Expr} → HasValue (binary op_mul a (constant w 0)) 0
  zero-times : {w : ℕ} {b : Expr} → HasValue (binary op_mul (constant w 0) b) 0
  and_zero : {w : ℕ} {a : Expr} → HasValue (binary op_and a (constant w 0)) 0
  zero-and : {w : ℕ} {b : Expr} → HasValue (binary op_and (constant w 0) b) 0

-- A constant as written, or one inside casts, & 1 and % 2 (N5).
pub data AsWritten : Expr → Type 0 where
  number : {w x : ℕ} → AsWritten (constant w x)
  in-cast : {t : ℕ} {a : Expr} → AsWritten a → AsWritten (cast t a)
  and_one : {w : ℕ} {a : Expr} → AsWritten a → AsWritten (binary op_and a (constant w 1))
  one-and : {w : ℕ} {b : Expr} → AsWritten b → AsWritten (binary op_and (constant w 1) b)
  remainder : {w : ℕ} {a : Expr} → AsWritten a → AsWritten (binary op_mod a (constant w 2))
