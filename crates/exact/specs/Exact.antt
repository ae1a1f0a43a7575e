-- Exact sides (a term of the scope document): a side that has one value whatever its atoms are.
use Rattle.std.specs.Prelude.{ℕ, Bool, true, false, cond, not, ◌&&◌, ◌||◌, List, [], ◌∷◌, eqb, leb, Option, Some, None}
use Rattle.expr.specs.Codes.{op_and, op_mod, op_mul, op_sub, op_xor}
use Rattle.expr.specs.Tree.{Expr}
use Rattle.expr.specs.Tree.Expr.{variable, constant, condition_true, condition_false, effect, load, cast, binary, ternary}
use Rattle.expr.specs.Scan.{has_own_value, same_tree}
use Rattle.parity.specs.Parity.{constant_of, parity}
use Rattle.exact.specs.declared.Shape.{Shape}
use Rattle.exact.specs.declared.Shape.TheVariants.{LowLeft, LowRight, Even, Vanishes, Other}

-- a part is the constant k
abbrev pub valued : Option ℕ → ℕ → Bool
valued None k = false
valued (Some x) k = eqb x k

abbrev pub is_constant : ℕ → Expr → Bool
is_constant k e = valued (constant_of e) k

-- Two sides are equal and have no effect in them (N3, N17).
abbrev pub same_sides : Expr → Expr → Bool
same_sides a b = same_tree a b && not (has_own_value a)

-- a polynomial is the constant 1
abbrev pub is_one : List ℕ → Bool
is_one [] = false
is_one (m ∷ []) = eqb m 0
is_one (m ∷ n ∷ l) = false

-- a polynomial that is 0 or 1 decides the low bit
abbrev pub decided_bit : List ℕ → Option ℕ
decided_bit [] = Some 0
decided_bit (m ∷ []) = cond (eqb m 0) (Some 1) None
decided_bit (m ∷ n ∷ l) = None

-- The low bit of a part by itself, where its polynomial decides it.
abbrev pub low : Expr → Option ℕ
low e = decided_bit (parity [] e).poly

-- Which binary parts are exact: & with the constant 1 on the right, or else on the left, has the other side's low bit; % by
-- the constant 2; a difference or an exclusive or of equal sides; & or × with the constant 0. In that order (N5).
unfoldable pub shape : ℕ → Expr → Expr → Shape
shape o a b =
    cond (eqb o op_and && is_constant 1 b) LowLeft
    (cond (eqb o op_and && is_constant 1 a) LowRight
    (cond (eqb o op_mod && is_constant 2 b) Even
    (cond ((eqb o op_sub || eqb o op_xor) && same_sides a b) Vanishes
    (cond ((eqb o op_and || eqb o op_mul) && (is_constant 0 a || is_constant 0 b)) Vanishes Other))))

-- a value that a cast to any type keeps
abbrev pub at_most_one : Option ℕ → Option ℕ
at_most_one None = None
at_most_one (Some v) = cond (leb v 1) (Some v) None

-- an even value leaves no remainder by 2; an odd one leaves 1 or -1
abbrev pub even_only : Option ℕ → Option ℕ
even_only None = None
even_only (Some v) = cond (eqb v 0) (Some 0) None

abbrev pub shape_value : Shape → Expr → Expr → Option ℕ
shape_value LowLeft a b = low a
shape_value LowRight a b = low b
shape_value Even a b = even_only (low a)
shape_value Vanishes a b = Some 0
shape_value Other a b = None

-- The value of an exact side (N5).
unfoldable pub exact : Expr → Option ℕ
exact (variable n) = None
exact (constant w x) = Some x
exact condition_true = None
exact condition_false = None
exact (effect t) = None
exact (load t a) = None
exact (cast t a) = at_most_one (exact a)
exact (binary o a b) = shape_value (shape o a b) a b
exact (ternary c a b) = None

abbrev pub shape_written : Shape → Bool → Bool → Bool
shape_written LowLeft a b = a
shape_written LowRight a b = b
shape_written Even a b = a
shape_written Vanishes a b = false
shape_written Other a b = false

-- A constant as written: one inside casts, & 1 and % 2 (N5).
unfoldable pub written : Expr → Bool
written (variable n) = false
written (constant w x) = true
written condition_true = false
written condition_false = false
written (effect t) = false
written (load t a) = false
written (cast t a) = written a
written (binary o a b) = shape_written (shape o a b) (written a) (written b)
written (ternary c a b) = false

abbrev pub shape_fits : Shape → Expr → Expr → Bool
shape_fits LowLeft a b = (parity [] a).fits
shape_fits LowRight a b = (parity [] b).fits
shape_fits Even a b = (parity [] a).fits
shape_fits Vanishes a b = true
shape_fits Other a b = true

-- The part whose low bit the exact step asks for is within the limits (N28).
unfoldable pub exact_fits : Expr → Bool
exact_fits (variable n) = true
exact_fits (constant w x) = true
exact_fits condition_true = true
exact_fits condition_false = true
exact_fits (effect t) = true
exact_fits (load t a) = true
exact_fits (cast t a) = exact_fits a
exact_fits (binary o a b) = shape_fits (shape o a b) a b
exact_fits (ternary c a b) = true

-- Exact sides decide whether they are equal, unless both are constants as written.
abbrev pub compared : Option ℕ → Option ℕ → Bool → Option Bool
compared None y written_both = None
compared (Some v) None written_both = None
compared (Some v) (Some u) written_both = cond written_both None (Some (eqb v u))

-- the two sides of an equality (N5)
abbrev pub exact_sides : Expr → Expr → Option Bool
exact_sides a b = compared (exact a) (exact b) (written a && written b)
