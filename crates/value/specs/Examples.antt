-- Worked examples of the value rules.
use Rattle.std.specs.Prelude.{Option, true, Some, None, ◌≡◌, refl, List, [], ◌∷◌, map, ℕ, ◌-◌, ◌^◌, get_or}
use Rattle.expr.specs.Tree.{Expr}
use Rattle.expr.specs.Tree.Expr.{variable, constant, condition_true, condition_false, load, cast, binary, ternary}
use Rattle.expr.specs.Types.{promoted, plain_type, common, constant_type, binary_type, type_of}
use Rattle.arith.specs.Numbers.{bits, negative, number, residue, convert, quotient, remainder, shift_right, count, below}
use Rattle.value.specs.Operators.{arithmetics, shifts, comparisons, operators, operate}
use Rattle.value.specs.Evaluation.{ev, evaluated}
use Rattle.value.specs.Run.{Choices, run_from, run}
use Rattle.expr.specs.Statement.Statement.{assignment, other}

-- variable 0 is signed 32, 1 unsigned 32, 2 signed 64, 3 unsigned 8, 4 signed 8, 5 bool
types : List ℕ
types = 2 ∷ 6 ∷ 3 ∷ 4 ∷ 0 ∷ 9 ∷ []

-- -1, 1, -1, 200, -1, true
values : List ℕ
values = (2 ^ 32 - 1) ∷ 1 ∷ (2 ^ 64 - 1) ∷ 200 ∷ 255 ∷ 1 ∷ []

abbrev s32 : Expr
s32 = variable 0

abbrev u32 : Expr
u32 = variable 1

abbrev s64 : Expr
s64 = variable 2

abbrev u8 : Expr
u8 = variable 3

abbrev s8 : Expr
s8 = variable 4

abbrev bool : Expr
bool = variable 5

-- the most negative value, and a division by zero
abbrev least32 : Expr
least32 = cast 2 (constant 4 (2 ^ 31))

abbrev least64 : Expr
least64 = cast 3 (constant 8 (2 ^ 63))

abbrev zeroth : Expr
zeroth = binary 3 u32 (constant 4 0)

-- signed 32-bit numbers
abbrev two : Expr
two = cast 2 (constant 1 2)

abbrev seven : Expr
seven = cast 2 (constant 1 7)

abbrev minus : ℕ → Expr
minus n = cast 2 (constant 4 (2 ^ 32 - n))

abbrev all : List Expr → List (Option ℕ)
all es = map (evaluated types values) es

-- a shift by -1 is one by 31, or 63
shift-by-minus-one : all (binary 8 u32 s8 ∷ binary 8 (cast 3 u32) s32 ∷ []) ≡ Some (2 ^ 31) ∷ Some (2 ^ 63) ∷ []
unfolding types values evaluated ev type_of constant_type binary_type promoted plain_type common operate operators arithmetics shifts comparisons convert number negative residue bits count
shift-by-minus-one = refl

-- -1 >> 4 is -1; unsigned, zeros come in; a count of 33 is one of 1
shift-copies-sign : all (binary 9 s32 (constant 1 4) ∷ binary 9 (cast 6 s32) (constant 1 4) ∷ binary 8 u32 (constant 1 33) ∷ []) ≡ Some (2 ^ 32 - 1) ∷ Some (2 ^ 28 - 1) ∷ Some 2 ∷ []
unfolding types values evaluated ev type_of constant_type binary_type promoted plain_type common operate operators arithmetics shifts comparisons convert number negative residue bits count shift_right
shift-copies-sign = refl

-- the least signed value by -1 is out of range, and wraps back to itself; the remainder is 0
least_by_minus_one : all (binary 3 least32 s32 ∷ binary 4 least32 s32 ∷ binary 3 least64 s64 ∷ binary 4 least64 s64 ∷ []) ≡ Some (2 ^ 31) ∷ Some 0 ∷ Some (2 ^ 63) ∷ Some 0 ∷ []
unfolding types values evaluated ev type_of constant_type binary_type promoted plain_type common operate operators arithmetics shifts comparisons convert number negative residue bits quotient remainder
least_by_minus_one = refl

-- -7 / 2 is -3, and -1 is left; 7 / -2 is -3, and 1 is left
toward_zero : all (binary 3 (minus 7) (two) ∷ binary 4 (minus 7) (two) ∷ binary 3 seven (minus 2) ∷ binary 4 seven (minus 2) ∷ []) ≡ Some (2 ^ 32 - 3) ∷ Some (2 ^ 32 - 1) ∷ Some (2 ^ 32 - 3) ∷ Some 1 ∷ []
unfolding types values evaluated ev type_of constant_type binary_type promoted plain_type common operate operators arithmetics shifts comparisons convert number negative residue bits quotient remainder
toward_zero = refl

-- -1 < 1 fails where the other side is unsigned 32, and holds at signed 64
unsigned-at-a-tie : all (binary 12 s32 u32 ∷ binary 12 s64 u32 ∷ binary 14 s32 u32 ∷ []) ≡ Some 0 ∷ Some 1 ∷ Some 1 ∷ []
unfolding types values evaluated ev type_of constant_type binary_type promoted plain_type common operate operators arithmetics shifts comparisons convert number negative residue bits below
unsigned-at-a-tie = refl

-- unsigned 8 200 + 200 is 400; a bool counts as 1
narrow-operands : all (binary 0 u8 u8 ∷ binary 0 bool bool ∷ []) ≡ Some 400 ∷ Some 2 ∷ []
unfolding types values evaluated ev type_of constant_type binary_type promoted plain_type common operate operators arithmetics shifts comparisons convert number negative residue bits
narrow-operands = refl

-- a cast wraps, extends the sign, and to bool tests nonzero
casts : all (cast 4 (constant 2 256) ∷ cast 3 s8 ∷ cast 9 (constant 2 256) ∷ cast 9 (constant 2 0) ∷ []) ≡ Some 0 ∷ Some (2 ^ 64 - 1) ∷ Some 1 ∷ Some 0 ∷ []
unfolding types values evaluated ev type_of constant_type binary_type promoted plain_type common operate operators arithmetics shifts comparisons convert number negative residue bits
casts = refl

-- a division by zero has no value, whether it is / or %
zero-divisor : all (zeroth ∷ binary 4 u32 (constant 4 0) ∷ binary 0 zeroth u32 ∷ []) ≡ None ∷ None ∷ None ∷ []
unfolding types values evaluated ev type_of constant_type binary_type promoted plain_type common operate operators arithmetics shifts comparisons convert number negative residue bits quotient remainder
zero-divisor = refl

-- &&, || and the ternary leave out the side that they do not need
side-not-needed : all (binary 16 condition_false zeroth ∷ binary 17 condition_true zeroth ∷ ternary condition_true u32 zeroth ∷ []) ≡ Some 0 ∷ Some 1 ∷ Some 1 ∷ []
unfolding types values evaluated ev type_of constant_type binary_type promoted plain_type common operate operators arithmetics shifts comparisons convert number negative residue bits quotient
side-not-needed = refl

-- and take the side that they need
side-needed : all (binary 16 condition_true zeroth ∷ binary 16 zeroth condition_false ∷ ternary condition_false u32 zeroth ∷ []) ≡ None ∷ None ∷ None ∷ []
unfolding types values evaluated ev type_of constant_type binary_type promoted plain_type common operate operators arithmetics shifts comparisons convert number negative residue bits quotient
side-needed = refl

-- a run from variables that are all 7, where a 0-statement makes each 5; in an assignment a load that is a left operand finds 0, one that is a right
-- operand 1, and in the condition every load finds 3
abbrev free : Choices
free = record { start = λ n. 7; memory = λ i path t a. get_or path 0 0; contents = λ t a. 3; effects = λ i path. 0; renewed = λ i n. 5 }

abbrev is : ℕ → Expr
is n = binary 10 s32 (constant 4 n)

-- an assignment may read its own variable; a 0-statement sets them all, and a later assignment starts from there
renewed : run types (assignment 0 (binary 0 s32 s32) ∷ other ∷ assignment 0 (binary 0 s32 s32) ∷ []) (is 10) free ≡ Some true
unfolding run_from types ev type_of constant_type binary_type promoted plain_type common operate operators arithmetics shifts comparisons convert number negative residue bits quotient
renewed = refl

-- a division by zero leaves the run without outcome, also in a value that nothing reads
no-outcome : run types (assignment 1 zeroth ∷ []) (is 7) free ≡ None
unfolding run_from types ev type_of constant_type binary_type promoted plain_type common operate operators arithmetics shifts comparisons convert number negative residue bits quotient
no-outcome = refl

-- two loads of one address in an assignment may differ
loads-differ : run types (assignment 0 (binary 1 (load 2 s64) (load 2 s64)) ∷ []) (is (2 ^ 32 - 1)) free ≡ Some true
unfolding run_from types ev type_of constant_type binary_type promoted plain_type common operate operators arithmetics shifts comparisons convert number negative residue bits quotient
loads-differ = refl

-- in the condition they agree
loads-agree : run types [] (binary 10 (load 2 s64) (load 2 s64)) free ≡ Some true
unfolding run_from types ev type_of constant_type binary_type promoted plain_type common operate operators arithmetics shifts comparisons convert number negative residue bits quotient
loads-agree = refl
