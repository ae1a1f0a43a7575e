-- The operators on optional values. A value is the bit pattern of its type; a division by zero leaves none. What is lazy and what has
-- no value is said here, and nowhere else.
use Rattle.std.specs.Prelude.{Option, Some, None, IfSome, Bool, true, false, cond, not, ◌||◌, List, [], ◌∷◌, ◌++◌, map, ℕ, ◌%◌, ◌^◌, ◌<◌, eqb, get_or}
use Rattle.std.specs.Int.Bits.{bit_and, bit_or, bit_xor}
use Rattle.expr.specs.Codes.{op_logical_and, op_logical_or}
use Rattle.expr.specs.Types.{promoted, together}
use Rattle.arith.specs.Numbers.{bits, convert, sum, difference, product, quotient, remainder, shift_left, shift_right, count, below, at_most}

-- a value, where there is one, is a pattern of the type
abbrev pub Typed : ℕ → Option ℕ → Type 0
Typed t v = IfSome v (λ x. x < 2 ^ bits t)

-- A number that is chosen freely stands for a value of type t: the pattern of its low bits.
abbrev pub chosen : ℕ → ℕ → Option ℕ
chosen t x = Some (x % 2 ^ bits t)

-- A condition used as an integer: 1 where it holds, 0 where it fails (V12).
abbrev pub integer_of : Option Bool → Option ℕ
integer_of (Some true) = Some 1
integer_of (Some false) = Some 0
integer_of None = None

-- An integer used as a condition: it holds where it is not 0 (V13).
abbrev pub truth_of : Option ℕ → Option Bool
truth_of (Some x) = Some (not (eqb x 0))
truth_of None = None

-- A comparison's value, 1 or 0, of type signed 32 (V2).
abbrev pub flag : Bool → Option ℕ
flag b = Some (cond b 1 0)

-- A value of type s taken at type t, by a cast, a promotion or as an arm of a ternary (V5, V14).
abbrev pub taken : ℕ → ℕ → Option ℕ → Option ℕ
taken s t (Some x) = Some (convert s t x)
taken s t None = None

-- A division by zero leaves no value (V10).
abbrev pub divides : ℕ → ℕ → Option ℕ
divides y r = cond (eqb y 0) None (Some r)

-- what an operator yields at a type, from two patterns
abbrev pub Operation : Type 0
Operation = ℕ → ℕ → ℕ → Option ℕ

-- no operator has this number
abbrev pub no_operation : Operation
no_operation t x y = None

-- + - × / % & | ^ on two patterns of type t
unfoldable pub arithmetics : List Operation
arithmetics =
    (λ t x y. Some (sum t x y))
    ∷ (λ t x y. Some (difference t x y))
    ∷ (λ t x y. Some (product t x y))
    ∷ (λ t x y. divides y (quotient t x y))
    ∷ (λ t x y. divides y (remainder t x y))
    ∷ (λ t x y. Some (bit_and x y))
    ∷ (λ t x y. Some (bit_or x y))
    ∷ (λ t x y. Some (bit_xor x y))
    ∷ []

-- << and >> on a pattern of type t and a count
unfoldable pub shifts : List Operation
shifts = (λ t x k. Some (shift_left t x k)) ∷ (λ t x k. Some (shift_right t x k)) ∷ []

-- == != < <= > >= on two patterns of type t
unfoldable pub comparisons : List Operation
comparisons =
    (λ t x y. flag (eqb x y))
    ∷ (λ t x y. flag (not (eqb x y)))
    ∷ (λ t x y. flag (below t x y))
    ∷ (λ t x y. flag (at_most t x y))
    ∷ (λ t x y. flag (below t y x))
    ∷ (λ t x y. flag (at_most t y x))
    ∷ []

-- what an operator yields from a of type ta and b of type tb
abbrev pub Operator : Type 0
Operator = ℕ → ℕ → ℕ → ℕ → Option ℕ

-- Both operands are taken at their type together (V3, V4).
abbrev pub on_common : Operation → Operator
on_common op ta tb a b = op (together ta tb) (convert ta (together ta tb) a) (convert tb (together ta tb) b)

-- A shift is at the promoted type of its left operand, and the right one gives a count below that type's width (V7).
abbrev pub on_left : Operation → Operator
on_left op ta tb a b = op (promoted ta) (convert ta (promoted ta) a) (count (promoted ta) tb b)

-- The operators whose sides are integers, in `BinaryOp` order, so that each stands at its number (S43).
unfoldable pub operators : List Operator
operators = map on_common arithmetics ++ (map on_left shifts ++ map on_common comparisons)

-- no operator has this number
abbrev pub no_operator : Operator
no_operator ta tb a b = None

-- an operator that needs both sides
abbrev pub strict : ℕ → ℕ → ℕ → Option ℕ → Option ℕ → Option ℕ
strict o ta tb (Some a) (Some b) = get_or operators o no_operator ta tb a b
strict o ta tb (Some a) None = None
strict o ta tb None v = None

-- && and ||: where the left side settles it, the right side plays no part, not even by a division by zero (V11).
abbrev pub both_hold : Option Bool → Option Bool → Option Bool
both_hold (Some true) v = v
both_hold (Some false) v = Some false
both_hold None v = None

abbrev pub either_holds : Option Bool → Option Bool → Option Bool
either_holds (Some true) v = Some true
either_holds (Some false) v = v
either_holds None v = None

-- the operators whose sides are conditions
abbrev pub is_logic : ℕ → Bool
is_logic o = eqb o op_logical_and || eqb o op_logical_or

-- one of those two
abbrev pub connect : ℕ → Option Bool → Option Bool → Option Bool
connect o u v = cond (eqb o op_logical_and) (both_hold u v) (either_holds u v)

-- Every operator: && and || join conditions, the others have a value of two integers. A number that is no operator yields nothing; reading
-- lets none through (R8).
unfoldable pub operate : ℕ → ℕ → ℕ → Option ℕ → Option ℕ → Option ℕ
operate o ta tb u v = cond (is_logic o) (integer_of (connect o (truth_of u) (truth_of v))) (strict o ta tb u v)

-- A ternary: the arm that is not chosen plays no part (V11).
abbrev pub choose : Option Bool → Option ℕ → Option ℕ → Option ℕ
choose (Some true) u v = u
choose (Some false) u v = v
choose None u v = None
