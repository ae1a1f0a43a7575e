-- `decide`: the verdict on a condition whose variables are substituted, in the order of the scope document, and the limits of
-- refusal 11.
use Rattle.std.specs.Prelude.{ℕ, Bool, true, false, cond, not, ◌&&◌, ◌||◌, [], eqb, Option, Some, None}
use Rattle.expr.specs.Codes.{op_equal, op_greater, op_greater_equal, op_less, op_less_equal, op_logical_and, op_logical_or, op_not_equal, pointer, unsigned16, unsigned32, unsigned64, unsigned8}
use Rattle.expr.specs.Tree.{Expr}
use Rattle.expr.specs.Tree.Expr.{variable, constant, condition_true, condition_false, effect, load, cast, binary, ternary}
use Rattle.verdict.specs.declared.Reason.{Reason}
use Rattle.verdict.specs.declared.Reason.TheVariants.{EqualSides, Truth, UnsignedZero, ExactSides, Parity, Halves}
use Rattle.verdict.specs.declared.Verdict.{Verdict}
use Rattle.verdict.specs.declared.Verdict.TheVariants.{Always, Never, Undecided, NoBranch}
use Rattle.parity.specs.Parity.{parity, right_low, difference, few}
use Rattle.exact.specs.Exact.{same_sides, is_constant, is_one, exact_fits, exact_sides}

-- always where it holds, never where it fails
abbrev pub said : Reason → Bool → Verdict
said r true = Always r
said r false = Never r

abbrev pub said_if : Reason → Option Bool → Verdict
said_if r None = Undecided
said_if r (Some b) = said r b

-- the first of two steps that decides
abbrev pub or_else : Verdict → Verdict → Verdict
or_else (Always r) v = Always r
or_else (Never r) v = Never r
or_else Undecided v = v
or_else NoBranch v = NoBranch

-- what a comparison of equal values is: ==, <= and >= hold; !=, < and > fail
abbrev pub of_equal : ℕ → Option Bool
of_equal o =
    cond (eqb o op_equal || (eqb o op_less_equal || eqb o op_greater_equal)) (Some true)
    (cond (eqb o op_not_equal || (eqb o op_less || eqb o op_greater)) (Some false) None)

-- Equal sides without an effect decide a comparison (N3, N17).
abbrev pub equal_sides : ℕ → Expr → Expr → Verdict
equal_sides o a b = cond (same_sides a b) (said_if EqualSides (of_equal o)) Undecided

-- == where the first is true, else !=: from whether the sides are equal
abbrev pub asked : Bool → Bool → Bool
asked true b = b
asked false b = not b

-- what the sides' low bits say, from whether they always differ
abbrev pub on_parity : Bool → Bool → Verdict
on_parity equal differ = cond differ (said Parity (asked equal false)) Undecided

-- Sides whose low bits always differ are never equal (N6).
abbrev pub odd_sides : Bool → Expr → Expr → Verdict
odd_sides equal a b = on_parity equal (is_one (difference a b))

abbrev pub on_exact : Bool → Option Bool → Verdict
on_exact equal None = Undecided
on_exact equal (Some b) = said ExactSides (asked equal b)

-- An equality: exact sides, then parity (N5, N6).
abbrev pub equality : Bool → Expr → Expr → Verdict
equality equal a b = or_else (on_exact equal (exact_sides a b)) (odd_sides equal a b)

-- an unsigned type or a pointer
abbrev pub unsigned : ℕ → Bool
unsigned t = eqb t unsigned8 || (eqb t unsigned16 || (eqb t unsigned32 || (eqb t unsigned64 || eqb t pointer)))

-- a cast to such a type
abbrev pub unsigned_cast : Expr → Bool
unsigned_cast (variable n) = false
unsigned_cast (constant w x) = false
unsigned_cast condition_true = false
unsigned_cast condition_false = false
unsigned_cast (effect t) = false
unsigned_cast (load t a) = false
unsigned_cast (cast t a) = unsigned t
unsigned_cast (binary o a b) = false
unsigned_cast (ternary c a b) = false

-- against 0 on its right: >= holds, < fails
abbrev pub above_zero : ℕ → Verdict
above_zero o = cond (eqb o op_greater_equal) (Always UnsignedZero) (cond (eqb o op_less) (Never UnsignedZero) Undecided)

-- the relation with its sides exchanged
abbrev pub mirrored : ℕ → ℕ
mirrored o =
    cond (eqb o op_less) op_greater
    (cond (eqb o op_greater) op_less
    (cond (eqb o op_less_equal) op_greater_equal (cond (eqb o op_greater_equal) op_less_equal o)))

-- An unsigned or pointer cast against the constant 0, on either side (N7).
abbrev pub unsigned_zero : ℕ → Expr → Expr → Verdict
unsigned_zero o a b =
    cond (is_constant 0 b) (cond (unsigned_cast a) (above_zero o) Undecided)
    (cond (is_constant 0 a) (cond (unsigned_cast b) (above_zero (mirrored o)) Undecided) Undecided)

-- Both halves of && hold, or one fails; the left one's reason before the right one's (N8, N9).
abbrev pub both : Verdict → Verdict → Verdict
both (Never r) v = Never r
both (Always r) (Always q) = Always Halves
both (Always r) (Never q) = Never q
both (Always r) Undecided = Undecided
both (Always r) NoBranch = Undecided
both Undecided (Always q) = Undecided
both Undecided (Never q) = Never q
both Undecided Undecided = Undecided
both Undecided NoBranch = Undecided
both NoBranch v = Undecided

-- always and never exchanged
abbrev pub negated : Verdict → Verdict
negated (Always r) = Never r
negated (Never r) = Always r
negated Undecided = Undecided
negated NoBranch = NoBranch

-- One half of || holds, or both fail: && of the negations, negated (N8, N9).
abbrev pub either : Verdict → Verdict → Verdict
either l r = negated (both (negated l) (negated r))

-- by the operator: == and !=; < <= > >=; && and ||; no other decides
abbrev pub by_operator : ℕ → Expr → Expr → Verdict → Verdict → Verdict
by_operator o a b left right =
    cond (eqb o op_equal) (equality true a b)
    (cond (eqb o op_not_equal) (equality false a b)
    (cond (eqb o op_less || (eqb o op_less_equal || (eqb o op_greater || eqb o op_greater_equal))) (unsigned_zero o a b)
    (cond (eqb o op_logical_and) (both left right)
    (cond (eqb o op_logical_or) (either left right) Undecided))))

-- The verdict on a condition (N3, N4, N5, N6, N7, N8, N9, N10, N15).
unfoldable pub decide : Expr → Verdict
decide (variable n) = Undecided
decide (constant w x) = Undecided
decide condition_true = Always Truth
decide condition_false = Never Truth
decide (effect t) = Undecided
decide (load t a) = Undecided
decide (cast t a) = Undecided
decide (binary o a b) = or_else (equal_sides o a b) (by_operator o a b (decide a) (decide b))
decide (ternary c a b) = Undecided

-- An equality is within the limits: every part that `parity` enters from a side, every one that the exact step asks, and the sum
-- of the sides (N28, N29, N30, N31).
abbrev pub equality_fits : Expr → Expr → Bool
equality_fits a b =
    (parity [] a).fits && ((right_low a b).fits && (few (difference a b) && (exact_fits a && exact_fits b)))

-- Every equality that is reached through && and || alone is within the limits, decided earlier or not (N27).
unfoldable pub fits : Expr → Bool
fits (variable n) = true
fits (constant w x) = true
fits condition_true = true
fits condition_false = true
fits (effect t) = true
fits (load t a) = true
fits (cast t a) = true
fits (binary o a b) =
    cond (eqb o op_equal || eqb o op_not_equal) (equality_fits a b)
    (cond (eqb o op_logical_and || eqb o op_logical_or) (fits a && fits b) true)
fits (ternary c a b) = true
