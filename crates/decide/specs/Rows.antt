-- Conditions with their verdicts, worked out by hand: every reason, in the scope document's numbers, and the order of the steps.
use Rattle.std.specs.Prelude.{ℕ, ◌≡◌, refl, List, [], ◌∷◌}
use Rattle.expr.specs.Codes.{signed32, unsigned32, pointer, op_add, op_mul, op_or, op_equal, op_greater, op_greater_equal, op_less, op_less_equal, op_logical_and, op_logical_or, op_not_equal}
use Rattle.expr.specs.Tree.{Expr}
use Rattle.expr.specs.Tree.Expr.{variable, constant, condition_true, condition_false, effect, load, cast, binary}
use Rattle.verdict.specs.Numbers.{Numbers, verdict_numbers}
use Rattle.verdict.specs.Numbers.Numbers.{decision, undecided}
use Rattle.decide.specs.Decide.{decide}

-- variables x and y, and a constant of 4 bytes
abbrev x : Expr
x = variable 0

abbrev y : Expr
y = variable 1

abbrev number : ℕ → Expr
number n = constant 4 n

-- a condition and its verdict
pub record Row : Type 0 where
  pub condition : Expr
  pub answer : Numbers

abbrev row : Expr → Numbers → Row
row c n = record { condition = c; answer = n }

-- Each row of a table is what `decide` yields.
abbrev pub Yields : List Row → Type 0
Yields [] = Unit {0}
Yields (r ∷ rows) = (verdict_numbers (decide r.condition) ≡ r.answer) × Yields rows

pub rows : List Row
-- x == x
rows =
    row (binary op_equal x x) (decision 1 2)
    -- x <= x
    ∷ row (binary op_less_equal x x) (decision 1 2)
    -- x != x
    ∷ row (binary op_not_equal x x) (decision 0 2)
    -- x < x
    ∷ row (binary op_less x x) (decision 0 2)
    -- effect == effect
    ∷ row (binary op_equal (effect signed32) (effect signed32)) undecided
    -- a load of one address twice; of an address with an effect in it
    ∷ row (binary op_equal (load signed32 x) (load signed32 x)) (decision 1 2)
    ∷ row (binary op_equal (load signed32 (effect pointer)) (load signed32 (effect pointer))) undecided
    -- true and false
    ∷ row condition_true (decision 1 3)
    ∷ row condition_false (decision 0 3)
    -- (unsigned) x >= 0 and (pointer) x < 0
    ∷ row (binary op_greater_equal (cast unsigned32 x) (number 0)) (decision 1 4)
    ∷ row (binary op_less (cast pointer x) (number 0)) (decision 0 4)
    -- 0 <= (unsigned) x and 0 > (unsigned) x
    ∷ row (binary op_less_equal (number 0) (cast unsigned32 x)) (decision 1 4)
    ∷ row (binary op_greater (number 0) (cast unsigned32 x)) (decision 0 4)
    -- (unsigned) x > 0 and (signed) x >= 0
    ∷ row (binary op_greater (cast unsigned32 x) (number 0)) undecided
    ∷ row (binary op_greater_equal (cast signed32 x) (number 0)) undecided
    -- x × 0 == 0
    ∷ row (binary op_equal (binary op_mul x (number 0)) (number 0)) (decision 1 5)
    -- x × 0 == 1 and != 1: the low bits differ too, but exact sides come first
    ∷ row (binary op_equal (binary op_mul x (number 0)) (number 1)) (decision 0 5)
    ∷ row (binary op_not_equal (binary op_mul x (number 0)) (number 1)) (decision 1 5)
    -- 0 == 1: constants as written are left to parity
    ∷ row (binary op_equal (number 0) (number 1)) (decision 0 6)
    -- (x | 1) == 0 and != 0
    ∷ row (binary op_equal (binary op_or x (number 1)) (number 0)) (decision 0 6)
    ∷ row (binary op_not_equal (binary op_or x (number 1)) (number 0)) (decision 1 6)
    -- a load twice is one atom, an effect twice is two
    ∷ row (binary op_equal (binary op_add (load signed32 x) (load signed32 x)) (number 1)) (decision 0 6)
    ∷ row (binary op_equal (binary op_add (effect signed32) (effect signed32)) (number 1)) undecided
    -- true && true and false || false
    ∷ row (binary op_logical_and condition_true condition_true) (decision 1 7)
    ∷ row (binary op_logical_or condition_false condition_false) (decision 0 7)
    -- both halves settle it alone: the left one's reason
    ∷ row (binary op_logical_and (binary op_not_equal x x) condition_false) (decision 0 2)
    ∷ row (binary op_logical_and condition_false (binary op_not_equal x x)) (decision 0 3)
    ∷ row (binary op_logical_or (binary op_equal x x) condition_true) (decision 1 2)
    ∷ row (binary op_logical_or condition_true (binary op_equal x x)) (decision 1 3)
    -- the right one settles it alone
    ∷ row (binary op_logical_and (binary op_equal x y) condition_false) (decision 0 3)
    ∷ row (binary op_logical_or (binary op_equal x y) condition_true) (decision 1 3)
    -- neither does
    ∷ row (binary op_logical_and (binary op_equal x y) condition_true) undecided
    ∷ row (binary op_logical_or (binary op_equal x y) condition_false) undecided
    ∷ []

-- The rows hold (N3, N4, N5, N6, N7, N8, N9, N13, N17).
pub worked : Yields rows
unfolding rows decide Rattle.exact.specs.Exact.exact Rattle.exact.specs.Exact.written Rattle.exact.specs.Exact.shape Rattle.parity.specs.Parity.parity Rattle.parity.specs.Parity.atom_low Rattle.parity.specs.Parity.entered Rattle.parity.specs.Parity.place Rattle.poly.specs.Terms.toggle Rattle.poly.specs.Terms.sum Rattle.poly.specs.Terms.sum_times Rattle.poly.specs.Terms.sum_product Rattle.expr.specs.Scan.same_tree Rattle.laws.specs.Words.same_words Rattle.expr.specs.Scan.any_node Rattle.expr.specs.Scan.is_effect Rattle.expr.specs.Tree.flat Rattle.expr.specs.Tree.tag_of Rattle.expr.specs.Tree.value_of
worked = (refl, (refl, (refl, (refl, (refl, (refl, (refl, (refl, (refl, (refl, (refl, (refl, (refl, (refl, (refl, (refl, (refl, (refl, (refl, (refl, (refl, (refl, (refl, (refl, (refl, (refl, (refl, (refl, (refl, (refl, (refl, (refl, (refl, tt)))))))))))))))))))))))))))))))))
