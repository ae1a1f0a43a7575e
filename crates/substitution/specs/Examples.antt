-- Worked examples of substitution. Variable 0 is `slot`, 1 is `step`.
use Rattle.std.specs.Prelude.{◌≡◌, refl, [], ◌∷◌}
use Rattle.expr.specs.Tree.{Expr, size}
use Rattle.expr.specs.Tree.Expr.{variable, constant, effect, load, binary}
use Rattle.expr.specs.Statement.Statement.{assignment, other}
use Rattle.expr.specs.Scan.{any_node, is_variable, is_load, is_effect}
use Rattle.substitution.specs.Substitution.{substitute, kept, ended, holdable, assigned, into, substituted, with_assignments}

abbrev slot : Expr
slot = variable 0

abbrev step : Expr
step = variable 1

abbrev more : Expr → Expr
more e = binary 0 e (constant 4 1)

abbrev same : Expr
same = binary 10 slot step

-- slot = slot + 1; step = slot: both read the slot from before
held_both : with_assignments (assignment 0 (more slot) ∷ assignment 1 slot ∷ []) same ≡ into (binary 10 (more slot) (more slot))
unfolding substituted substitute assigned kept ended holdable size any_node is_variable is_load is_effect
held_both = refl

-- slot = slot + step; step = slot: the second ends the first, whose value it reads, so nothing is held
first-difference : with_assignments (assignment 0 (binary 0 slot step) ∷ assignment 1 slot ∷ []) same ≡ into same
unfolding substituted substitute assigned kept ended holdable size any_node is_variable is_load is_effect
first-difference = refl

-- step = slot; slot = 1: what reads the slot ends
ended-entry : with_assignments (assignment 1 slot ∷ assignment 0 (constant 4 1) ∷ []) same ≡ into (binary 10 (constant 4 1) step)
unfolding substituted substitute assigned kept ended holdable size any_node is_variable is_load is_effect
ended-entry = refl

-- a load or an effect is not held, and a load's address is left as it is
not-held : with_assignments (assignment 0 (effect 2) ∷ assignment 1 (constant 4 1) ∷ []) (binary 10 slot (load 2 step)) ≡ into (binary 10 slot (load 2 step))
unfolding substituted substitute assigned kept ended holdable size any_node is_variable is_load is_effect
not-held = refl

-- after a statement with map 0 nothing is held
all-ended : with_assignments (assignment 0 (constant 4 1) ∷ other ∷ []) same ≡ into same
unfolding substituted substitute assigned kept ended holdable size any_node is_variable is_load is_effect
all-ended = refl
