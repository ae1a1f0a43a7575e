-- How the statements of a node come into its condition: the value that was assigned to a variable stands for the variable, as long as it is held.
use Rattle.std.specs.Prelude.{Bool, false, cond, not, ◌&&◌, ◌||◌, List, [], ◌∷◌, ℕ, eqb, ltb}
use Rattle.expr.specs.Tree.{Expr, size}
use Rattle.expr.specs.Tree.Expr.{variable, constant, condition_true, condition_false, effect, load, cast, binary, ternary}
use Rattle.expr.specs.Statement.{Statement}
use Rattle.expr.specs.Statement.Statement.{assignment, other}
use Rattle.expr.specs.Scan.{any_node, plain_expr, reads}

-- What is held for a variable: nothing, or the expression that stands for it. (N1)
pub data Entry : Type 0 where
  free : Entry
  held : (value : Expr) → Entry

-- what is held, by the variable's number
abbrev pub Table : Type 0
Table = ℕ → Entry

abbrev pub nothing_held : Table
nothing_held v = free

-- what is written for variable v
abbrev pub standing : ℕ → Entry → Expr
standing v free = variable v
standing v (held e) = e

-- An expression with each held variable replaced, all at once. A load is left as it is, with its address. (N1)
unfoldable pub substitute : Table → Expr → Expr
substitute h (variable n) = standing n (h n)
substitute h (constant w x) = constant w x
substitute h condition_true = condition_true
substitute h condition_false = condition_false
substitute h (effect t) = effect t
substitute h (load t a) = load t a
substitute h (cast t a) = cast t (substitute h a)
substitute h (binary o a b) = binary o (substitute h a) (substitute h b)
substitute h (ternary c a b) = ternary (substitute h c) (substitute h a) (substitute h b)

-- what is held reads variable v
abbrev pub entry_reads : ℕ → Entry → Bool
entry_reads v free = false
entry_reads v (held e) = reads v e

-- An assignment to v ends what is held for v itself, and whatever reads v. (N1)
unfoldable pub kept : ℕ → Table → Table
kept v h w = cond (eqb w v || entry_reads v (h w)) free (h w)

-- the tree is a variable other than v whose held value ends with an assignment to v
unfoldable pub ended : ℕ → Table → Expr → Bool
ended v h (variable w) = not (eqb w v) && entry_reads v (h w)
ended v h (constant w x) = false
ended v h condition_true = false
ended v h condition_false = false
ended v h (effect t) = false
ended v h (load t a) = false
ended v h (cast t a) = false
ended v h (binary o a b) = false
ended v h (ternary c a b) = false

-- The substituted value e of an assignment to v is held, unless a load or an effect is in it, or it reads another variable whose held value this
-- assignment ends. (N16, N18)
unfoldable pub holdable : ℕ → Table → Expr → Bool
holdable v h e = plain_expr e && not (any_node (ended v h) e)

-- the entry of the assigned variable
abbrev pub entry_of : ℕ → Table → Expr → Entry
entry_of v h e = cond (holdable v h e) (held e) free

-- What is held after e, already substituted, is assigned to v. (N1)
unfoldable pub assigned : ℕ → Expr → Table → Table
assigned v e h w = cond (eqb w v) (entry_of v h e) (kept v h w)

-- What the statements of a node make of its condition: an expression, or refusal 10.
pub data Substituted : Type 0 where
  too_long : Substituted
  into : (condition : Expr) → Substituted

-- how many records a substituted expression may have (N26)
abbrev pub most_records : ℕ
most_records = 128

-- Refusal 10: a substituted value or condition has more. (N26)
abbrev pub long : Expr → Bool
long e = ltb most_records (size e)

-- The condition c after these statements, where h is held before them. Each assigned value is substituted, held to its limit whether it is then held or
-- not; a statement with map 0 ends all that is held; the condition comes last. (N1, N2, N26)
unfoldable pub substituted : Table → List Statement → Expr → Substituted
substituted h [] c = cond (long (substitute h c)) too_long (into (substitute h c))
substituted h (other ∷ rest) c = substituted nothing_held rest c
substituted h (assignment v e ∷ rest) c =
    cond (long (substitute h e)) too_long (substituted (assigned v (substitute h e) h) rest c)

-- At the start nothing is held. (N1)
abbrev pub with_assignments : List Statement → Expr → Substituted
with_assignments statements c = substituted nothing_held statements c
