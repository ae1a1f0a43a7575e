-- What passing a node's statements leaves.
use Rattle.std.specs.Prelude.{◌≡◌, Bool, true, Option, Some, None, List, [], ◌∷◌, ℕ, ◌≤◌, length, Ok}
use Rattle.expr.specs.declared.Tree.{Tree}
use Rattle.expr.specs.Tree.{Expr, tree_of}
use Rattle.expr.specs.Statement.{Statement}
use Rattle.sheet_expression.specs.Expression.{Taken}
use Rattle.sheet_node.specs.Node.{StatementRead, statement_of, StatementsRead}
use Rattle.substitution.specs.Substitution.{Table, nothing_held, too_long, into, substituted, with_assignments}

-- where this is true, nothing is held
abbrev pub Idle : Bool → Table → Type 0
Idle idle h = idle ≡ true → h ≡ nothing_held

-- What one statement leaves: the offset after it, and of the table h, whatever comes after the statement, and whatever the condition, the table after it
-- gives what h gave; or all is too long. (N1, N2, N26)
abbrev pub Stepped : {A : Type 0} → Option A → ℕ → Table → Table → StatementRead → Type 0
Stepped (Some _) at h after x = (Ok at ≡ x.next) × ((rest : List Statement) (c : Expr) → substituted h (statement_of x ∷ rest) c ≡ substituted after rest c)
Stepped None at h after x = (rest : List Statement) (c : Expr) → substituted h (statement_of x ∷ rest) c ≡ too_long

-- What a node's statements leave, from a table in which nothing is held: the offset and the table after them, or that all is too long. (N1, N2, N26)
abbrev pub Passed : {A : Type 0} → Option A → ℕ → Table → StatementsRead → Type 0
Passed (Some _) at after read = (Ok at ≡ read.next) × ((c : Expr) → with_assignments read.list c ≡ substituted after [] c)
Passed None at after read = (c : Expr) → with_assignments read.list c ≡ too_long

-- A node's substituted condition, of at most 128 records, and the offset after the condition; or refusal 10 is due. (N26)
abbrev pub MadeNode : Option Tree → ℕ → List Statement → Taken → Type 0
MadeNode (Some t) at statements condition = (Ok at ≡ condition.next) × (length t.words.now ≤ 256)
    × (with_assignments statements (tree_of condition.words) ≡ into (tree_of t.words.now))
MadeNode None at statements condition = with_assignments statements (tree_of condition.words) ≡ too_long
