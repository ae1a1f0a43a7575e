-- What reading lets through of a node's expressions and statements, as premises for what is shown of nodes: every number is in its table,
-- constants are below their width, and a value has its variable's type.
use Rattle.std.specs.Prelude.{true, List, [], ◌∷◌, ◌⊎◌, ◌≡◌, ℕ, ◌*◌, ◌^◌, ◌≤◌, ◌<◌, length, get_or}
use Rattle.expr.specs.Codes.{type_count, signed8, operator_count}
use Rattle.expr.specs.Tree.{Expr, flat}
use Rattle.expr.specs.Tree.Expr.{variable, constant, condition_true, condition_false, effect, load, cast, binary, ternary}
use Rattle.expr.specs.Statement.{Statement}
use Rattle.expr.specs.Statement.Statement.{assignment, other}
use Rattle.expr.specs.Types.{type_of, same_type}

-- A constant has 1, 2, 4 or 8 bytes, and its value fits them (S38, R20).
pub record InWidth (w x : ℕ) : Type 0 where
  pub width : (w ≡ 1) ⊎ ((w ≡ 2) ⊎ ((w ≡ 4) ⊎ (w ≡ 8)))
  pub fits : x < 2 ^ (8 * w)

-- Every number in the tree is in its table, with n variables declared (R8, R10).
unfoldable pub Admitted : ℕ → Expr → Type 0
Admitted n (variable v) = v < n
Admitted n (constant w x) = InWidth w x
Admitted n condition_true = Unit {0}
Admitted n condition_false = Unit {0}
Admitted n (effect t) = t < type_count
Admitted n (load t a) = (t < type_count) × Admitted n a
Admitted n (cast t a) = (t < type_count) × Admitted n a
Admitted n (binary o a b) = (o < operator_count) × Admitted n a × Admitted n b
Admitted n (ternary c a b) = Admitted n c × Admitted n a × Admitted n b

-- An expression has at most 128 records, of two words each (S36).
pub record AdmittedExpression (n : ℕ) (e : Expr) : Type 0 where
  pub short : length (flat e) ≤ 256
  pub tree : Admitted n e

-- An assignment is to a declared variable, and its value has that variable's type (R10, R21, R22).
pub record AdmittedAssignment (types : List ℕ) (v : ℕ) (e : Expr) : Type 0 where
  pub declared : v < length types
  pub value : AdmittedExpression (length types) e
  pub typed : same_type (type_of types e) (get_or types v signed8) ≡ true

unfoldable pub AdmittedAll : List ℕ → List Statement → Type 0
AdmittedAll types [] = Unit {0}
AdmittedAll types (assignment v e ∷ rest) = AdmittedAssignment types v e × AdmittedAll types rest
AdmittedAll types (other ∷ rest) = AdmittedAll types rest

-- the declared types are types
abbrev pub InTable : List ℕ → Type 0
InTable types = (v : ℕ) → v < length types → get_or types v signed8 < type_count

-- A node: its variables' types, its statements and its condition (R8, S27).
pub record AdmittedNode (types : List ℕ) (statements : List Statement) (condition : Expr) : Type 0 where
  pub few : length types ≤ 32
  pub in_table : InTable types
  pub assigned : AdmittedAll types statements
  pub decides : AdmittedExpression (length types) condition
