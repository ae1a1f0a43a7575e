-- A node that was read whole reads no variable beyond those that it declares. Assumes nothing.
use Prim.Native.Nat.{ℕ, zero, suc, ◌<◌}
use mathlib.Core.Path.{◌≡◌, refl}
use mathlib.Core.List.{List, [], ◌∷◌, ◌++◌}
use mathlib.Core.Bool.{Bool, true, false}
use lib.Dec.{eqb}
use lib.ListN.{length}
use Rattle.std.specs.Prelude.{Ok}
use Rattle.refusal.specs.declared.Fault.TheVariants.{Typing}
use Rattle.sheet_field.specs.Field.{Place, start_of, code_at}
use Rattle.sheet_field.proofs.Fields.{judge-at}
use Rattle.expr.specs.Tree.{Expr, tree_of}
use Rattle.expr.specs.Scan.{reads}
use Rattle.expr.specs.Statement.{Statement}
use Rattle.expr.specs.Statement.Statement.{assignment, other}
use Rattle.sheet_expression.specs.Expression.{expression_at}
use Rattle.sheet_expression.proofs.Variables.{variables-below}
use Rattle.sheet_node.specs.Node.{map_at, assignment_at, statement_at, statement_of, statements_from, Node, node_at, node_of, types_in}
use Rattle.sheet_node.proofs.Accepted.{statement-on, whole-node}

-- an expression that reads only the first n variables
abbrev pub Below : ℕ → Expr → Type 0
Below n e = (v : ℕ) → reads v e ≡ true → v < n

abbrev pub AllBelow : ℕ → List Statement → Type 0
AllBelow n [] = Unit {0}
AllBelow n (assignment v e ∷ l) = Below n e × AllBelow n l
AllBelow n (other ∷ l) = AllBelow n l

-- a node whose expressions read only variables that it declares
pub record ReadsDeclared (n : Node) : Type 0 where
  pub statements : AllBelow (length n.types) n.statements
  pub condition : Below (length n.types) n.condition

below-append : (n : ℕ) (l m : List Statement) → AllBelow n l → AllBelow n m → AllBelow n (l ++ m)
below-append n [] m a b = b
below-append n (assignment v e ∷ l) m a b = (a.0, below-append n l m a.1 b)
below-append n (other ∷ l) m a b = below-append n l m a b

below_one : (types s : List ℕ) (p : Place) {a : ℕ} → (statement_at types s p).next ≡ Ok a → AllBelow (length types) (statement_of (statement_at types s p) ∷ [])
unfolding statement_at assignment_at
below_one types s p e = go (eqb (map_at s p).value 3) refl
  where
    go : (t : Bool) → eqb (map_at s p).value 3 ≡ t → AllBelow (length types) (statement_of (statement_at types s p) ∷ [])
    go true q =
        let v = code_at (length types) s (map_at s p).next in
        rw q ((λ n. variables-below (length types) s v.next n (judge-at _ Typing (start_of p) _ (rw q at e)).1), tt)
    go false q = rw q tt

below_all : (types s : List ℕ) (p : Place) (k : ℕ) {a : ℕ} → (statements_from types s p k).next ≡ Ok a → AllBelow (length types) (statements_from types s p k).list
unfolding statements_from
below_all types s p zero e = tt
below_all types s p (suc k) e =
    let t = statements_from types s p k in
    below-append (length types) t.list _ (below_all types s p k (statement-on types s t.next e).1) (below_one types s t.next e)

condition-below : (variables n : ℕ) (s : List ℕ) (p : Place) {a : ℕ} → variables ≡ n → (expression_at n s p).next ≡ Ok a
    → Below n (tree_of (expression_at variables s p).words)
condition-below variables n s p same e v h = variables-below n s p v e (rw same at h)

-- the theorem
pub reads-declared : (s : List ℕ) (p : Place) {a : ℕ} → (node_at s p).next ≡ Ok a → ReadsDeclared (node_of s (node_at s p))
unfolding node_of
reads-declared s p e =
    let w = whole-node s p e in
    record {
      statements = below_all (types_in s (node_at s p)) s (node_at s p).body (node_at s p).statements w.statements.1;
      condition = condition-below (node_at s p).variables (length (types_in s (node_at s p))) s (node_at s p).condition w.counted w.condition.1;
    }
