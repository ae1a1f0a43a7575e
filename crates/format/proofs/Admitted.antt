-- What reading lets through: every node of an accepted sheet is admitted, as the premises of what is shown of nodes have it.
use Prim.Native.Nat.{ℕ, zero, suc, ◌*◌, ◌^◌, ◌<◌, ◌≤◌}
use mathlib.Core.Path.{◌≡◌}
use mathlib.Core.Logic.{◌⊎◌, inl, inr}
use mathlib.Core.List.{List, [], ◌∷◌}
use native.Mathlib.Omega.{arith}
use lib.ListN.{length, get_or}
use Rattle.std.specs.Prelude.{Ok}
use Rattle.expr.specs.Codes.{signed8}
use Rattle.expr.specs.Tree.{Expr}
use Rattle.expr.specs.Tree.Expr.{variable, constant, condition_true, condition_false, effect, load, cast, binary, ternary}
use Rattle.expr.specs.Statement.{Statement}
use Rattle.expr.specs.Statement.Statement.{assignment, other}
use Rattle.expr.specs.Admission.{InWidth, Admitted, AdmittedExpression, AdmittedAssignment, AdmittedAll, AdmittedNode}
use Rattle.expr.proofs.Laws.{flat-size}
use Rattle.sheet_node.specs.Node.{Node}
use Rattle.sheet.specs.declared.Sheet as read-sheet
use Rattle.sheet.specs.Sheet.{sheet_at, reading_of}
use Rattle.sheet_bytes.specs.Write.{Bytes, All}
use Rattle.format.specs.Expression.{ValidConstant, ValidTree, ValidExpression}
use Rattle.format.specs.Sheet.{ValidAssignment, ValidStatement, ValidNode}
use Rattle.format.proofs.Typing.{all_map, code_of, typed-assignment}
use Rattle.format.proofs.Sheets.{read-was-written}

in-width : (w x : ℕ) → ValidConstant w x → InWidth w x
in-width w x v = record { width = v.width; fits = go v.width v.fits }
  where
    go : (w ≡ 1) ⊎ ((w ≡ 2) ⊎ ((w ≡ 4) ⊎ (w ≡ 8))) → x < 256 ^ w → x < 2 ^ (8 * w)
    go (inl e) lt = rw e (rw e at lt)
    go (inr (inl e)) lt = rw e (rw e at lt)
    go (inr (inr (inl e))) lt = rw e (rw e at lt)
    go (inr (inr (inr e))) lt = rw e (rw e at lt)

admitted-tree : (n : ℕ) (e : Expr) → ValidTree n e → Admitted n e
unfolding ValidTree Admitted
admitted-tree n (variable v) h = h
admitted-tree n (constant w x) h = in-width w x h
admitted-tree n condition_true h = tt
admitted-tree n condition_false h = tt
admitted-tree n (effect t) h = omega (arith, h)
admitted-tree n (load t a) h = (omega (arith, h.1), admitted-tree n a h.0)
admitted-tree n (cast t a) h = (omega (arith, h.1), admitted-tree n a h.0)
admitted-tree n (binary o a b) h = (omega (arith, h.2), admitted-tree n a h.0, admitted-tree n b h.1)
admitted-tree n (ternary c a b) h = (admitted-tree n c h.0, admitted-tree n a h.1, admitted-tree n b h.2)

admitted-expression : (n : ℕ) (e : Expr) → ValidExpression n e → AdmittedExpression n e
admitted-expression n e h = record { short = rw flat-size (omega (arith, h.short)); tree = admitted-tree n e h.tree }

admitted-assignment : (types : List ℕ) → All (λ t. t ≤ 9) types → (v : ℕ) (e : Expr) → ValidAssignment types v e → AdmittedAssignment types v e
admitted-assignment types few v e h = record {
  declared = h.declared;
  value = admitted-expression (length types) e h.value;
  typed = (typed-assignment types few v e h).typed signed8;
}

admitted-statements : (types : List ℕ) → All (λ t. t ≤ 9) types → (l : List Statement) → All (ValidStatement types) l → AdmittedAll types l
unfolding All AdmittedAll
admitted-statements types few [] h = tt
admitted-statements types few (other ∷ l) h = admitted-statements types few l h.1
admitted-statements types few (assignment v e ∷ l) h = (admitted-assignment types few v e h.0, admitted-statements types few l h.1)

abbrev pub IsAdmitted : Node → Type 0
IsAdmitted n = AdmittedNode n.types n.statements n.condition

node-admitted : (n : Node) → ValidNode n → IsAdmitted n
node-admitted n v = record {
  few = v.few_types;
  in_table = λ i lt. code_of n.types v.types i signed8 lt;
  assigned = admitted-statements n.types v.types n.statements v.statements;
  decides = admitted-expression (length n.types) n.condition v.condition;
}

-- every node of bytes that reading accepts
pub nodes-admitted : (s : List ℕ) {sheet : read-sheet.Sheet} → Bytes s → reading_of s ≡ Ok sheet
    → All (λ n. AdmittedNode n.types n.statements n.condition) (sheet_at s).nodes.list
nodes-admitted s {sheet} small e =
    let w = read-was-written s sheet small e in
    rw w.yields.nodes (all_map node-admitted w.syntax.nodes w.valid.nodes)

at-index : (l : List Node) → All (λ n. AdmittedNode n.types n.statements n.condition) l → (k : ℕ) (d : Node) → k < length l → IsAdmitted (get_or l k d)
unfolding All
at-index [] h k d lt = absurd (omega arith)
at-index (n ∷ l) h zero d lt = h.0
at-index (n ∷ l) h (suc k) d lt = at-index l h.1 k d (omega arith)

-- the same by the node's number
pub node-admitted-at : (s : List ℕ) {sheet : read-sheet.Sheet} → Bytes s → reading_of s ≡ Ok sheet → (k : ℕ) (d : Node) → k < length (sheet_at s).nodes.list
    → IsAdmitted (get_or (sheet_at s).nodes.list k d)
node-admitted-at s small e k d lt = at-index (sheet_at s).nodes.list (nodes-admitted s small e) k d lt
