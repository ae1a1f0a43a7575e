-- A node that was read whole, and its evaluation from its parts.
use Prim.Native.Nat.{ℕ, suc, ◌≤◌}
use mathlib.Core.Path.{◌≡◌, refl, sym, ◌∙◌}
use mathlib.Core.List.{List, [], ◌∷◌}
use mathlib.Core.Bool.{Bool, true, false, not, ◌&&◌}
use native.Mathlib.Omega.{arith}
use lib.ListN.{length}
use Rattle.std.specs.Prelude.{Option, Some, None, Ok, Err, IsOk, is_some}
use Rattle.refusal.specs.declared.Fault.TheVariants.{NotPlain}
use Rattle.refusal.specs.Numbers.{refused}
use Rattle.sheet_field.specs.Field.{WentOn}
use Rattle.expr.specs.declared.Tree.{Tree}
use Rattle.expr.specs.Tree.{tree_of}
use Rattle.expr.specs.Scan.{plain_expr}
use Rattle.arith.specs.Numbers.{fits}
use Rattle.sheet_expression.specs.Expression.{expression_at}
use Rattle.sheet_field.proofs.Fields.{went-on}
use Rattle.sheet_expression.specs.Promises.{TookTree, WholeExpression}
use Rattle.sheet_node.specs.declared.node.NodeFront.{NodeFront}
use Rattle.sheet_node.specs.Node.{statements_from, node_at, types_in, node_of}
use Rattle.sheet_node.specs.Promises.{front_of}
use Rattle.sheet_node.proofs.Decoding.{body-there}
use Rattle.sheet_node.proofs.Accepted.{Parts, whole-node}
use Rattle.evaluate_node.specs.Evaluate.{unfit_from, evaluation_of}
use Rattle.evaluate_node.specs.Promises.{Running}

pub fit-enough : (v : ℕ) (types values : List ℕ) → unfit_from v types values ≡ None → length types ≤ length values
unfolding unfit_from
fit-enough v [] values e = omega arith
fit-enough v (t ∷ types) [] e = absurd cc
fit-enough v (t ∷ types) (x ∷ values) e = go (fits t x) refl (λ h. fit-enough (suc v) types values h)
  where
    go : (b : Bool) → fits t x ≡ b → (unfit_from (suc v) types values ≡ None → length types ≤ length values)
        → length (t ∷ types) ≤ length (x ∷ values)
    go true q rest = let h = rest (rw q at e) in omega arith
    go false q rest = absurd (let z = rw q at e in cc)

and-false : (b : Bool) → (b && false) ≡ false
and-false true = refl
and-false false = refl

-- a node that was read whole, with its condition as its reader gave it
module _ (s : List ℕ) (at : ℕ) (read : IsOk (node_at s (Ok at)).next) where
  on : WentOn (node_at s (Ok at)).next
  on = went-on (node_at s (Ok at)).next read

  whole : Parts s (node_at s (Ok at)) (types_in s (node_at s (Ok at)))
  whole = whole-node s (Ok at) on.1

  -- its types are few
  pub types-few : length (types_in s (node_at s (Ok at))) ≤ 32
  types-few = whole.few

  pub this-condition : WentOn (expression_at (node_at s (Ok at)).variables s (node_at s (Ok at)).condition).next
  this-condition = rw whole.counted whole.condition

  module _ {condition : ℕ} (there : Ok condition ≡ (node_at s (Ok at)).condition) where
    condition-there : WentOn (expression_at (node_at s (Ok at)).variables s (Ok condition)).next
    condition-there = rw there this-condition

    pub whole-condition : WholeExpression s condition
    whole-condition = record { variables = (node_at s (Ok at)).variables; on = condition-there }

    module _ {tree : Tree} {end : ℕ}
        (reader : (variables : ℕ) → WentOn (expression_at variables s (Ok condition)).next → TookTree tree end (expression_at variables s (Ok condition))) where
      pub condition-words : tree.words.now ≡ (expression_at (node_at s (Ok at)).variables s (node_at s (Ok at)).condition).words
      condition-words = (reader (node_at s (Ok at)).variables condition-there).words ∙ rw there

      pub condition-few : length tree.words.now ≤ 256
      condition-few =
          let took = reader (node_at s (Ok at)).variables condition-there in rw took.words took.few

      pub condition-refused : false ≡ plain_expr (tree_of tree.words.now) → (place : ℕ) (values : List ℕ)
          → Err (refused NotPlain place) ≡ evaluation_of (node_of s (node_at s (Ok at))) place values
      unfolding evaluation_of node_of
      condition-refused fails place values =
          let out : plain_expr (tree_of (expression_at (node_at s (Ok at)).variables s (node_at s (Ok at)).condition).words) ≡ false = rw (← condition-words) (sym fails) in
          sym (rw (out, and-false))

  module _ {types words : List ℕ} (these : types ≡ types_in s (node_at s (Ok at)))
      (condition : words ≡ (expression_at (node_at s (Ok at)).variables s (node_at s (Ok at)).condition).words) where
    pub running : Running s (node_at s (Ok at)) types words
    running = record {
      at = Ok at;
      is = refl;
      on = on;
      types_are = these;
      words_are = condition;
      few = rw these whole.few;
      statements = rw these whole.statements;
    }

    pub statements-there : {front : NodeFront} → front ≡ front_of (node_at s (Ok at))
        → statements_from types s (Ok front.body) front.statements ≡ statements_from types s (node_at s (Ok at)).body (node_at s (Ok at)).statements
    statements-there front-is = rw (body-there s at on front-is, front-is)

-- a test of a value that is not there
pub none_is : (x : Option ℕ) (b : Bool) → is_some x ≡ not b → (b ≡ true → x ≡ None) × (x ≡ None → b ≡ true)
none_is None true e = (λ _. refl, λ _. refl)
none_is None false e = absurd cc
none_is (Some v) true e = absurd cc
none_is (Some v) false e = (λ h. absurd cc, λ h. absurd cc)
