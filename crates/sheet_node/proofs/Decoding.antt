-- Nodes and their statements that were read whole, at plain offsets. Assumes nothing.
use Prim.Native.Nat.{ℕ, ◌+◌, ◌*◌, ◌≤◌}
use mathlib.Core.Path.{◌≡◌, refl, sym, ap, ◌∙◌}
use mathlib.Core.List.{List}
use mathlib.Core.Bool.{Bool, true, false}
use native.Mathlib.Omega.{arith}
use lib.Dec.{eqb}
use lib.ListN.{length}
use borrow.Author.Tests.{eq-eqb, ne_eqb}
use Rattle.std.specs.Prelude.{Ok, Some, None, IsOk}
use Rattle.refusal.specs.declared.Fault.TheVariants.{Code, Count, Typing}
use Rattle.sheet_field.specs.Field.{Place, FieldReading, little, field_at, code_at, count_at, WentOn}
use Rattle.sheet_field.proofs.Fields.{judge-at, check-at, count-on, count_most, went-on}
use Rattle.expr.specs.declared.Tree.{Tree}
use Rattle.sheet_expression.specs.Expression.{expression_at}
use Rattle.sheet_expression.specs.Promises.{Took, TookTree, WholeExpression}
use Rattle.sheet_expression.proofs.Accepted.{one-tree}
use Rattle.sheet_expression.proofs.Decoding.{field-from, code-from}
use Rattle.sheet_node.specs.declared.node.NodeFront.{NodeFront}
use Rattle.sheet_node.specs.declared.node.Put.{Put}
use Rattle.sheet_node.specs.Node.{NodeReading, map_at, assignment_at, statement_at, statements_from, types_from, addresses_from, node_at, types_in}
use Rattle.sheet_node.specs.Promises.{PutStatement, front_of, reading_of, WholeStatements, addresses_end}
use Rattle.sheet_node.proofs.Accepted.{assignment-on, types-on, addresses-on, Parts, whole-node}
use Rattle.sheet_node.proofs.Nodes.{types-end, addresses-end}

map-from : (s : List ℕ) (at : ℕ) {b : ℕ} → (map_at s (Ok at)).next ≡ Ok b
    → (at + 1 ≤ length s) × (map_at s (Ok at) ≡ record { value = little s at 1; next = Ok (at + 1) })
unfolding map_at
map-from s at on =
    let c = check-at _ Code at (field_at 1 s (Ok at)) on in
    let f = field-from 1 s at c.1 in
    (f.0, c.2 ∙ f.1)

module _ (types s : List ℕ) (at : ℕ) (on : WentOn (statement_at types s (Ok at)).next) where
  map-place : WentOn (map_at s (Ok at)).next
  unfolding statement_at
  map-place = go (eqb (map_at s (Ok at)).value 3) refl
    where
      go : (t : Bool) → eqb (map_at s (Ok at)).value 3 ≡ t → WentOn (map_at s (Ok at)).next
      go true q = assignment-on types at s (map_at s (Ok at)).next (rw q at on.1)
      go false q = (on.0, rw q at on.1)

  map_read : (at + 1 ≤ length s) × (map_at s (Ok at) ≡ record { value = little s at 1; next = Ok (at + 1) })
  map_read = map-from s at map-place.1

  pub map-inside : at + 1 ≤ length s
  map-inside = map_read.0

  module _ {map : ℕ} (map_is : map ≡ little s at 1) where
    pub other-took : (map ≡ 3 → ⊥) → (list : List ℕ) → PutStatement None (at + 1) list list (statement_at types s (Ok at))
    unfolding statement_at
    other-took other list =
        rw (map_read.1, ← map_is, ne_eqb map 3 other) record { content = refl; size = refl; few = omega arith; place = refl; list = refl }

    module _ (three : map ≡ 3) where
      statement-is : statement_at types s (Ok at) ≡ assignment_at types at s (Ok (at + 1))
      unfolding statement_at
      statement-is = rw (map_read.1, ← map_is, eq-eqb map 3 three)

      value-place : (expression_at (length types) s (code_at (length types) s (Ok (at + 1))).next).next ≡ Ok on.0
      unfolding assignment_at
      value-place = (judge-at _ Typing at _ (rw statement-is at on.1)).1

      variable-read : (at + 1 + 1 ≤ length s) × (code_at (length types) s (Ok (at + 1)) ≡ record { value = little s (at + 1) 1; next = Ok (at + 1 + 1) })
      variable-read = code-from (length types) s (at + 1) (one-tree (length types) s _ value-place).there

      pub variable-inside : at + 1 + 1 ≤ length s
      variable-inside = variable-read.0

      value-is : (expression_at (length types) s (Ok (at + 1 + 1))).next ≡ Ok on.0
      value-is = rw variable-read.1 at value-place

      pub value_on : WentOn (expression_at (length types) s (Ok (at + 1 + 1))).next
      value_on = (on.0, value-is)

      pub assigned-took : {f : Put} {end : ℕ} {before after : List ℕ} → f.variable ≡ little s (at + 1) 1
          → Took f.records (Ok end) before after (expression_at (length types) s (Ok (at + 1 + 1)))
          → PutStatement (Some f) end before after (statement_at types s (Ok at))
      unfolding assignment_at
      assigned-took v-is took =
          let words : (statement_at types s (Ok at)).words ≡ (expression_at (length types) s (Ok (at + 1 + 1))).words = rw (statement-is, variable-read.1) in
          record {
            content = (rw statement-is, v-is ∙ rw (statement-is, variable-read.1));
            size = rw words took.size;
            few = took.few;
            place = took.place ∙ value-is ∙ sym on.1;
            list = rw words (took.list value_on);
          }

count-from : (least most : ℕ) (s : List ℕ) (at : ℕ) {b : ℕ} → (count_at least most s (Ok at)).next ≡ Ok b
    → (at + 2 ≤ length s) × (count_at least most s (Ok at) ≡ record { value = little s at 2; next = Ok (at + 2) })
unfolding count_at
count-from least most s at on =
    let c = check-at _ Count at (field_at 2 s (Ok at)) on in
    let f = field-from 2 s at c.1 in
    (f.0, c.2 ∙ f.1)

-- the first part of a node that was read whole
module _ (s : List ℕ) (at : ℕ) (on : WentOn (node_at s (Ok at)).next) where
  body-on : WentOn (count_at 0 64 s (types_from s (count_at 0 32 s (Ok at)).next (count_at 0 32 s (Ok at)).value)).next
  unfolding node_at
  body-on = (whole-node s (Ok at) on.1).start

  types-place : WentOn (types_from s (count_at 0 32 s (Ok at)).next (count_at 0 32 s (Ok at)).value)
  types-place = count-on 0 64 s _ body-on.1

  variables-read : (at + 2 ≤ length s) × (count_at 0 32 s (Ok at) ≡ record { value = little s at 2; next = Ok (at + 2) })
  variables-read = count-from 0 32 s at (types-on s (count_at 0 32 s (Ok at)).next (count_at 0 32 s (Ok at)).value types-place.1).1

  pub variables-inside : at + 2 ≤ length s
  variables-inside = variables-read.0

  types-read : (at + 2 + little s at 2 ≤ length s) × (types_from s (Ok (at + 2)) (little s at 2) ≡ Ok (at + 2 + little s at 2))
  types-read =
      let there : types_from s (Ok (at + 2)) (little s at 2) ≡ Ok types-place.0 = rw variables-read.1 at types-place.1 in
      let e = types-end s (Ok (at + 2)) (little s at 2) types-place.0 (λ b q. let z : b ≡ at + 2 = cc in omega (arith, variables-read.0)) there in
      (omega (arith, e.0, e.1), there ∙ ap Ok (sym e.0))

  statements-read : (at + 2 + little s at 2 + 2 ≤ length s)
      × (count_at 0 64 s (Ok (at + 2 + little s at 2)) ≡ record { value = little s (at + 2 + little s at 2) 2; next = Ok (at + 2 + little s at 2 + 2) })
  statements-read = count-from 0 64 s (at + 2 + little s at 2) (rw (variables-read.1, types-read.1) at body-on.1)

  pub statements-inside : at + 2 + little s at 2 + 2 ≤ length s
  statements-inside = statements-read.0

  pub front-whole : {variables end statements : ℕ} → variables ≡ little s at 2 → end ≡ at + 2 + variables → statements ≡ little s end 2
      → ◌≡◌ {A = NodeFront} (record { variables = variables; types = at + 2; statements = statements; body = end + 2 }) (front_of (node_at s (Ok at)))
  unfolding node_at
  front-whole variables-is end_is statements-is = rw (variables-read.1, types-read.1, statements-read.1, statements-is, end_is, variables-is)

  types-at : (node_at s (Ok at)).types ≡ Ok (at + 2)
  unfolding node_at
  types-at = ap (λ (f : FieldReading). f.next) variables-read.1

  body-at : WentOn (node_at s (Ok at)).body
  body-at = (whole-node s (Ok at) on.1).start

node-path : {v v' n n' a a' : ℕ} {t t' b b' c c' x x' y y' : Place} → v ≡ v' → t ≡ t' → n ≡ n' → b ≡ b' → c ≡ c' → a ≡ a' → x ≡ x' → y ≡ y'
    → ◌≡◌ {A = NodeReading}
    (record { variables = v; types = t; statements = n; body = b; condition = c; addresses = a; sites = x; next = y })
    (record { variables = v'; types = t'; statements = n'; body = b'; condition = c'; addresses = a'; sites = x'; next = y' })
node-path e f g h i j k l = rw (e, f, g, h, i, j, k, l)

-- addresses that were read whole, from the offset of their count
module _ (s : List ℕ) (from : ℕ) (on : WentOn (addresses_end s (Ok from))) where
  count-read : (from + 2 ≤ length s) × (count_at 0 16 s (Ok from) ≡ record { value = little s from 2; next = Ok (from + 2) })
  unfolding addresses_end
  count-read = count-from 0 16 s from (addresses-on s (count_at 0 16 s (Ok from)).next (count_at 0 16 s (Ok from)).value on.1).1

  pub sites-inside : from + 2 ≤ length s
  sites-inside = count-read.0

  pub addresses-few : little s from 2 ≤ 16
  addresses-few = rw count-read.1 at (count_most 0 16 s (Ok from))

  addresses-are-there : (addresses_from s (Ok (from + 2)) (little s from 2)).next ≡ Ok on.0
  unfolding addresses_end
  addresses-are-there =
      let parts : (addresses_from s (count_at 0 16 s (Ok from)).next (count_at 0 16 s (Ok from)).value).next ≡ Ok on.0 = on.1 in
      rw count-read.1 at parts

  pub addresses-inside : (on.0 ≡ from + 2 + 8 * little s from 2) × (on.0 ≤ length s)
  addresses-inside = addresses-end s (from + 2) (little s from 2) sites-inside addresses-are-there

  pub addresses-last : Ok (from + 2 + 8 * little s from 2) ≡ addresses_end s (Ok from)
  addresses-last = ap Ok (sym addresses-inside.0) ∙ sym on.1

-- those of a node, from the offset after its condition
module _ (s : List ℕ) (at : ℕ) (on : WentOn (node_at s (Ok at)).next) {end : ℕ}
    (end_is : Ok end ≡ (expression_at (length (types_in s (node_at s (Ok at)))) s (node_at s (Ok at)).condition).next) where
  pub node-end : addresses_end s (Ok end) ≡ (node_at s (Ok at)).next
  node-end = rw end_is (whole-node s (Ok at) on.1).end

  pub addresses-on-end : WentOn (addresses_end s (Ok end))
  addresses-on-end = (on.0, node-end ∙ on.1)

  pub addresses_are : little s end 2 ≡ (node_at s (Ok at)).addresses
  addresses_are = sym (ap (λ (f : FieldReading). f.value) (count-read s end addresses-on-end).1) ∙ rw end_is (whole-node s (Ok at) on.1).addresses

  pub sites-there : Ok (end + 2) ≡ (node_at s (Ok at)).sites
  sites-there = sym (ap (λ (f : FieldReading). f.next) (count-read s end addresses-on-end).1) ∙ rw end_is (whole-node s (Ok at) on.1).sites

-- a node that was read whole, from its parts
module _ (s : List ℕ) (at : ℕ) (on : WentOn (node_at s (Ok at)).next) {front : NodeFront} (front-is : front ≡ front_of (node_at s (Ok at))) where
  whole : Parts s (node_at s (Ok at)) (types_in s (node_at s (Ok at)))
  whole = whole-node s (Ok at) on.1

  -- its types and its statements stand at these offsets
  types-there : Ok front.types ≡ (node_at s (Ok at)).types
  types-there = rw (front-is, types-at s at on)

  pub body-there : Ok front.body ≡ (node_at s (Ok at)).body
  body-there = let b = body-at s at on in rw (front-is, b.1)

  pub statements-on : WentOn (statements_from (types_in s (node_at s (Ok at))) s (Ok front.body) front.statements).next
  statements-on = rw (body-there, front-is) whole.statements

  pub these-statements : WholeStatements s front.body front.statements
  these-statements = record { types = types_in s (node_at s (Ok at)); on = statements-on }

  module _ {condition : ℕ}
      (condition-is : (types : List ℕ) → WentOn (statements_from types s (Ok front.body) front.statements).next → Ok condition ≡ (statements_from types s (Ok front.body) front.statements).next) where
    condition-there : Ok condition ≡ (node_at s (Ok at)).condition
    condition-there = condition-is (types_in s (node_at s (Ok at))) statements-on ∙ rw (body-there, front-is) whole.body

    condition-on : WentOn (expression_at (length (types_in s (node_at s (Ok at)))) s (Ok condition)).next
    condition-on = rw condition-there whole.condition

    pub this-condition : WholeExpression s condition
    this-condition = record { variables = length (types_in s (node_at s (Ok at))); on = condition-on }

    module _ {tree : Tree} {end : ℕ}
        (took : (variables : ℕ) → WentOn (expression_at variables s (Ok condition)).next → TookTree tree end (expression_at variables s (Ok condition))) where
      pub condition-end : Ok end ≡ (expression_at (length (types_in s (node_at s (Ok at)))) s (node_at s (Ok at)).condition).next
      condition-end = (took (length (types_in s (node_at s (Ok at)))) condition-on).place ∙ rw condition-there

      pub node_made : {addresses : ℕ} → addresses ≡ little s end 2
          → reading_of (record { front = front; condition = condition; addresses = addresses; sites = end + 2; end = end + 2 + 8 * addresses }) ≡ node_at s (Ok at)
      node_made is =
          node-path (ap (λ (f : NodeFront). f.variables) front-is) types-there (ap (λ (f : NodeFront). f.statements) front-is) body-there
          condition-there
          (is ∙ addresses_are s at on condition-end)
          (sites-there s at on condition-end)
          (rw is (addresses-last s end (addresses-on-end s at on condition-end) ∙ node-end s at on condition-end))

-- the types of a node that was read whole stand inside the sheet
pub types-inside : (s : List ℕ) (at : ℕ) {front : NodeFront} → IsOk (node_at s (Ok at)).next → front ≡ front_of (node_at s (Ok at))
    → front.types + front.variables ≤ length s
types-inside s at read front-is = rw front-is (whole-node s (Ok at) (went-on (node_at s (Ok at)).next read).1).inside
