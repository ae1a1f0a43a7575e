-- Where reading goes on after a statement or a node, it went on before it.
use Prim.Native.Nat.{ℕ, suc, ◌+◌, ◌≤◌, ◌<◌}
use mathlib.Core.Path.{◌≡◌, refl, sym, ap, ◌∙◌}
use mathlib.Core.List.{List, [], ◌∷◌, ◌++◌}
use native.Mathlib.Omega.{arith}
use mathlib.Core.Bool.{Bool, true, false, false≢true}
use lib.Dec.{eqb}
use lib.ListN.{length, get_or, take, drop, length-drop}
use lib.Seq.{length-take-le}
use Rattle.expr.specs.Tree.{Wf}
use Rattle.expr.specs.Statement.{Statement}
use Rattle.std.specs.Prelude.{Ok}
use Rattle.refusal.specs.declared.Fault.TheVariants.{Code, Typing}
use Rattle.sheet_field.specs.Field.{Place, field_at, start_of, code_at, count_at, WentOn}
use Rattle.sheet_field.proofs.Fields.{judge-at, check-at, field-at, code-at, count_most, count-on}
use Rattle.sheet_expression.specs.Expression.{expression_at}
use Rattle.sheet_expression.proofs.Accepted.{one-tree}
use Rattle.sheet_field.proofs.Counted.{back, counted, nth}
use Rattle.sheet_node.proofs.Nodes.{types-keep, statements-keep, addresses-keep, types-inside}
use Rattle.sheet_node.specs.Node.{NodeReading, map_at, assignment_at, statement_at, statement_of, statements_from, types_from, types_of, addresses_from, node_at, types_in}
use Rattle.sheet_node.specs.Promises.{ReadNode, addresses_end}

map_on : (s : List ℕ) (p : Place) {a : ℕ} → (map_at s p).next ≡ Ok a → WentOn p
unfolding map_at
map_on s p e = let w = field-at 1 s p (check-at _ Code (start_of p) (field_at 1 s p) e).1 in (w.from, w.there)

pub assignment-on : (types : List ℕ) (begin : ℕ) (s : List ℕ) (p : Place) {a : ℕ} → (assignment_at types begin s p).next ≡ Ok a → WentOn p
unfolding assignment_at
assignment-on types begin s p e =
    let value = one-tree (length types) s _ (judge-at _ Typing begin _ e).1 in
    let w = (code-at (length types) s p value.there).whole in
    (w.from, w.there)

pub statement-on : (types s : List ℕ) (p : Place) {a : ℕ} → (statement_at types s p).next ≡ Ok a → WentOn p
unfolding statement_at
statement-on types s p e = go (eqb (map_at s p).value 3) refl
  where
    go : (t : Bool) → eqb (map_at s p).value 3 ≡ t → WentOn p
    go true q = map_on s p (assignment-on types (start_of p) s (map_at s p).next (rw q at e)).1
    go false q = map_on s p (rw q at e)

pub statements-on : (types s : List ℕ) (p : Place) (k : ℕ) {a : ℕ} → (statements_from types s p k).next ≡ Ok a → WentOn p
unfolding statements_from
statements-on types s p k e = back (λ j. (statements_from types s p j).next) (statements-keep types s p) k 0 e (omega arith)

pub types-on : (s : List ℕ) (p : Place) (k : ℕ) {a : ℕ} → types_from s p k ≡ Ok a → WentOn p
unfolding types_from
types-on s p k e = back (λ j. types_from s p j) (types-keep s p) k 0 e (omega arith)

pub addresses-on : (s : List ℕ) (p : Place) (k : ℕ) {a : ℕ} → (addresses_from s p k).next ≡ Ok a → WentOn p
unfolding addresses_from
addresses-on s p k e = back (λ j. (addresses_from s p j).next) (addresses-keep s p) k 0 e (omega arith)

-- statements that were read whole were so one by one
pub statements-back : (types s : List ℕ) (p : Place) (k j : ℕ) {a : ℕ} → (statements_from types s p k).next ≡ Ok a → j ≤ k
    → WentOn (statements_from types s p j).next
statements-back types s p = back (λ j. (statements_from types s p j).next) (statements-keep types s p)

module _ (types s : List ℕ) (p : Place) where
  statement-nth : ℕ → Statement
  statement-nth j = statement_of (statement_at types s (statements_from types s p j).next)

  none : (statements_from types s p 0).list ≡ []
  unfolding statements_from
  none = refl

  more : (k : ℕ) → (statements_from types s p (suc k)).list ≡ (statements_from types s p k).list ++ (statement-nth k ∷ [])
  unfolding statements_from statement-nth
  more k = refl

  pub statements-length : (k : ℕ) → length (statements_from types s p k).list ≡ k
  statements-length = counted (λ j. (statements_from types s p j).list) statement-nth none more

  pub statements-nth : (k j : ℕ) (d : Statement) → j < k
      → get_or (statements_from types s p k).list j d ≡ statement_of (statement_at types s (statements_from types s p j).next)
  unfolding statement-nth
  statements-nth = nth (λ j. (statements_from types s p j).list) statement-nth none more

-- an assignment that was read whole has one tree of at most 128 records, and its variable is declared
pub record Assigned (types s : List ℕ) (p : Place) : Type 0 where
  pub tree : Wf (statement_at types s p).words
  pub short : length (statement_at types s p).words ≤ 256
  pub declared : (statement_at types s p).variable < length types

pub assigned : (types s : List ℕ) (p : Place) {a : ℕ} → (statement_at types s p).next ≡ Ok a → (statement_at types s p).assigned ≡ true
    → Assigned types s p
unfolding statement_at assignment_at
assigned types s p e there = go (eqb (map_at s p).value 3) refl
  where
    go : (t : Bool) → eqb (map_at s p).value 3 ≡ t → Assigned types s p
    go true q =
        let v = code_at (length types) s (map_at s p).next in
        let value = one-tree (length types) s v.next (judge-at _ Typing (start_of p) _ (rw q at e)).1 in
        let code = code-at (length types) s (map_at s p).next value.there in
        record { tree = rw q value.tree; short = rw q value.short; declared = rw q code.below }
    go false q = let z : false ≡ true = rw q at there in absurd (false≢true z)

-- what a node that was read whole holds, by its types
pub record Parts (s : List ℕ) (node : NodeReading) (types : List ℕ) : Type 0 where
  pub few : length types ≤ 32
  pub counted : node.variables ≡ length types
  pub inside : start_of node.types + node.variables ≤ length s
  pub start : WentOn node.body
  pub body : (statements_from types s node.body node.statements).next ≡ node.condition
  pub statements : WentOn (statements_from types s node.body node.statements).next
  pub condition : WentOn (expression_at (length types) s node.condition).next
  pub addresses : (count_at 0 16 s (expression_at (length types) s node.condition).next).value ≡ node.addresses
  pub sites : (count_at 0 16 s (expression_at (length types) s node.condition).next).next ≡ node.sites
  pub end : addresses_end s (expression_at (length types) s node.condition).next ≡ node.next

types-whole : {end : Place} {a : ℕ} (from n : ℕ) (s : List ℕ) → end ≡ Ok a → types_of end from n s ≡ take n (drop from s)
types-whole from n s e = rw e

pub whole-node : (s : List ℕ) (p : Place) {a : ℕ} → (node_at s p).next ≡ Ok a → Parts s (node_at s p) (types_in s (node_at s p))
unfolding node_at addresses_end
whole-node s p e =
    let v = count_at 0 32 s p in
    let types_end = types_from s v.next v.value in
    let types = types_of types_end (start_of v.next) v.value s in
    let k = count_at 0 64 s types_end in
    let condition = (statements_from types s k.next k.value).next in
    let condition_end = (expression_at (length types) s condition).next in
    let a = count_at 0 16 s condition_end in
    let sites = addresses-on s a.next a.value e in
    let judged = count-on 0 16 s condition_end sites.1 in
    let one = one-tree (length types) s condition judged.1 in
    let body = statements-on types s k.next k.value one.there in
    let counted = count-on 0 64 s types_end body.1 in
    let same : types ≡ take v.value (drop (start_of v.next) s) = types-whole {end = types_end} {a = counted.0} (start_of v.next) v.value s counted.1 in
    let room = types-inside s p {v = v} {end = types_end} {start = start_of v.next} refl refl refl counted.0 counted.1 in
    let size : length types ≡ v.value = rw same (length-take-le v.value (drop (start_of v.next) s) (rw length-drop (omega (arith, room)))) in
    rw (← same) record {
      few = omega (arith, size, count_most 0 32 s p);
      counted = sym size;
      inside = room;
      start = body;
      body = refl;
      statements = (one.from, one.there);
      condition = judged;
      addresses = refl;
      sites = refl;
      end = refl;
    }

pub parts : (s : List ℕ) (node : NodeReading) → ReadNode s node → Parts s node (types_in s node)
parts s node read = rw read.is (whole-node s read.at {a = read.on.0} (ap (λ (n : NodeReading). n.next) (sym read.is) ∙ read.on.1))

-- its types stand inside the sheet
pub read-inside : (s : List ℕ) (node : NodeReading) → ReadNode s node → start_of node.types + node.variables ≤ length s
read-inside s node r = (parts s node r).inside
