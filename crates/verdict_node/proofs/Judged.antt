-- The answer for a node that was read whole, from its substituted condition.
use Prim.Native.Nat.{ℕ, ◌+◌, ◌*◌, ◌≤◌}
use mathlib.Core.Path.{◌≡◌, refl, sym, ap, ◌∙◌}
use mathlib.Core.Bool.{Bool, true, false, cond}
use mathlib.Core.List.{List, []}
use native.Mathlib.Omega.{arith}
use lib.ListN.{length, take, drop, length-drop}
use lib.Seq.{length-take-le}
use Rattle.std.specs.Prelude.{Result, Ok, Err, IfOk, IsOk}
use Rattle.std.proofs.lemmas.Result.{IfOk-weaker}
use Rattle.refusal.specs.declared.Fault.TheVariants.{Records, Terms}
use Rattle.refusal.specs.declared.Refusal.{Refusal}
use Rattle.refusal.specs.Numbers.{refused}
use Rattle.sheet_field.specs.Field.{little, start_of, WentOn}
use Rattle.expr.specs.Tree.{Expr, tree_of}
use Rattle.sheet_expression.specs.Expression.{Taken, expression_at}
use Rattle.sheet_field.proofs.Fields.{went-on}
use Rattle.expr.specs.declared.Tree.{Tree}
use Rattle.sheet_expression.specs.Promises.{TookTree}
use Rattle.sheet_node.specs.declared.node.NodeFront.{NodeFront}
use Rattle.sheet_node.specs.Node.{StatementsRead, statements_from, node_at, types_in, node_of}
use Rattle.sheet_node.specs.Promises.{front_of, addresses_end}
use Rattle.sheet_node.proofs.Accepted.{Parts, whole-node}
use Rattle.sheet_node.proofs.Decoding.{body-there, addresses-inside, addresses-on-end, addresses_are, sites-there}
use Rattle.substitution.specs.Substitution.{into, too_long, with_assignments}
use Rattle.substitution.proofs.Nothing.{nothing-assigned}
use Rattle.decide.specs.Decide.{decide, fits}
use Rattle.verdict.specs.declared.Verdict.{Verdict}
use Rattle.verdict.specs.Numbers.{Answer}
use Rattle.verdict_node.specs.declared.JudgedNode.{JudgedNode}
use Rattle.verdict_node.specs.NodeVerdict.{on_substituted, node_verdict}
use Rattle.verdict_node.specs.Promises.{answer_in, JudgedIs}

-- the answer from the decision on a condition
module _ {E : Type 0} (place : ℕ) (e : Expr) {d : Result Verdict E} (t : E) (is : d ≡ cond (fits e) (Ok (decide e)) (Err t)) where
  pub decided_within : (v : Verdict) → d ≡ Ok v → ◌≡◌ {A = Answer} (Ok v) (on_substituted place (into e))
  decided_within v ok = by (fits e) (sym ok ∙ is)
    where
      by : (b : Bool) → Ok v ≡ cond b (Ok (decide e)) (Err t) → ◌≡◌ {A = Answer} (Ok v) (cond b (Ok (decide e)) (Err (refused Terms place)))
      by true q = cc
      by false q = cc

  pub decided_beyond : (x : E) → d ≡ Err x → ◌≡◌ {A = Answer} (Err (refused Terms place)) (on_substituted place (into e))
  decided_beyond x err = by (fits e) (sym err ∙ is)
    where
      by : (b : Bool) → Err x ≡ cond b (Ok (decide e)) (Err t) → ◌≡◌ {A = Answer} (Err (refused Terms place)) (cond b (Ok (decide e)) (Err (refused Terms place)))
      by true q = cc
      by false q = refl

pub variables_few : (s : List ℕ) (at : ℕ) {front : NodeFront} → IsOk (node_at s (Ok at)).next → front ≡ front_of (node_at s (Ok at)) → front.variables ≤ 32
variables_few s at {front} read front-is =
    let whole = whole-node s (Ok at) (went-on (node_at s (Ok at)).next read).1 in omega (arith, whole.few, whole.counted, ap (λ (f : NodeFront). f.variables) front-is)

-- for the start of a node that was read whole
module _ (s : List ℕ) (at : ℕ) (read : IsOk (node_at s (Ok at)).next) {front : NodeFront} (front-is : front ≡ front_of (node_at s (Ok at))) where
  on : WentOn (node_at s (Ok at)).next
  on = went-on (node_at s (Ok at)).next read

  whole : Parts s (node_at s (Ok at)) (types_in s (node_at s (Ok at)))
  whole = whole-node s (Ok at) on.1

  module _ {types : List ℕ} (these : types ≡ types_in s (node_at s (Ok at))) where
    pub types-few : {N : ℕ} → front.variables ≤ N → length types ≤ N
    types-few few = omega (arith, few, ap (λ (f : NodeFront). f.variables) front-is, whole.counted, ap length these)

    abbrev passed : StatementsRead
    passed = statements_from types s (Ok front.body) front.statements

    abbrev condition : Taken
    condition = expression_at (length types) s passed.next

    pub these-statements : WentOn passed.next
    these-statements = rw (these, body-there s at on front-is, front-is) whole.statements

    passed-next : passed.next ≡ (node_at s (Ok at)).condition
    passed-next = rw (these, body-there s at on front-is, front-is) whole.body

    pub this-condition : WentOn condition.next
    this-condition = rw (passed-next, these) whole.condition

    verdict-here : node_verdict (node_of s (node_at s (Ok at))) at ≡ on_substituted at (with_assignments passed.list (tree_of condition.words))
    unfolding node_verdict node_of
    verdict-here = rw (passed-next, these, body-there s at on front-is, front-is, ← whole.counted)

    -- refusal 10
    pub judged_long : with_assignments passed.list (tree_of condition.words) ≡ too_long → JudgedIs (Err (refused Records at)) s (node_at s (Ok at)) at
    judged_long much = record { answer = sym (verdict-here ∙ ap (on_substituted at) much); addresses = tt; count = tt; sites = tt }

    -- from the substituted condition, and the addresses after it
    module _ {end : ℕ} (end_is : Ok end ≡ condition.next) where
      there : Ok end ≡ (expression_at (length (types_in s (node_at s (Ok at)))) s (node_at s (Ok at)).condition).next
      there = end_is ∙ rw (passed-next, these)

      pub node-addresses : WentOn (addresses_end s (Ok end))
      node-addresses = addresses-on-end s at on there

      pub judged-into : {r : Result JudgedNode Refusal} (c : Expr) → with_assignments passed.list (tree_of condition.words) ≡ into c
          → answer_in r ≡ on_substituted at (into c) → IfOk r (λ j. j.addresses.now ≡ take (8 * little s end 2) (drop (end + 2) s)) → IfOk r (λ j. j.sites ≡ end + 2)
          → JudgedIs r s (node_at s (Ok at)) at
      judged-into {r} c made answer found first = record {
        answer = answer ∙ ap (on_substituted at) (sym made) ∙ sym verdict-here;
        addresses = IfOk-weaker r _ _ (λ j p. p ∙ rw (addresses_are s at on there, ← sites-there s at on there)) found;
        count =
            let inside = addresses-inside s end node-addresses in
            IfOk-weaker r _ _ (λ j p. ap length p ∙ length-take-le (8 * little s end 2) (drop (end + 2) s) (omega (arith, inside.0, inside.1, length-drop (end + 2) s)) ∙ ap (λ (n : ℕ). 8 * n) (addresses_are s at on there)) found;
        sites = IfOk-weaker r _ _ (λ j p. p ∙ ap start_of (sites-there s at on there)) first;
      }

-- a node without statements: its condition stands as it was read
module _ (s : List ℕ) (at : ℕ) (read : IsOk (node_at s (Ok at)).next) {front : NodeFront} (front-is : front ≡ front_of (node_at s (Ok at))) (none : front.statements ≡ 0) where
  passed_over : (passed s at read front-is refl).next ≡ Ok front.body
  unfolding statements_from
  passed_over = rw none

  -- the condition of the node, with nothing passed before it
  stands-there : expression_at front.variables s (Ok front.body) ≡ condition s at read front-is refl
  stands-there =
      let variables : front.variables ≡ length (types_in s (node_at s (Ok at))) = ap (λ (f : NodeFront). f.variables) front-is ∙ (whole s at read front-is).counted in
      ap (λ (v : ℕ). expression_at v s (Ok front.body)) variables ∙ ap (expression_at (length (types_in s (node_at s (Ok at)))) s) (sym passed_over)

  pub plain-on : WentOn (expression_at front.variables s (Ok front.body)).next
  plain-on = rw stands-there (this-condition s at read front-is refl)

  nothing-passed : (passed s at read front-is refl).list ≡ []
  unfolding statements_from
  nothing-passed = rw none

  -- as its reader gave it
  module _ {tree : Tree} {end : ℕ}
      (reader : (variables : ℕ) → WentOn (expression_at variables s (Ok front.body)).next → TookTree tree end (expression_at variables s (Ok front.body))) where
    took : TookTree tree end (expression_at front.variables s (Ok front.body))
    took = reader front.variables plain-on

    pub plain-short : length tree.words.now ≤ 256
    plain-short = rw took.words took.few

    end-there : Ok end ≡ (condition s at read front-is refl).next
    end-there = took.place ∙ ap (λ (t : Taken). t.next) stands-there

    pub plain-addresses : WentOn (addresses_end s (Ok end))
    plain-addresses = node-addresses s at read front-is refl end-there

    pub judged-plain : {r : Result JudgedNode Refusal} → answer_in r ≡ on_substituted at (into (tree_of tree.words.now))
        → IfOk r (λ j. j.addresses.now ≡ take (8 * little s end 2) (drop (end + 2) s)) → IfOk r (λ j. j.sites ≡ end + 2) → JudgedIs r s (node_at s (Ok at)) at
    judged-plain answer found first =
        judged-into s at read front-is refl end-there (tree_of tree.words.now)
        (rw (nothing-passed, ← stands-there, ← took.words) (nothing-assigned tree.words.now tree.wf plain-short))
        answer found first
