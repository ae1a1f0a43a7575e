-- The answer for a node that is not refused, by the relation that says what its substituted condition is decided to be.
use Prim.Native.Nat.{ℕ}
use mathlib.Core.Path.{◌≡◌, refl, sym, ap, ◌∙◌}
use mathlib.Core.Bool.{Bool, true, false, cond}
use mathlib.Core.List.{List}
use mathlib.Core.Logic.{◌↔◌}
use lib.Dec.{ltb}
use Rattle.std.specs.Prelude.{Ok, Err}
use Rattle.refusal.specs.Numbers.{number_of, refused as refusal}
use Rattle.refusal.specs.declared.Fault.TheVariants.{Terms, Number}
use Rattle.expr.specs.Tree.{Expr}
use Rattle.substitution.specs.Substitution.{into, with_assignments}
use Rattle.decide.specs.Decide.{decide, fits}
use Rattle.decide.specs.Decided.{Decided}
use Rattle.decide.proofs.Reasons.{reasons, undecided-where}
use Rattle.verdict.specs.Numbers.{verdict_numbers, answer_numbers}
use Rattle.verdict.specs.Numbers.Numbers.{decision, undecided, refused}
use Rattle.verdict_node.specs.NodeVerdict.{on_substituted, node_verdict}
use Rattle.sheet.specs.Sheet.{reading_of, node_numbered, node_place, Reading}
use Rattle.answer_node.specs.Node.{on_node, node_answer}

-- the node's condition, after substitution
abbrev Condition : List ℕ → ℕ → Expr → Type 0
Condition s number e = with_assignments (node_numbered s number).statements (node_numbered s number).condition ≡ into e

-- the node is not refused
abbrev Answered : List ℕ → ℕ → Type 0
Answered s number = (k at : ℕ) → node_answer s number ≡ refused k at → ⊥

module _ (s : List ℕ) (number : ℕ) (e : Expr) (is : Condition s number e) (given : Answered s number) where
  -- the answer is the verdict on the substituted condition
  answer-is : node_answer s number ≡ verdict_numbers (decide e)
  unfolding node_answer node_verdict
  answer-is = go (reading_of s) given
    where
      verdict : node_verdict (node_numbered s number) (node_place s number) ≡ cond (fits e) (Ok (decide e)) (Err (refusal Terms (node_place s number)))
      verdict = ap (on_substituted (node_place s number)) is

      on : (t : Bool) → ((k at : ℕ) → answer_numbers (cond t (Ok (decide e)) (Err (refusal Terms (node_place s number)))) ≡ refused k at → ⊥)
          → answer_numbers (cond t (Ok (decide e)) (Err (refusal Terms (node_place s number)))) ≡ verdict_numbers (decide e)
      on true n = refl
      on false n = absurd (n 11 (node_place s number) refl)

      there : (t : Bool) → ((k at : ℕ) → answer_numbers (cond t (node_verdict (node_numbered s number) (node_place s number)) (Err (refusal Number 0))) ≡ refused k at → ⊥)
          → answer_numbers (cond t (node_verdict (node_numbered s number) (node_place s number)) (Err (refusal Number 0))) ≡ verdict_numbers (decide e)
      there true n = ap answer_numbers verdict ∙ on (fits e) (λ k at x. n k at (ap answer_numbers verdict ∙ x))
      there false n = absurd (n 13 0 refl)

      go : (r : Reading) → ((k at : ℕ) → answer_numbers (on_node r s number) ≡ refused k at → ⊥) → answer_numbers (on_node r s number) ≡ verdict_numbers (decide e)
      go (Err r) n = absurd (n (number_of r.fault) r.at refl)
      go (Ok sheet) n = there (ltb number sheet.nodes.count) n

  pub node-decided-as : (value reason : ℕ) → (node_answer s number ≡ decision value reason) ↔ Decided e value reason
  node-decided-as value reason =
      ((λ h. (reasons e value reason).0 (sym answer-is ∙ h)), (λ d. answer-is ∙ (reasons e value reason).1 d))

  pub node-undecided-where : (node_answer s number ≡ undecided) ↔ ((value reason : ℕ) → Decided e value reason → ⊥)
  node-undecided-where = ((λ h. (undecided-where e).0 (sym answer-is ∙ h)), (λ n. answer-is ∙ (undecided-where e).1 n))
