-- The cases of the node verdict, over plain values.
use Prim.Native.Nat.{ℕ}
use mathlib.Core.Path.{◌≡◌, refl, sym, ap}
use mathlib.Core.List.{List}
use Rattle.std.specs.Prelude.{Ok, Err}
use Rattle.refusal.specs.declared.Refusal.{Refusal}
use Rattle.sheet_field.specs.Field.{Place}
use Rattle.sheet_node.specs.Node.{node_at, node_of}
use Rattle.sheet.specs.Sheet.{Reading, reading_of, node_numbered}
use Rattle.sheet.specs.Promises.{found_on}
use Rattle.sheet.proofs.Found.{found-node, by_place, found-on}
use Rattle.verdict.specs.Numbers.{Answer, answer_numbers}
use Rattle.verdict_node.specs.NodeVerdict.{node_verdict}
use Rattle.answer_node.specs.Node.{on_node, node_answer}

-- a refusal as an answer
abbrev refused_by : Refusal → Answer
refused_by r = Err r

module _ (s : List ℕ) (number : ℕ) {p : Place} (found : p ≡ found_on (reading_of s) s number) where
  answer-by : node_answer s number ≡ answer_numbers (by_place (node_verdict (node_numbered s number)) refused_by p)
  unfolding node_answer by_place
  answer-by = rw found (ap answer_numbers (by (reading_of s)))
    where
      by : (r : Reading) → on_node r s number ≡ by_place (node_verdict (node_numbered s number)) refused_by (found_on r s number)
      by (Err r) = refl
      by (Ok sheet) = sym (found-on (node_verdict (node_numbered s number)) refused_by s number sheet)

  pub node-refused : {r : Refusal} → p ≡ Err r → answer_numbers (Err r) ≡ node_answer s number
  unfolding by_place
  node-refused is = sym (rw is at answer-by)

  pub node-judged : {at : ℕ} {a : Answer} → p ≡ Ok at → a ≡ node_verdict (node_of s (node_at s (Ok at))) at → answer_numbers a ≡ node_answer s number
  unfolding by_place
  node-judged is a-is = rw (a-is, found-node s number found is) (sym (rw is at answer-by))
