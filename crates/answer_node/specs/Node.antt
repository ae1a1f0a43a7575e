-- The node verdict: its answers, in the scope document's numbers, from any bytes.
use Rattle.std.specs.Prelude.{ℕ, List, cond, ltb, Ok, Err}
use Rattle.refusal.specs.declared.Fault.TheVariants.{Number}
use Rattle.refusal.specs.Numbers.{refused}
use Rattle.verdict.specs.Numbers.{Numbers, Answer, answer_numbers}
use Rattle.sheet.specs.Sheet.{Reading, reading_of, node_numbered, node_place}
use Rattle.verdict_node.specs.NodeVerdict.{node_verdict}

-- Reading's refusals first; 13, at offset 0, where there is no node of that number; else the answer for that node (R1, R5, N25).
abbrev pub on_node : Reading → List ℕ → ℕ → Answer
on_node (Err r) s number = Err r
on_node (Ok sheet) s number =
    cond (ltb number sheet.nodes.count) (node_verdict (node_numbered s number) (node_place s number)) (Err (refused Number 0))

-- The answer in numbers (D3, D7).
unfoldable pub node_answer : List ℕ → ℕ → Numbers
node_answer s number = answer_numbers (on_node (reading_of s) s number)
