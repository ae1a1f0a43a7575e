-- What the contracts of a node verdict's parts ask and give.
use Rattle.std.specs.Prelude.{ℕ, ◌*◌, ◌≡◌, List, length, take, drop, Result, Ok, Err, IfOk}
use Rattle.sheet_field.specs.Field.{start_of}
use Rattle.refusal.specs.declared.Refusal.{Refusal}
use Rattle.sheet_node.specs.Node.{NodeReading, node_of}
use Rattle.verdict.specs.Numbers.{Answer}
use Rattle.verdict_node.specs.declared.JudgedNode.{JudgedNode}
use Rattle.verdict_node.specs.NodeVerdict.{node_verdict}

-- the answer in what is given for a node
abbrev pub answer_in : Result JudgedNode Refusal → Answer
answer_in (Ok j) = Ok j.verdict
answer_in (Err r) = Err r

-- what is given for a node whose record starts at an offset: its answer and, with a verdict, the bytes of its addresses, 8 for each, and
-- the offset of the first
pub record JudgedIs (r : Result JudgedNode Refusal) (s : List ℕ) (node : NodeReading) (place : ℕ) : Type 0 where
  pub answer : answer_in r ≡ node_verdict (node_of s node) place
  pub addresses : IfOk r (λ j. j.addresses.now ≡ take (8 * node.addresses) (drop (start_of node.sites) s))
  pub count : IfOk r (λ j. length j.addresses.now ≡ 8 * node.addresses)
  pub sites : IfOk r (λ j. j.sites ≡ start_of node.sites)
