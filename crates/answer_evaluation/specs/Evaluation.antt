-- The evaluation: its answers, in the scope document's numbers, from any bytes and any borrowed values.
use Rattle.std.specs.Prelude.{ℕ, List, true, false, cond, ltb, Ok, Err}
use Rattle.refusal.specs.declared.Fault.TheVariants.{Number}
use Rattle.refusal.specs.Numbers.{number_of}
use Rattle.sheet.specs.Sheet.{Reading, reading_of, node_numbered, node_place}
use Rattle.evaluate_node.specs.Evaluate.{Evaluation, evaluation_of}

-- An answer in numbers: 1 where the condition holds, 0 where it does not; a refusal has a number and an offset.
pub data Evaluated : Type 0 where
  outcome : (value : ℕ) → Evaluated
  refused : (number place : ℕ) → Evaluated

abbrev pub in_numbers : Evaluation → Evaluated
in_numbers (Ok true) = outcome 1
in_numbers (Ok false) = outcome 0
in_numbers (Err r) = refused (number_of r.fault) r.at

-- the evaluation of the node of that number
unfoldable pub evaluated_node : List ℕ → ℕ → List ℕ → Evaluation
evaluated_node s number values = evaluation_of (node_numbered s number) (node_place s number) values

-- Refusal 13, at offset 0, where there is no node of that number (E3).
abbrev pub node_on : Reading → List ℕ → ℕ → List ℕ → Evaluated
node_on (Err r) s number values = refused (number_of r.fault) r.at
node_on (Ok sheet) s number values =
    cond (ltb number sheet.nodes.count) (in_numbers (evaluated_node s number values)) (refused (number_of Number) 0)

-- The evaluation: reading's refusals first, then 13, then the node's own (R1, R5, E1, E8, D3).
unfoldable pub evaluation_answer : List ℕ → ℕ → List ℕ → Evaluated
evaluation_answer s number values = node_on (reading_of s) s number values
