-- Runs: of a block, and of a block or node alike; and when a branch is forced.
use Rattle.std.specs.Prelude.{true, false, Option, Some, None, ℕ, zero, suc, ◌≡◌, List, Bool, cond}
use Rattle.isa.specs.declared.Mnemonic.{Mnemonic}
use Rattle.isa.specs.declared.Instruction.{Instruction}
use Rattle.concrete.specs.Concrete.{Processor, Choice, executed_all, outcome}
use Rattle.concrete.specs.Agreement.{Agrees}
use Rattle.machine.specs.declared.State.{State}
use Rattle.machine.specs.Registers.{nothing_known}
use Rattle.machine.specs.Rules.{stepped_all}
use Rattle.verdict.specs.Numbers.{Numbers}
use Rattle.sheet.specs.Sheet.{node_numbered}
use Rattle.value.specs.Run.{Choices, run}
use Rattle.answer_block.specs.Block.{block_answer}
use Rattle.answer_node.specs.Node.{node_answer}
use Rattle.answer_evaluation.specs.Evaluation.{Evaluated}
use Rattle.answer_evaluation.specs.Evaluation.Evaluated.{outcome as evaluated, refused}
use Rattle.theorems.specs.Branches.{EndsIn}

-- A run of the block of a number, which has an outcome where the block ends in a conditional branch: from a start state the instructions before that
-- in order, each with what it takes from outside. The outcome tells whether the branch jumps: by the manual, or, where its mnemonic is no jump's, as
-- is chosen (M24, M29).
pub record BlockRun (s : List ℕ) (number : ℕ) (went : Bool) : Type 0 where
  pub before : List Instruction
  pub last : Instruction
  pub ends : EndsIn s number before last
  pub start : Processor
  pub free : ℕ → Choice
  pub chosen : Bool
  pub jumps : outcome last.mnemonic (executed_all start before free) chosen ≡ went

-- the run of the node of that number
abbrev pub node_run : List ℕ → ℕ → Choices → Option Bool
node_run s number c = run (node_numbered s number).types (node_numbered s number).statements (node_numbered s number).condition c

-- What an answer says of a run's outcome: 1 that the condition holds, 0 that it does not, 14 that there is none; other refusals say nothing.
abbrev pub SaysOf : Evaluated → Option Bool → Type 0
SaysOf (evaluated zero) t = t ≡ Some false
SaysOf (evaluated (suc value)) t = t ≡ Some true
SaysOf (refused number place) t = number ≡ 14 → t ≡ None

-- an answer that comes from the node's run: an outcome, or 14
abbrev pub AnswerFromRun : Evaluated → Type 0
AnswerFromRun (evaluated value) = Unit {0}
AnswerFromRun (refused number place) = number ≡ 14

-- What a verdict is about, and a line comes from: a block or a node of a sheet, by its number from 0.
pub data Source : Type 0 where
  block node : (number : ℕ) → Source

-- The answer for it: what the block verdict, or the node verdict, yields (D7).
abbrev pub answer_for : List ℕ → Source → Numbers
answer_for s (block number) = block_answer s number
answer_for s (node number) = node_answer s number

-- Some run of it has an outcome, and this one: the branch jumps, or the condition holds, or not (M24, M29, N20, N23, S34).
abbrev pub Ends : List ℕ → Source → Bool → Type 0
Ends s (block number) went = BlockRun s number went
Ends s (node number) went = (c : Choices) × (node_run s number c ≡ cond went (Some true) (Some false))

-- Forced (a term of the scope document) one way: the branch jumps, or does not, in every concrete state that agrees with
-- what is known, whatever is unknown (M21).
abbrev pub Forced : State → Mnemonic → Bool → Type 0
Forced known mnemonic b = (q : Processor) (free : Bool) → Agrees known q → outcome mnemonic q free ≡ b

-- The block of that number ends in a conditional branch, and what the rules of the machine yield from the instructions before it, where nothing is known
-- at the start, forces it one way (M4, M21, M23).
pub record ForcedEnd (s : List ℕ) (number : ℕ) (b : Bool) : Type 0 where
  pub before : List Instruction
  pub last : Instruction
  pub ends : EndsIn s number before last
  pub forces : Forced (stepped_all nothing_known before) last.mnemonic b
