-- The lines of a listing: which are due, how they stand in the list, and when there is none.
use Rattle.std.specs.Prelude.{ℕ, ◌+◌, ◌*◌, ◌≤◌, ◌<◌, ◌≡◌, Bool, cond, List, length, get_or, Ok, Err}
use Rattle.refusal.specs.Numbers.{number_of}
use Rattle.refusal.specs.declared.Refusal.{Refusal}
use Rattle.isa.specs.declared.Instruction.{Instruction}
use Rattle.sheet_field.specs.Field.{little}
use Rattle.sheet.specs.declared.Sheet.{Sheet}
use Rattle.sheet.specs.Sheet.{reading_of}
use Rattle.verdict.specs.Numbers.Numbers.{decision, refused}
use Rattle.verdict_lines.specs.Lines.{Line}
use Rattle.answer_node.specs.Node.{node_answer}
use Rattle.theorems.specs.Branches.{EndsIn, Branch, JumpAt}
use Rattle.theorems.specs.Runs.{Source, answer_for, Ends}
use Rattle.theorems.specs.Runs.Source.{block, node}

-- The branch that a block or a node is about, by its address: the conditional branch that a block ends in, the jump of a node (M22, S33).
abbrev pub About : List ℕ → Source → ℕ → Type 0
About s (block number) site = (before : List Instruction) × (last : Instruction) × EndsIn s number before last × (last.address ≡ site)
About s (node number) site = JumpAt s number site

-- Blocks come before nodes, and earlier records before later ones (L4).
abbrev pub Before : Source → Source → Type 0
Before (block a) (block b) = a < b
Before (block a) (node b) = Unit {0}
Before (node a) (block b) = ⊥
Before (node a) (node b) = a < b

-- A line is due: some block or node decides the branch at its site, with the line's value and reason, and none before it decides that branch; the
-- target is that branch's (L4, L5, D7).
pub record Due (s : List ℕ) (l : Line) : Type 0 where
  pub from : Source
  pub answer : answer_for s from ≡ decision l.value l.reason
  pub site : About s from l.site
  pub target : Branch s l.site l.target
  pub first : (other : Source) → Before other from → About s other l.site → (value reason : ℕ) → answer_for s other ≡ decision value reason → ⊥

-- Lines, by number from 0, that are all lines due and no other; they rise by site, so that no site has two (L3, L4, L5).
pub record AllDue (s : List ℕ) (count : ℕ) (line : ℕ → Line) : Type 0 where
  pub due : (k : ℕ) → k < count → Due s (line k)
  pub every : (l : Line) → Due s l → (k : ℕ) × (k < count) × (line k ≡ l)
  pub rising : (j k : ℕ) → j < k → k < count → (line j).site < (line k).site

-- The line of number k in a list, as a host reads it: 18 bytes from 18 × k on, of the site 8, of the target 8, the verdict and the reason (L1).
abbrev pub line_at : List ℕ → ℕ → Line
line_at list k = record {
  site = little list (18 * k) 8;
  target = little list (18 * k + 8) 8;
  value = get_or list (18 * k + 16) 0;
  reason = get_or list (18 * k + 17) 0;
}

-- A list, as it was borrowed and as it is after so many lines were written to it: all lines due are its prefix, and what is beyond them stays
-- (L5, L6).
pub record Listed (s : List ℕ) (count : ℕ) (before after : List ℕ) : Type 0 where
  pub lines : AllDue s count (line_at after)
  pub room : 18 * count ≤ length before
  pub long : length after ≡ length before
  pub beyond : (i : ℕ) → 18 * count ≤ i → get_or after i 0 ≡ get_or before i 0

-- reading accepts the bytes, and the first k nodes are not refused
pub record Judged (s : List ℕ) (sheet : Sheet) (k : ℕ) : Type 0 where
  pub read : reading_of s ≡ Ok sheet
  pub nodes : (j : ℕ) → j < k → (number place : ℕ) → node_answer s j ≡ refused number place → ⊥

-- Why a listing is refused: reading refuses; or a node is refused, the first that is gives number and offset; or no node is, and the list is too
-- short for the lines due, which is 12 at the sheet's length (R5, L8, L9).
pub data Refuses (s list : List ℕ) : ℕ → ℕ → Type 0 where
  by_reading : (r : Refusal) → reading_of s ≡ Err r → Refuses s list (number_of r.fault) r.at
  by_node : (sheet : Sheet) (k number place : ℕ) → Judged s sheet k → k < sheet.nodes.count → node_answer s k ≡ refused number place
      → Refuses s list number place
  no_room : (sheet : Sheet) → Judged s sheet sheet.nodes.count → (count : ℕ) (line : ℕ → Line) → AllDue s count line → length list < 18 * count
      → Refuses s list 12 (length s)

-- A line is true of every run of the block or node that it comes from: the answer for that is the line's, its branch is at the line's site, and a run of it that has an outcome
-- jumps, or its condition holds, where the line says always, which is 1, and does not where it says never, 0 (L7, D8).
pub record TrueOf (s : List ℕ) (l : Line) : Type 0 where
  pub from : Source
  pub answer : answer_for s from ≡ decision l.value l.reason
  pub site : About s from l.site
  pub target : Branch s l.site l.target
  pub runs : (went : Bool) → Ends s from went → l.value ≡ cond went 1 0
