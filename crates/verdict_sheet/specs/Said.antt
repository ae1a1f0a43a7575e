-- What the records of an accepted sheet say of its branches, and the lines due.
use Rattle.std.specs.Prelude.{ℕ, zero, suc, List, [], ◌∷◌, ◌++◌, cond, eqb, Option, None, Some, Result, Ok, Err}
use Rattle.refusal.specs.declared.Refusal.{Refusal}
use Rattle.isa.specs.declared.Instruction.{Instruction}
use Rattle.verdict.specs.declared.Verdict.{Verdict}
use Rattle.verdict.specs.declared.Verdict.TheVariants.{Always, Never, Undecided, NoBranch}
use Rattle.verdict.specs.Numbers.{Answer}
use Rattle.sheet.specs.Sheet.{node_numbered, node_place}
use Rattle.verdict_block.specs.Verdict.{verdict_on}
use Rattle.verdict_node.specs.NodeVerdict.{node_verdict}
use Rattle.verdict_lines.specs.Lines.{Line, line_of}
use Rattle.verdict_sheet.specs.Sites.{node_site, block_site}

-- a verdict on the branch at an address
pub record Said : Type 0 where
  pub site : ℕ
  pub verdict : Verdict

-- A record says its verdict of its branch; a record without a branch says nothing (S34, S35).
abbrev pub saying : Option ℕ → Verdict → List Said
saying None verdict = []
saying (Some site) verdict = record { site = site; verdict = verdict } ∷ []

-- what the first k blocks say, in their order
unfoldable pub blocks_say : List ℕ → ℕ → List Said
blocks_say s zero = []
blocks_say s (suc k) = blocks_say s k ++ saying (block_site s k) (verdict_on s k)

-- what the records say, or the refusal of the first node that has one
abbrev pub Judged : Type 0
Judged = Result (List Said) Refusal

-- One node more, where none before it was refused. A node without a jump is judged too (L8, S35).
abbrev pub node_too : Judged → Option ℕ → Answer → Judged
node_too (Ok said) site (Ok verdict) = Ok (said ++ saying site verdict)
node_too (Ok said) site (Err r) = Err r
node_too (Err r) site a = Err r

-- What the first `blocks` blocks and then the first `nodes` nodes say: blocks before nodes, earlier records before later ones (L4, L8).
unfoldable pub judged_up_to : List ℕ → ℕ → ℕ → Judged
judged_up_to s blocks zero = Ok (blocks_say s blocks)
judged_up_to s blocks (suc k) = node_too (judged_up_to s blocks k) (node_site s k) (node_verdict (node_numbered s k) (node_place s k))

-- a verdict, where it is decided, or else a later one
abbrev pub or_later : Verdict → Verdict → Verdict
or_later (Always r) later = Always r
or_later (Never r) later = Never r
or_later Undecided later = later
or_later NoBranch later = later

-- The first decided verdict on the branch at an address (L4).
unfoldable pub first_decided : ℕ → List Said → Verdict
first_decided site [] = Undecided
first_decided site (x ∷ said) = cond (eqb x.site site) (or_later x.verdict (first_decided site said)) (first_decided site said)

-- The lines due, at most one for each instruction, in the instructions' order, in which addresses rise (L3, L4, L5).
unfoldable pub lines_of : List Instruction → List Said → List Line
lines_of [] said = []
lines_of (i ∷ code) said = line_of i (first_decided i.address said) ++ lines_of code said
