-- What the contracts here ask and give: a branch by the number of its instruction, the slots.
use Rattle.std.specs.Prelude.{ℕ, ◌-◌, ◌<◌, ◌≡◌, List, map, false, cond, ltb, length, get_or, Option, Some, None, Result, Ok, Err}
use Rattle.refusal.specs.declared.Refusal.{Refusal}
use Rattle.isa.specs.declared.Instruction.{Instruction}
use Rattle.verdict.specs.declared.Verdict.{Verdict}
use Rattle.sheet.specs.Index.{addresses_of, branches_of}
use Rattle.verdict_lines.specs.Slots.{slot_of, kept}
use Rattle.verdict_sheet.specs.Said.{Said, first_decided, Judged}

-- an index, where a conditional branch is there, or else another
abbrev pub if_branch : List Instruction → Option ℕ → Option ℕ → Option ℕ
if_branch code (Some k) otherwise = cond (get_or (branches_of code) k false) (Some k) otherwise
if_branch code None otherwise = otherwise

-- the number of the last instruction from number `first` up to `end`, where it is a conditional branch
abbrev pub branch_ending : List Instruction → ℕ → ℕ → Option ℕ
branch_ending code first end = cond (ltb first end) (if_branch code (Some (end - 1)) None) None

-- the instruction of that number is the one at that address
abbrev pub SiteIs : List Instruction → Option ℕ → Option ℕ → Type 0
SiteIs code (Some k) site = (k < length code) × (site ≡ Some (get_or (addresses_of code) k 0))
SiteIs code None site = site ≡ None

-- slots with a verdict kept at a number, if there is one
abbrev pub kept_at : List ℕ → Option ℕ → Verdict → List ℕ
kept_at slots (Some k) v = kept slots k v
kept_at slots None v = slots

-- that number has a slot
abbrev pub HasSlot : List ℕ → Option ℕ → Type 0
HasSlot slots (Some k) = k < length slots
HasSlot slots None = Unit {0}

-- the slots after some verdicts
unfoldable pub slots_of : List Instruction → List Said → List ℕ
slots_of code said = map (λ (i : Instruction). slot_of (first_decided i.address said)) code

-- what judging came to: the slots after all that was said, or the refusal
abbrev pub Reached : List Instruction → Result (Unit {0}) Refusal → List ℕ → Judged → Type 0
Reached code (Ok done) slots (Ok said) = slots ≡ slots_of code said
Reached code (Ok done) slots (Err q) = ⊥
Reached code (Err r) slots (Ok said) = ⊥
Reached code (Err r) slots (Err q) = r ≡ q
