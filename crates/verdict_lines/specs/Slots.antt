-- Slots, one for each instruction, and bytes put into a list at an offset.
use Rattle.std.specs.Prelude.{ℕ, zero, suc, ◌+◌, ◌*◌, ◌/◌, ◌%◌, ◌≤◌, ◌≡◌, List, [], ◌∷◌, ◌++◌, length, get_or, set, take, drop}
use Rattle.verdict.specs.declared.Verdict.{Verdict}
use Rattle.verdict.specs.declared.Verdict.TheVariants.{Always, Never, Undecided, NoBranch}
use Rattle.verdict.specs.Numbers.{reason_number}
use Rattle.sheet.specs.Index.{over}
use Rattle.verdict_lines.specs.Lines.{Line}

-- what a slot holds: 0 where nothing is decided, else twice the reason's number, and one more for always
abbrev pub slot_of : Verdict → ℕ
slot_of (Always r) = 2 * reason_number r + 1
slot_of (Never r) = 2 * reason_number r
slot_of Undecided = 0
slot_of NoBranch = 0

-- the first of two slots, where something is decided there, or else the second
abbrev pub kept_slot : ℕ → ℕ → ℕ
kept_slot zero later = later
kept_slot (suc first) later = suc first

-- slots with a verdict kept at a number
abbrev pub kept : List ℕ → ℕ → Verdict → List ℕ
kept slots number v = set slots number (kept_slot (get_or slots number 0) (slot_of v))

-- the line that a slot holds of a branch
abbrev pub slot_line : ℕ → ℕ → ℕ → List Line
slot_line site target zero = []
slot_line site target (suc x) = record { site = site; target = target; value = suc x % 2; reason = suc x / 2 } ∷ []

-- the lines that slots hold
unfoldable pub lines_in : List ℕ → List ℕ → List ℕ → List Line
lines_in [] targets slots = []
lines_in (site ∷ sites) [] slots = []
lines_in (site ∷ sites) (target ∷ targets) [] = []
lines_in (site ∷ sites) (target ∷ targets) (x ∷ slots) = slot_line site target x ++ lines_in sites targets slots

-- how many lines a slot holds
abbrev pub decided_of : ℕ → ℕ
decided_of zero = 0
decided_of (suc x) = 1

-- how many lines slots hold
unfoldable pub decided_in : List ℕ → ℕ
decided_in [] = 0
decided_in (x ∷ slots) = decided_of x + decided_in slots

-- bytes put into a list from an offset on
unfoldable pub put_at : ℕ → List ℕ → List ℕ → List ℕ
put_at at bytes list = take at list ++ over bytes (drop at list)

-- a site and a target for each slot, and a list that can hold the lines
pub record RoomFor (sites targets slots list : List ℕ) : Type 0 where
  pub each_site : length sites ≡ length slots
  pub each_target : length targets ≡ length slots
  pub room : 18 * decided_in slots ≤ length list
