-- Lines of the listing.
use Rattle.std.specs.Prelude.{ℕ, List, [], ◌∷◌, ◌++◌, unwrap_or}
use Rattle.isa.specs.declared.Instruction.{Instruction}
use Rattle.verdict.specs.declared.Verdict.{Verdict}
use Rattle.verdict.specs.declared.Verdict.TheVariants.{Always, Never, Undecided, NoBranch}
use Rattle.verdict.specs.Numbers.{reason_number}
use Rattle.sheet_bytes.specs.Write.{bytes}

-- A line: a branch's address, its target, 1 for always or 0 for never, and the reason's number.
pub record Line : Type 0 where
  pub site : ℕ
  pub target : ℕ
  pub value : ℕ
  pub reason : ℕ

-- A branch has a line where it is decided (L1, L2).
abbrev pub line_of : Instruction → Verdict → List Line
line_of i (Always r) = record { site = i.address; target = unwrap_or i.target 0; value = 1; reason = reason_number r } ∷ []
line_of i (Never r) = record { site = i.address; target = unwrap_or i.target 0; value = 0; reason = reason_number r } ∷ []
line_of i Undecided = []
line_of i NoBranch = []

-- A line's 18 bytes: 8 of the site, 8 of the target, then the value and the reason (L1).
unfoldable pub line_bytes : Line → List ℕ
line_bytes l = bytes 8 l.site ++ (bytes 8 l.target ++ (l.value ∷ (l.reason ∷ [])))
