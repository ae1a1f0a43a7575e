-- What the contracts give of a block's instructions.
use Rattle.std.specs.Prelude.{ℕ, ◌≤◌, ◌≡◌, List, length}
use Rattle.std.proofs.Math.Seq.{slice}
use Rattle.sheet.specs.Sheet.{sheet_at}
use Rattle.verdict_block.specs.declared.Range.{Range}
use Rattle.verdict_block.specs.Verdict.{code_of}

-- a range has the instructions of the block of that number, and ends within the sheet's
pub record RangeOf (s : List ℕ) (number : ℕ) (range : Range) : Type 0 where
  pub code : code_of s number ≡ slice range.first range.end (sheet_at s).instructions.list
  pub within : range.end ≤ length (sheet_at s).instructions.list
