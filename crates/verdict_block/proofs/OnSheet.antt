-- A block of an accepted sheet, found by the index.
use Prim.Native.Nat.{ℕ}
use mathlib.Core.Path.{◌≡◌}
use mathlib.Core.List.{List}
use lib.ListN.{length, get_or, length-map}
use lib.Seq.{slice}
use Rattle.std.specs.Prelude.{Ok}
use Rattle.machine.specs.Registers.{nothing_known}
use Rattle.search.specs.Ascending.{count_below}
use Rattle.search.proofs.Laws.{count-splits}
use Rattle.sheet.specs.declared.Block.{Block}
use Rattle.sheet.specs.declared.Sheet.{Sheet}
use Rattle.sheet.specs.Sheet.{no_block, sheet_at, reading_of}
use Rattle.sheet.specs.Index.{addresses_of}
use Rattle.sheet.proofs.ByNumber.{addresses-rise}
use Rattle.verdict.specs.declared.Verdict.{Verdict}
use Rattle.verdict_block.specs.declared.Range.{Range}
use Rattle.verdict_block.specs.Verdict.{code_of, verdict_at, end_from, end_on, verdict_on}
use Rattle.verdict_block.specs.Promises.{RangeOf}
use Rattle.verdict_block.proofs.Ranges.{range-is}

module _ (s : List ℕ) (sheet : Sheet) (read : reading_of s ≡ Ok sheet) where
  -- a block's instructions from the parts
  pub code_is : (number : ℕ) {addresses : List ℕ} {block : Block} {first end : ℕ}
      → addresses ≡ addresses_of (sheet_at s).instructions.list → block ≡ get_or (sheet_at s).blocks.list number no_block
      → first ≡ count_below addresses block.from → end ≡ count_below addresses block.to
      → code_of s number ≡ slice first end (sheet_at s).instructions.list
  unfolding code_of
  code_is number addresses-are block-is first-is to_is =
      rw (← block-is, range-is _ _ _ (addresses-rise s sheet read), ← addresses-are, ← first-is, ← to_is)

  -- where a range ends is within the instructions
  pub range-is-of : (number : ℕ) {addresses : List ℕ} {block : Block} {first end : ℕ}
      → addresses ≡ addresses_of (sheet_at s).instructions.list → block ≡ get_or (sheet_at s).blocks.list number no_block
      → first ≡ count_below addresses block.from → end ≡ count_below addresses block.to
      → RangeOf s number (record { first = first; end = end })
  unfolding addresses_of
  range-is-of number addresses-are block-is first-is to_is = record {
    code = code_is number addresses-are block-is first-is to_is;
    within =
        let same : length (addresses_of (sheet_at s).instructions.list) ≡ length (sheet_at s).instructions.list = rw length-map in
        rw (to_is, addresses-are, ← same) (count-splits _ (addresses-rise s sheet read) _).within;
  }

  -- the verdict on a block, at the end of its range
  pub verdict-is : (number : ℕ) {range : Range} {r : Verdict} → RangeOf s number range
      → r ≡ verdict_at (end_from nothing_known (slice range.first range.end (sheet_at s).instructions.list)) → r ≡ verdict_on s number
  unfolding verdict_on end_on
  verdict-is number of r-is = rw of.code r-is
