use mathlib.Core.Path.{◌≡◌}
use Rattle.verdict_sheet.specs.Kept.{slots_of}
use Rattle.verdict_sheet.specs.Said.{blocks_say}
use Rattle.sheet.specs.Sheet.{sheet_at}
use Rattle.verdict_sheet.proofs.judge_blocks.Given as goal

abbrev pub invariant-loop-i : goal.invariant-loop-i
invariant-loop-i l = l.slots ≡ slots_of (sheet_at l.index.code.bytes.now).instructions.list (blocks_say l.index.code.bytes.now l.i)
