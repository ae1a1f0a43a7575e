use Rattle.verdict_lines.specs.Slots.{decided_in, lines_in, put_at}
use lib.ListN.{length, drop}
use Rattle.verdict_lines.specs.Lines.{line_bytes}
use Rattle.sheet.specs.Sheet.{sheet_at}
use Rattle.sheet.specs.Index.{over, targets_of}
use Rattle.sheet_bytes.specs.Write.{records}
use mathlib.Core.Path.{◌≡◌}
use Prim.Native.Nat.{◌+◌, ◌*◌, ◌≤◌}
use Rattle.verdict_lines.proofs.write.Given as goal

abbrev pub invariant-loop-i : goal.invariant-loop-i
invariant-loop-i l = let targets = targets_of (sheet_at l.code.bytes.now).instructions.list in
    let sites = l.sites in
    (put_at l.at (records line_bytes (lines_in (drop l.i sites) (drop l.i targets) (drop l.i l.slots))) l.list ≡ over (records line_bytes (lines_in sites targets l.slots)) l.initial.list)
    × ((l.at + 18 * decided_in (drop l.i l.slots) ≤ length l.list) × (length l.list ≡ length l.initial.list))
