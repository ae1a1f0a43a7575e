use Rattle.std.proofs.Common.{Ok}
use Rattle.verdict_sheet.specs.Kept.{slots_of, Reached}
use Rattle.verdict_sheet.specs.Said.{blocks_say, judged_up_to}
use Rattle.sheet.specs.Sheet.{sheet_at}
use lib.ListN.{length}
use mathlib.Core.Path.{◌≡◌}
use Prim.Native.Nat.{ℕ}
use Rattle.verdict_sheet.proofs.judge_nodes.Given as goal

abbrev pub invariant-loop-node : goal.invariant-loop-node
invariant-loop-node l = let s = l.index.code.bytes.now in
    (length l.slots ≡ length l.initial.slots)
    × ((blocks : ℕ) → l.initial.slots ≡ slots_of (sheet_at s).instructions.list (blocks_say s blocks)
    → Reached (sheet_at s).instructions.list (Ok tt) l.slots (judged_up_to s blocks l.node-index))
