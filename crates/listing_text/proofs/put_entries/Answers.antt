use native.Mathlib.Omega.{arith}
use Rattle.listing_text.proofs.Lines.{entries_start, entries_next}
use Rattle.listing_text.proofs.put_entries.Goals as goal

pub loop-i-init : goal.loop-i-init
loop-i-init c =
    entries_start _ _ _ (omega arith) c.requires.lines_in_bounds

pub loop-i-preserved : goal.loop-i-preserved
loop-i-preserved c =
    entries_next c.loop-i.invariant c.loop-i-test.true c.put_entry.ensures.put c.put_entry.ensures.upper_bound
