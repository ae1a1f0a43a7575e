use Rattle.substitution.proofs.Entries.{clear_more, clear_end}
use lib.ListN.{length-set}
use native.Mathlib.Omega.{arith}
use mathlib.Core.Path.{◌∙◌}
use Rattle.substitution.proofs.Held.clear.Goals as goal

pub loop-slot-preserved : goal.loop-slot-preserved
loop-slot-preserved g c =
    let inv = c.loop-slot.invariant in
    record { size = length-set _ _ _ ∙ inv.size; done = clear_more _ inv.done (omega arith) c.clear.ensures }

pub returns : goal.returns
returns g c =
    clear_end c.loop-slot.invariant.done (omega arith)
