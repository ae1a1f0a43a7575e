use Rattle.substitution.proofs.Entries.{end_more, end_all}
use lib.ListN.{length-set}
use native.Mathlib.Omega.{arith}
use mathlib.Core.Path.{◌∙◌}
use Rattle.substitution.proofs.Held.end.Goals as goal

pub loop-w-preserved : goal.loop-w-preserved
loop-w-preserved g c =
    let inv = c.loop-w.invariant in
    record { size = length-set _ _ _ ∙ inv.size; done = end_more inv.done _ _ (omega arith) c.end.ensures }

pub returns : goal.returns
returns g c =
    end_all c.loop-w.invariant.done (omega arith)
