use lib.ListN.{length}
use mathlib.Core.Path.{◌≡◌}
use Rattle.substitution.specs.Held.{table_in}
use Rattle.substitution.proofs.Entries.{Ending}
use Rattle.substitution.proofs.Held.end.Given as goal

abbrev pub invariant-loop-w : goal.invariant-loop-w
invariant-loop-w g l = record { size : length l.slot-items ≡ g.row.N; done : Ending l.v (table_in l.initial.slot-items) l.slot-items l.w }
