use lib.ListN.{length}
use mathlib.Core.Path.{◌≡◌}
use Rattle.substitution.proofs.Entries.{Clearing}
use Rattle.substitution.proofs.Held.clear.Given as goal

abbrev pub invariant-loop-slot : goal.invariant-loop-slot
invariant-loop-slot g l = record { size : length l.slot-items ≡ g.row.N; done : Clearing l.slot-items l.slot-index }
