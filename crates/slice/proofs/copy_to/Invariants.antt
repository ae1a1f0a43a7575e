use Rattle.slice.proofs.Copied.{Copied}
use Rattle.slice.proofs.copy_to.Given as goal

abbrev pub invariant-loop-i : goal.invariant-loop-i
invariant-loop-i l = Copied l.a l.initial.list l.list l.at l.i
