use Rattle.sheet.proofs.Fronts.{Noting}
use Rattle.sheet.proofs.read_instructions.Given as goal

abbrev pub invariant-loop-i : goal.invariant-loop-i
invariant-loop-i l = Noting l.fn.r l.r l.i l.initial.addresses l.addresses l.initial.places l.places l.last
