use Rattle.expr.proofs.Parts.{Back}
use Rattle.expr.proofs.last_start.Given as goal

abbrev pub invariant-loop-left : goal.invariant-loop-left
invariant-loop-left l = Back l.rs l.at l.left

abbrev pub decreases-loop-left : goal.decreases-loop-left
decreases-loop-left l = l.at
