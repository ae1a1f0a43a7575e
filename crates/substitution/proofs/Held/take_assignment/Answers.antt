use Rattle.std.proofs.Common.{rules}
use Rattle.substitution.proofs.Backward.{few-words}
use Rattle.substitution.proofs.Held.take_assignment.Goals as goal

pub assign-requires : goal.assign-requires
assign-requires g c =
    let made = c.in_ok-substituted.ensures in
    (search rules, (search rules, few-words _ c.in_ok-substituted.substituted.wf made.0 made.1))
