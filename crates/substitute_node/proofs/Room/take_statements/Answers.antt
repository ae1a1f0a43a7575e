use Rattle.substitute_node.proofs.Passing.{passing_start, passing_whole, passing_stop, passing_more, passing_end}
use Rattle.std.proofs.Common.{rules, refl, ◌∙◌}
use native.Mathlib.Omega.{arith}
use Rattle.substitute_node.proofs.Room.take_statements.Goals as goal

pub loop-init : goal.loop-init
loop-init g c = record { same = refl; idle = λ _. c.clear.ensures; passing = passing_start _ _ _ _ c.clear.ensures }

pub take_statement-requires : goal.take_statement-requires
take_statement-requires g c =
    let l = c.loop.invariant in
    (search rules, (c.requires.few (omega arith), (rw l.same (passing_whole l.passing c.requires.went_on (omega arith)), l.idle)))

pub returns-in_err-take_statement-clause-passed : goal.returns-in_err-take_statement-clause-passed
returns-in_err-take_statement-clause-passed g c =
    let l = c.loop.invariant in
    rw c.from_residual.ensures (passing_stop l.passing (omega arith) (rw l.same at c.in_err-take_statement.ensures.stepped))

pub loop-preserved : goal.loop-preserved
loop-preserved g c =
    let l = c.loop.invariant in let e = c.in_ok-take_statement.ensures in
    let step = rw l.same at e.stepped in
    record { same = e.same ∙ l.same; idle = e.idle; passing = passing_more l.passing (omega arith) step.0 step.1 }

pub returns-clause-passed : goal.returns-clause-passed
returns-clause-passed g c =
    passing_end c.loop.invariant.passing (omega arith)
