use Rattle.std.proofs.Common.{refl, ◌≡◌, arith}
use Rattle.sheet_field.proofs.Steps.{handed}
use Rattle.sheet_node.specs.Node.{statements_from}
use Rattle.sheet_node.proofs.Checks.{statement-read, statement-refused}
use Rattle.sheet_node.proofs.check_statements.Goals as goal

pub loop-init : goal.loop-init
unfolding statements_from
loop-init c = record { same = refl; place = refl }

pub returns-in_err-check_statement : goal.returns-in_err-check_statement
returns-in_err-check_statement c = handed c.from_residual.ensures.1 (statement-refused _ _ _ c.loop.invariant c.in_err-check_statement.ensures (omega arith))

pub loop-preserved : goal.loop-preserved
loop-preserved c = statement-read _ _ _ c.loop.invariant c.in_ok-check_statement.ensures

pub returns : goal.returns
returns c =
    let e : c.args.n ≡ c.loop.counter = omega arith in
    let l = c.loop.invariant in
    rw e (record { same = l.same; place = l.place })
