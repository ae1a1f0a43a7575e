use native.Mathlib.Omega.{arith}
use mathlib.Core.Path.{◌≡◌, refl}
use Rattle.sheet_field.proofs.Steps.{handed}
use Rattle.sheet.specs.Sheet.{nodes_from}
use Rattle.sheet.proofs.Fronts.{nodes-none, node-read, node-noted, node-refused}
use Rattle.sheet.proofs.read_nodes.Goals as goal

pub loop-i-init : goal.loop-i-init
unfolding nodes_from
loop-i-init c = (record { same = refl; place = refl }, nodes-none c.args.r.now _)

pub returns-in_err-check_node-clause-reads : goal.returns-in_err-check_node-clause-reads
returns-in_err-check_node-clause-reads c = handed c.from_residual.ensures.1 (node-refused _ _ c.loop-i.invariant.0 c.in_err-check_node.ensures (omega arith))

pub loop-i-preserved : goal.loop-i-preserved
loop-i-preserved c = (node-read _ _ c.loop-i.invariant.0 c.in_ok-check_node.ensures, node-noted _ _ c.loop-i.invariant.0 _ c.loop-i.invariant.1 c.note.ensures)

pub returns-clause-reads : goal.returns-clause-reads
returns-clause-reads c =
    let e : c.args.n ≡ c.loop-i.i = omega arith in
    let l = c.loop-i.invariant.0 in
    rw e (record { same = l.same; place = l.place })
