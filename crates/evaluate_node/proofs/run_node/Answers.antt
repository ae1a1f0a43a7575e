use mathlib.Core.Path.{sym, ◌∙◌}
use Rattle.std.specs.Prelude.{Ok}
use Rattle.sheet_node.specs.Node.{node_at}
use Rattle.evaluate_node.proofs.Runs.{node-refused, node-unfit, node-went}
use Rattle.evaluate_node.proofs.Whole.{fit-enough, none_is, types-few, running, statements-there}
use Rattle.evaluate_node.proofs.run_node.Goals as goal

pub new-run-requires-clause-few : goal.new-run-requires-clause-few
new-run-requires-clause-few c =
    let n = c.args.node.now in rw c.types-types.ensures (types-few n.bytes.now n.at n.read)

pub new-run-requires-clause-enough : goal.new-run-requires-clause-enough
new-run-requires-clause-enough c e =
    fit-enough 0 c.types-types.result.now c.args.values.now (sym c.first_unfit-unfit.ensures ∙ (none_is c.first_unfit-unfit.result c.is_none.result c.is_none.ensures).0 e)

pub statements-requires-clause-few : goal.statements-requires-clause-few
statements-requires-clause-few c =
    let n = c.args.node.now in rw (c.new-run.ensures.types, c.types-types.ensures) (types-few n.bytes.now n.at n.read)

pub statements-requires-clause-went_on : goal.statements-requires-clause-went_on
statements-requires-clause-went_on c =
    let n = c.args.node.now in
    let r = running n.bytes.now n.at n.read c.types-types.ensures c.requires in
    rw (c.new-run.ensures.types, c.new-r.ensures.bytes, c.new-r.ensures.at, statements-there n.bytes.now n.at n.read c.types-types.ensures c.requires n.front_is) r.statements

pub returns-in_default : goal.returns-in_default
returns-in_default c =
    let n = c.args.node.now in
    let r = running n.bytes.now n.at n.read c.types-types.ensures c.requires in
    let k = rw (c.new-run.ensures.types, c.new-r.ensures.bytes, c.new-r.ensures.at, statements-there n.bytes.now n.at n.read c.types-types.ensures c.requires n.front_is, c.in_default.is) at c.statements.ensures.state in
    rw c.at.ensures (node-refused n.bytes.now (node_at n.bytes.now (Ok n.at)) c.args.place c.types-types.result.now c.args.values.now c.args.condition.tree.words.now r c.args.condition.plain k)

pub returns-in-Some-unfit : goal.returns-in-Some-unfit
returns-in-Some-unfit c =
    let n = c.args.node.now in
    let r = running n.bytes.now n.at n.read c.types-types.ensures c.requires in
    let k = rw (c.new-run.ensures.types, c.new-r.ensures.bytes, c.new-r.ensures.at, statements-there n.bytes.now n.at n.read c.types-types.ensures c.requires n.front_is, c.in-Some.is) at c.statements.ensures.state in
    rw c.at-in-Some-unfit.ensures (node-unfit n.bytes.now (node_at n.bytes.now (Ok n.at)) c.args.place c.types-types.result.now c.args.values.now c.args.condition.tree.words.now r c.args.condition.plain k.0 c.first_unfit-unfit.ensures c.is_none.ensures c.new-run.result.going c.new-run.result.values c.new-run.ensures.started c.in-Some-unfit.is)

pub returns : goal.returns
returns c =
    let n = c.args.node.now in
    let r = running n.bytes.now n.at n.read c.types-types.ensures c.requires in
    let k = rw (c.new-run.ensures.types, c.new-r.ensures.bytes, c.new-r.ensures.at, statements-there n.bytes.now n.at n.read c.types-types.ensures c.requires n.front_is, c.in-Some.is) at c.statements.ensures.state in
    node-went n.bytes.now (node_at n.bytes.now (Ok n.at)) c.args.place c.types-types.result.now c.args.values.now c.args.condition.tree.words.now r c.args.condition.plain k.0 c.first_unfit-unfit.ensures c.is_none.ensures c.new-run.result.going c.new-run.result.values c.new-run.ensures.started c.in_default-unfit.is k.1
    (rw (c.statements.ensures.types, c.new-run.ensures.types) at c.condition.ensures) c.outcome.ensures
