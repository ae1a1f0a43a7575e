use Rattle.std.proofs.Common.{rules}
use Rattle.verdict_node.proofs.Judged.{plain-on, plain-short, plain-addresses, judged-plain}
use Rattle.verdict_node.proofs.verdict_plain.Goals as goal

pub take_expression-condition-requires : goal.take_expression-condition-requires
take_expression-condition-requires c =
    let n = c.args.node.now in let r = c.new-r.ensures in
    (rw (r.bytes, r.at) record { variables = n.front.variables; on = plain-on n.bytes.now n.at n.read n.front_is c.requires }, search rules)

pub judge-requires-clause-few : goal.judge-requires-clause-few
judge-requires-clause-few c =
    let n = c.args.node.now in let r = c.new-r.ensures in let e = c.take_expression-condition.ensures in
    plain-short n.bytes.now n.at n.read n.front_is c.requires (rw (r.bytes, r.at) at e.took)

pub judge-requires-clause-there : goal.judge-requires-clause-there
judge-requires-clause-there c =
    let n = c.args.node.now in let r = c.new-r.ensures in let e = c.take_expression-condition.ensures in
    rw (e.same, r.bytes) (plain-addresses n.bytes.now n.at n.read n.front_is c.requires (rw (r.bytes, r.at) at e.took))

pub returns : goal.returns
returns c =
    let n = c.args.node.now in let r = c.new-r.ensures in let e = c.take_expression-condition.ensures in let j = c.judge.ensures in
    judged-plain n.bytes.now n.at n.read n.front_is c.requires (rw (r.bytes, r.at) at e.took) j.answer (rw (e.same, r.bytes) at j.addresses) j.sites
