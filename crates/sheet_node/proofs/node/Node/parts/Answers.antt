use Rattle.std.specs.Prelude.{Ok}
use Rattle.sheet_field.proofs.Fields.{went-on}
use Rattle.sheet_node.specs.Node.{node_at}
use Rattle.sheet_node.proofs.Decoding.{these-statements, this-condition, condition-end, addresses-on-end, sites-inside, addresses-inside, node_made}
use native.Mathlib.Omega.{arith}
use Rattle.sheet_node.proofs.node.Node.parts.Goals as goal

pub pass_statements-requires : goal.pass_statements-requires
pass_statements-requires c =
    let n = c.args.self.now in let on = went-on (node_at n.bytes.now (Ok n.at)).next n.read in let r = c.new-r.ensures in
    (rw (r.bytes, r.at) (these-statements n.bytes.now n.at on n.front_is), c.requires)

pub take_expression-requires : goal.take_expression-requires
take_expression-requires c =
    let n = c.args.self.now in let on = went-on (node_at n.bytes.now (Ok n.at)).next n.read in let r = c.new-r.ensures in
    let p = c.pass_statements.ensures in
    (rw (p.same, r.bytes) (this-condition n.bytes.now n.at on n.front_is (rw (r.bytes, r.at) at p.place)), omega (arith, c.pass_statements.auto.words, c.requires))

pub take_number-addresses-requires-clause-inside : goal.take_number-addresses-requires-clause-inside
take_number-addresses-requires-clause-inside c =
    let n = c.args.self.now in let on = went-on (node_at n.bytes.now (Ok n.at)).next n.read in let r = c.new-r.ensures in
    let p = c.pass_statements.ensures in let e = c.take_expression.ensures in
    let end = condition-end n.bytes.now n.at on n.front_is (rw (r.bytes, r.at) at p.place) (rw (p.same, r.bytes) at e.took) in
    rw (e.same, p.same, r.bytes) (sites-inside n.bytes.now c.take_expression.new.r.at (addresses-on-end n.bytes.now n.at on end))

pub overflow_add-result : goal.overflow_add-result
overflow_add-result c =
    let n = c.args.self.now in let on = went-on (node_at n.bytes.now (Ok n.at)).next n.read in let r = c.new-r.ensures in
    let p = c.pass_statements.ensures in let e = c.take_expression.ensures in let a = c.take_number-addresses.ensures in
    let end = condition-end n.bytes.now n.at on n.front_is (rw (r.bytes, r.at) at p.place) (rw (p.same, r.bytes) at e.took) in
    let i = addresses-inside n.bytes.now c.take_expression.new.r.at (addresses-on-end n.bytes.now n.at on end) in
    let v = rw (e.same, p.same, r.bytes) at a.value in
    omega (arith, i.0, i.1, v, a.at)

pub returns : goal.returns
returns c =
    let n = c.args.self.now in let on = went-on (node_at n.bytes.now (Ok n.at)).next n.read in let r = c.new-r.ensures in
    let p = c.pass_statements.ensures in let e = c.take_expression.ensures in let a = c.take_number-addresses.ensures in
    rw a.at (node_made n.bytes.now n.at on n.front_is (rw (r.bytes, r.at) at p.place) (rw (p.same, r.bytes) at e.took) (rw (e.same, p.same, r.bytes) at a.value))
