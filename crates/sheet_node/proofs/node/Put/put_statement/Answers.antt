use Rattle.sheet_node.proofs.Decoding.{map-inside, other-took, variable-inside, value_on, assigned-took}
use lib.ListN.{length}
use Rattle.sheet_node.proofs.node.Put.put_statement.Goals as goal

pub take_number-map-requires-clause-inside : goal.take_number-map-requires-clause-inside
take_number-map-requires-clause-inside c =
    let p = c.requires.0 in map-inside p.types c.args.r.now.bytes.now c.args.r.now.at p.on

pub returns-then-map-ne3-clause-put : goal.returns-then-map-ne3-clause-put
returns-then-map-ne3-clause-put c types on =
    let m = c.take_number-map.ensures in
    rw m.at (other-took types _ _ on m.value c.if-map-ne3.true _)

pub take_number-variable-requires-clause-inside : goal.take_number-variable-requires-clause-inside
take_number-variable-requires-clause-inside c =
    let p = c.requires.0 in let m = c.take_number-map.ensures in
    rw (m.same, m.at) (variable-inside p.types c.args.r.now.bytes.now c.args.r.now.at p.on m.value c.if-map-ne3.false)

pub put_expression-records-requires : goal.put_expression-records-requires
put_expression-records-requires c =
    let p = c.requires.0 in let m = c.take_number-map.ensures in let v = c.take_number-variable.ensures in
    (rw (v.same, m.same, v.at, m.at) record { variables = length p.types; on = value_on p.types c.args.r.now.bytes.now c.args.r.now.at p.on m.value c.if-map-ne3.false }, c.requires.1)

pub returns-clause-put : goal.returns-clause-put
returns-clause-put c types on =
    let m = c.take_number-map.ensures in let v = c.take_number-variable.ensures in
    let took = rw (v.same, m.same, v.at, m.at) at c.put_expression-records.ensures.took in
    assigned-took types _ _ on m.value c.if-map-ne3.false (rw (m.same, m.at) at v.value) (took (length types) (value_on types _ _ on m.value c.if-map-ne3.false))
