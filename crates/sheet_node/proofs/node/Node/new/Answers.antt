use Rattle.sheet_node.proofs.Decoding.{variables-inside, statements-inside, front-whole}
use Rattle.sheet_field.proofs.Fields.{went-ok}
use native.Mathlib.Omega.{arith}
use mathlib.Core.Path.{refl}
use Rattle.sheet_node.proofs.node.Node.new.Goals as goal

pub take_number-variables-requires-clause-inside : goal.take_number-variables-requires-clause-inside
take_number-variables-requires-clause-inside c =
    let r = c.new-r.ensures in rw (r.bytes, r.at) (variables-inside c.args.bytes.now c.args.at c.requires)

pub overflow_add-r : goal.overflow_add-r
overflow_add-r c =
    let r = c.new-r.ensures in let v = c.take_number-variables.ensures in let value = rw (r.bytes, r.at) at v.value in
    omega (arith, statements-inside c.args.bytes.now c.args.at c.requires, value, v.at, r.at)

pub take_number-statements-requires-clause-inside : goal.take_number-statements-requires-clause-inside
take_number-statements-requires-clause-inside c =
    let r = c.new-r.ensures in let v = c.take_number-variables.ensures in
    rw (v.value, v.same, v.at, r.bytes, r.at) (statements-inside c.args.bytes.now c.args.at c.requires)

pub invariant_of-result : goal.invariant_of-result
invariant_of-result c =
    let r = c.new-r.ensures in let v = c.take_number-variables.ensures in let n = c.take_number-statements.ensures in
    record {
      read = went-ok c.requires;
      front_is = rw (n.at, v.at, r.at) (front-whole c.args.bytes.now c.args.at c.requires (rw (r.bytes, r.at) at v.value) refl (rw (v.same, r.bytes, v.at, r.at) at n.value));
    }
