use Rattle.sheet_node.proofs.Decoding.{sites-inside, addresses-inside, addresses-last}
use native.Mathlib.Omega.{arith}
use Rattle.sheet_node.proofs.node.take_addresses.Goals as goal

pub take_number-n-requires-clause-inside : goal.take_number-n-requires-clause-inside
take_number-n-requires-clause-inside c = sites-inside c.args.r.now.bytes.now c.args.r.now.at c.requires

pub overflow_add-r : goal.overflow_add-r
overflow_add-r c =
    let e = c.take_number-n.ensures in let i = addresses-inside c.args.r.now.bytes.now c.args.r.now.at c.requires in
    omega (arith, i.0, i.1, e.value, e.at)

pub slice_bounds-result-end : goal.slice_bounds-result-end
slice_bounds-result-end c =
    let e = c.take_number-n.ensures in let i = addresses-inside c.args.r.now.bytes.now c.args.r.now.at c.requires in
    rw e.same (omega (arith, i.0, i.1, e.value, e.at))

pub returns-clause-place : goal.returns-clause-place
returns-clause-place c =
    let e = c.take_number-n.ensures in rw (e.value, e.at) (addresses-last c.args.r.now.bytes.now c.args.r.now.at c.requires)
