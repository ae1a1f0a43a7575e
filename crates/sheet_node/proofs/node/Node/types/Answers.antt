use Rattle.sheet_node.proofs.Decoding.{types-inside}
use native.Mathlib.Omega.{arith}
use Rattle.sheet_node.proofs.node.Node.types.Goals as goal

pub overflow_add-result : goal.overflow_add-result
overflow_add-result c =
    let n = c.args.self.now in omega (arith, types-inside n.bytes.now n.at n.read n.front_is)

pub slice_bounds-result-end : goal.slice_bounds-result-end
slice_bounds-result-end c =
    let n = c.args.self.now in types-inside n.bytes.now n.at n.read n.front_is
