use mathlib.Core.Path.{ap}
use native.Mathlib.Omega.{arith}
use Rattle.sheet_node.specs.Node.{NodeReading}
use Rattle.evaluate_node.proofs.Whole.{whole-condition, condition-words, condition-few, condition-refused}
use Rattle.evaluate_node.proofs.evaluate_node.Goals as goal

pub take_expression-requires : goal.take_expression-requires
take_expression-requires c =
    let n = c.args.node.now in let there = ap (λ (x : NodeReading). x.condition) c.parts-parts.ensures in
    (rw (c.new-r.ensures.bytes, c.new-r.ensures.at) (whole-condition n.bytes.now n.at n.read there), omega (arith, c.parts-parts.auto.words))

pub of-requires : goal.of-requires
of-requires c =
    let n = c.args.node.now in let there = ap (λ (x : NodeReading). x.condition) c.parts-parts.ensures in
    condition-few n.bytes.now n.at n.read there (rw (c.new-r.ensures.bytes, c.new-r.ensures.at) at c.take_expression.ensures.took)

pub returns-in_default : goal.returns-in_default
returns-in_default c =
    let n = c.args.node.now in let there = ap (λ (x : NodeReading). x.condition) c.parts-parts.ensures in
    rw c.at.ensures (condition-refused n.bytes.now n.at n.read there (rw (c.new-r.ensures.bytes, c.new-r.ensures.at) at c.take_expression.ensures.took) c.in_default.ensures.plain c.args.place c.args.values.now)

pub run_node-requires : goal.run_node-requires
run_node-requires c =
    let n = c.args.node.now in let there = ap (λ (x : NodeReading). x.condition) c.parts-parts.ensures in
    rw c.in-Some.ensures.same (condition-words n.bytes.now n.at n.read there (rw (c.new-r.ensures.bytes, c.new-r.ensures.at) at c.take_expression.ensures.took))
