use Rattle.std.specs.Prelude.{Ok}
use Rattle.sheet_expression.proofs.Accepted.{took-tree}
use Rattle.sheet_expression.proofs.words.take_expression.Goals as goal

pub new-requires : goal.new-requires
new-requires c =
    let p = c.requires.0 in
    (took-tree p.variables c.args.r.now.bytes.now (Ok c.args.r.now.at) (c.put_expression-n.ensures.took p.variables p.on) p.on).0
