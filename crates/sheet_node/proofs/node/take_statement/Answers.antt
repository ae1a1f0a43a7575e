use Rattle.std.specs.Prelude.{Ok}
use Rattle.sheet_node.proofs.Statements.{took-assigned}
use Rattle.sheet_node.proofs.node.take_statement.Goals as goal

pub new-value-requires : goal.new-value-requires
new-value-requires c =
    let p = c.requires.0 in
    (took-assigned p.types c.args.r.now.bytes.now (Ok c.args.r.now.at) (rw c.in_ok-put.was at c.put_statement.ensures.put p.types p.on) p.on).tree
