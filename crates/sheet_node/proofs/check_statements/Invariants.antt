use Rattle.std.proofs.Common.{Ok}
use Rattle.sheet_field.specs.Reads.{Reads}
use Rattle.sheet_node.specs.Node.{statements_from}
use Rattle.sheet_node.proofs.check_statements.Given as goal

abbrev pub invariant-loop : goal.invariant-loop
invariant-loop l = Reads l.fn.r l.r (Ok l.n) (statements_from l.types.bytes.now l.fn.r.bytes.now (Ok l.fn.r.at) l.counter).next
