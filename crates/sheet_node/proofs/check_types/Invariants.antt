use Rattle.std.proofs.Common.{Ok}
use Rattle.sheet_field.specs.Field.{count_at}
use Rattle.sheet_field.specs.Reads.{Reads}
use Rattle.sheet_node.specs.Node.{types_from}
use Rattle.sheet_node.proofs.check_types.Given as goal

abbrev pub invariant-loop : goal.invariant-loop
invariant-loop l = Reads l.fn.r l.r (Ok l.n) (types_from l.fn.r.bytes.now (count_at 0 32 l.fn.r.bytes.now (Ok l.fn.r.at)).next l.counter)
