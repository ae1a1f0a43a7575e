use mathlib.Core.Path.{◌≡◌}
use Rattle.substitution.specs.Held.{table_of}
use Rattle.substitute_node.specs.Node.{Idle}
use Rattle.substitute_node.proofs.Passing.{Passing}
use Rattle.substitute_node.proofs.Room.take_statements.Given as goal

abbrev pub invariant-loop : goal.invariant-loop
invariant-loop g l = record {
  same : l.r.bytes.now ≡ l.fn.r.bytes.now;
  idle : Idle l.self.idle (table_of l.self.held);
  passing : Passing l.types l.fn.r.bytes.now l.fn.r.at l.n (table_of l.self.held) l.r.at l.counter;
}
