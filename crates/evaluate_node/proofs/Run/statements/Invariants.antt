use mathlib.Core.Path.{◌≡◌}
use Rattle.evaluate_node.specs.Promises.{state_of}
use Rattle.evaluate_node.proofs.Laws.{Passed}
use Rattle.evaluate_node.proofs.Run.statements.Given as goal

abbrev pub invariant-loop : goal.invariant-loop
invariant-loop l = record {
  types : l.self.types.now ≡ l.fn.self.types.now;
  same : l.r.bytes.now ≡ l.fn.r.bytes.now;
  passed : Passed l.fn.self.types.now l.fn.r.bytes.now l.fn.r.at l.n l.counter (state_of l.fn.self.going l.fn.self.values) l.r.at (state_of l.self.going l.self.values);
}
