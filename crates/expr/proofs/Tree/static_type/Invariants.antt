use Rattle.expr.proofs.Stack.{Typed}
use Rattle.expr.proofs.Tree.static_type.Given as goal

abbrev pub invariant-loop-record : goal.invariant-loop-record
invariant-loop-record l = Typed l.self.words.now l.types l.stack l.top l.record-iterator.rest.now l.record-iterator.size
