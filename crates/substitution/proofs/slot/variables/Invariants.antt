use Rattle.substitution.proofs.Noted.{Noting}
use Rattle.substitution.proofs.slot.variables.Given as goal

abbrev pub invariant-loop-record : goal.invariant-loop-record
invariant-loop-record g l = Noting g.row.N l.tree.words.now l.read l.record-iterator.rest.now l.record-iterator.size
