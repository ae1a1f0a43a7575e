use Rattle.sheet_expression.proofs.Typing.{Checking}
use Rattle.sheet_expression.proofs.check_expression.Given as goal

abbrev pub invariant-loop-i : goal.invariant-loop-i
invariant-loop-i l = Checking l.types.bytes.now l.fn.r l.r l.i l.stack
