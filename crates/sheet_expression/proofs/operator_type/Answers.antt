use Rattle.sheet_expression.proofs.Tables.{together-self}
use Rattle.expr.specs.Types.{binary_type}
use borrow.Author.Tests.{lt-ltb, le-ltb}
use Rattle.sheet_expression.proofs.operator_type.Goals as goal

pub returns-then-operator-lt-SHL : goal.returns-then-operator-lt-SHL
unfolding binary_type
returns-then-operator-lt-SHL c =
    rw (lt-ltb _ _ c.if-operator-lt-SHL.true) c.together.ensures

pub returns-then-operator-lt-EQUAL : goal.returns-then-operator-lt-EQUAL
unfolding binary_type
returns-then-operator-lt-EQUAL c =
    rw (le-ltb _ _ c.if-operator-lt-SHL.false, lt-ltb _ _ c.if-operator-lt-EQUAL.true, ← together-self c.args.a) c.together-then-operator-lt-EQUAL.ensures

pub returns : goal.returns
unfolding binary_type
returns c =
    rw (le-ltb _ _ c.if-operator-lt-SHL.false, le-ltb _ _ c.if-operator-lt-EQUAL.false, lt-ltb _ _ c.requires.0)
