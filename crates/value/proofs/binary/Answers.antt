-- `value::binary` meets its contract: the three ranges of operators.
-- Assumes nothing.
use Rattle.arith.proofs.Laws.{convert-lt, count-lt}
use Rattle.value.proofs.Laws.{by-low, by-shift, by_high}
use Rattle.value.proofs.binary.Goals as goal

pub arithmetic-requires : goal.arithmetic-requires
arithmetic-requires c =
    record { a_bound = rw c.converted-x.ensures (convert-lt c.args.ta c.joined-t.result c.args.a); b_bound = rw c.converted-y.ensures (convert-lt c.args.tb c.joined-t.result c.args.b) }

pub returns-then-operator-lt-SHL : goal.returns-then-operator-lt-SHL
returns-then-operator-lt-SHL c =
    by-low c.args.operator c.args.ta c.args.tb c.args.a c.args.b c.arithmetic.result c.joined-t.result c.converted-x.result c.converted-y.result c.joined-t.ensures c.converted-x.ensures c.converted-y.ensures c.if-operator-lt-SHL.true c.arithmetic.ensures

pub shifted-requires : goal.shifted-requires
shifted-requires c =
    record { le_operator = (c.if-operator-lt-SHL.false, c.if-operator-lt-EQUAL.true); a_bound = rw c.converted.ensures (convert-lt c.args.ta c.promoted-l.result c.args.a); k_bound = rw c.count.ensures (count-lt c.promoted-l.result c.args.tb c.args.b) }

pub returns-then-operator-lt-EQUAL : goal.returns-then-operator-lt-EQUAL
returns-then-operator-lt-EQUAL c =
    by-shift c.args.operator c.args.ta c.args.tb c.args.a c.args.b c.shifted.result c.promoted-l.result c.converted.result c.count.result c.promoted-l.ensures c.converted.ensures c.count.ensures c.if-operator-lt-SHL.false c.if-operator-lt-EQUAL.true c.shifted.ensures

pub compared-requires : goal.compared-requires
compared-requires c =
    record { le_operator = c.if-operator-lt-EQUAL.false; a_bound = rw c.converted-x.ensures (convert-lt c.args.ta c.joined-t.result c.args.a); b_bound = rw c.converted-y.ensures (convert-lt c.args.tb c.joined-t.result c.args.b) }

pub returns : goal.returns
returns c =
    by_high c.args.operator c.args.ta c.args.tb c.args.a c.args.b c.compared.result c.joined-t.result c.converted-x.result c.converted-y.result c.joined-t.ensures c.converted-x.ensures c.converted-y.ensures c.if-operator-lt-EQUAL.false c.compared.ensures
