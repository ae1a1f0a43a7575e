use Rattle.verdict_lines.proofs.Written.{slot-none, slot-put}
use Rattle.verdict_lines.proofs.Decided.{decided-one, decided-empty}
use native.Mathlib.Omega.{arith}
use Rattle.verdict_lines.proofs.put_line.Goals as goal

pub returns-then-slot-eq0 : goal.returns-then-slot-eq0
returns-then-slot-eq0 c =
    (omega (arith, decided-empty c.args.slot c.if-slot-eq0.true), slot-none c.args.at c.args.site c.args.target c.args.list.now c.if-slot-eq0.true)

pub returns : goal.returns
returns c =
    (omega (arith, decided-one c.args.slot c.if-slot-eq0.false), slot-put c.args.at c.args.site c.args.target c.args.slot c.args.list.now c.if-slot-eq0.false c.put_word.ensures c.put_word-2.ensures)
