use borrow.Author.Tests.{eq-eqb}
use Rattle.text.proofs.Puts.{part-is}
use Rattle.sentence_text.proofs.Parts.{compared}
use Rattle.sentence_text.proofs.joined_end.Goals as goal

pub returns-then-eq : goal.returns-then-eq
returns-then-eq c =
    rw (eq-eqb _ _ c.if-turns-ne0.false, ← part-is c.args.buffer.now _ _ c.requires.from_le_end c.requires.end_in_bounds, ← compared, ← c.eq.ensures, c.if-eq.true)

pub returns-else-eq : goal.returns-else-eq
returns-else-eq c =
    rw (eq-eqb _ _ c.if-turns-ne0.false, ← part-is c.args.buffer.now _ _ c.requires.from_le_end c.requires.end_in_bounds, ← compared, ← c.eq.ensures, c.if-eq.false)
