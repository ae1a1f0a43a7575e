use Rattle.text.proofs.Puts.{word_next, word-done}
use Rattle.text.proofs.Writer.put_word.Goals as goal

pub loop-i-preserved : goal.loop-i-preserved
loop-i-preserved c =
    let inv = c.loop-i.invariant in
    (inv.0, inv.1, word_next inv.2 c.loop-i-test.true)

pub returns : goal.returns
returns c =
    let inv = c.loop-i.invariant in
    record { same = inv.0; put = rw inv.1 (word-done (rw inv.1 at inv.2) c.loop-i-test.false c.requires) }
