use Rattle.text.proofs.Puts.{digits-next, digits-done}
use Rattle.text.proofs.Writer.put_digits.Goals as goal

pub loop-i-preserved : goal.loop-i-preserved
loop-i-preserved c =
    let inv = c.loop-i.invariant in
    (inv.0, inv.1, digits-next c.loop-i.i inv.2 c.loop-i-test.true c.digit.ensures)

pub returns : goal.returns
returns c =
    let inv = c.loop-i.invariant in
    record { same = inv.0; put = rw inv.1 (digits-done c.loop-i.i (rw inv.1 at inv.2) c.loop-i-test.false c.requires.width_in_bounds) }
