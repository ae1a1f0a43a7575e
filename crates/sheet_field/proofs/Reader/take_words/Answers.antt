use Rattle.std.proofs.Common.{refl, sym, arith}
use Rattle.sheet_field.proofs.Words.{words-whole, words-cut}
use Rattle.sheet_field.proofs.Reader.take_words.Goals as goal

pub returns-then-n-room : goal.returns-then-n-room
returns-then-n-room c = record { same = refl; place = sym (words-whole _ _ _ (omega (arith, c.if-n-room.true, c.saturating_sub-room.ensures))) }

pub returns-else-n-room : goal.returns-else-n-room
returns-else-n-room c =
    let cut = words-cut c.args.self.now.bytes.now c.args.self.now.at c.args.n _ (rw c.saturating_sub-room.ensures refl) (omega (arith, c.if-n-room.false)) in
    record { same = refl; place = rw c.at.ensures (sym cut) }
