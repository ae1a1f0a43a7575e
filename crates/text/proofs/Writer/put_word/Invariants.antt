use mathlib.Core.Path.{◌≡◌}
use Rattle.text.proofs.Puts.{WordLeft}
use Rattle.text.proofs.Writer.put_word.Given as goal

abbrev pub invariant-loop-i : goal.invariant-loop-i
invariant-loop-i l =
    (l.self.out.ghost_name ≡ l.initial.self.out.ghost_name) × (l.self.at ≡ l.initial.self.at)
    × WordLeft l.word l.self.at l.initial.self.out.now l.self.out.now l.i
