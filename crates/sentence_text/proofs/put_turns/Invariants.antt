use Rattle.text.specs.Promises.{Puts}
use Rattle.sentence_text.specs.Sentence.{turned_times}
use Rattle.sentence_text.proofs.put_turns.Given as goal

abbrev pub invariant-loop-turn : goal.invariant-loop-turn
invariant-loop-turn l = Puts l.initial.out l.out (turned_times l._turn)
