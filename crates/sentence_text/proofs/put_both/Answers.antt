use Rattle.std.proofs.Common.{rules}
use Rattle.phrase.proofs.Causes.{not-turned}
use Rattle.sentence_text.proofs.Sentences.{both_in}
use Rattle.sentence_text.proofs.put_both.Goals as goal

pub returns : goal.returns
returns c =
    let first = rw c.new-out.ensures.at at c.put_cause.ensures.put.put in
    both_in _ first c.put_word.ensures.put c.put_cause-2.ensures.put.put (not-turned _) c.joined_end.ensures (search rules)
