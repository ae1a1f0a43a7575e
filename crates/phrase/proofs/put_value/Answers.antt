use Rattle.text.proofs.Puts.{puts_then}
use Rattle.wording.specs.Values.{is_text}
use Rattle.phrase.proofs.put_value.Goals as goal

pub returns-clause-put : goal.returns-clause-put
unfolding is_text
returns-clause-put c =
    let value = rw c.number-shown.ensures.is at (puts_then c.put_word-3.ensures c.put_digits.ensures) in
    puts_then (puts_then (puts_then (rw c.name.ensures at c.put_word.ensures) c.put_word-2.ensures) value) c.put_word-4.ensures
