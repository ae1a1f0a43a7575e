use Rattle.text.proofs.Puts.{puts_then}
use Rattle.listing_text.proofs.put_decision.Goals as goal

pub returns-clause-put : goal.returns-clause-put
returns-clause-put c =
    puts_then (puts_then (puts_then c.put_verdict.ensures c.put_word.ensures) c.put_decimal.ensures) c.put_word-2.ensures
