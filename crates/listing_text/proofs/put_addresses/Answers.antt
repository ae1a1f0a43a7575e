use Rattle.text.proofs.Puts.{puts_then}
use Rattle.listing_text.proofs.put_addresses.Goals as goal

pub returns : goal.returns
returns c =
    puts_then (puts_then (puts_then c.put_digits.ensures c.put_word.ensures) c.put_digits-2.ensures) c.put_word-2.ensures
