use Rattle.text.proofs.Puts.{puts_then}
use Rattle.phrase.specs.Causes.{itself_text}
use Rattle.phrase.proofs.Causes.{puts_both}
use Rattle.phrase.proofs.put_cause.Goals as goal

pub returns-in-Stc-clause-put : goal.returns-in-Stc-clause-put
returns-in-Stc-clause-put c =
    rw c.in-Stc.is c.put_word.ensures

pub returns-in-Clc-clause-put : goal.returns-in-Clc-clause-put
returns-in-Clc-clause-put c =
    rw c.in-Clc.is c.put_word-in-Clc.ensures

pub returns-in-Values-clause-put : goal.returns-in-Values-clause-put
returns-in-Values-clause-put c =
    rw c.in-Values.is (puts_both _ _ _ _ c.put_value-in-Values.ensures.put c.put_value-in-Values-2.ensures.put)

pub returns-in-Itself-clause-put : goal.returns-in-Itself-clause-put
unfolding itself_text
returns-in-Itself-clause-put c =
    rw c.in-Itself.is (puts_then (rw c.name.ensures at c.put_word-in-Itself.ensures) c.put_word-in-Itself-2.ensures)
