use Rattle.std.proofs.Common.{rules}
use Rattle.sentence_text.specs.Promises.{said_text}
use Rattle.sentence_text.proofs.Sentences.{composes-nothing, composes-one, composes_in, said-both}
use Rattle.sentence_text.proofs.compose.Goals as goal

pub returns-in_default : goal.returns-in_default
unfolding said_text
returns-in_default c =
    rw c.in_default.is (composes-nothing _)

pub returns-in-One : goal.returns-in-One
unfolding said_text
returns-in-One c =
    rw (c.in-Some.is, c.in-One.is) (composes_in (composes-one _ (rw c.new-out.ensures.at at c.put_cause.ensures.put.put)) (search rules))

pub returns-in-Joined : goal.returns-in-Joined
returns-in-Joined c =
    rw c.in-Some.is (said-both c.in-Joined.is c.put_both.ensures)
