use native.Mathlib.Omega.{arith}
use mathlib.Core.List.{append-nil}
use Rattle.sentence_text.specs.Sentence.{turned_times}
use Rattle.sentence_text.specs.Promises.{said_text}
use Rattle.sentence_block.proofs.said_by.Goals as goal

pub returns-in-Carry : goal.returns-in-Carry
unfolding said_text
returns-in-Carry c =
    record { result_value = (λ d. rw (c.in-Carry.is, c.cause_at.ensures d)); result_bound = omega arith }

pub returns-in-Result : goal.returns-in-Result
unfolding said_text turned_times
returns-in-Result c =
    record { result_value = (λ d. rw (c.in-Result.is, append-nil, c.cause_at-in-Result.ensures d)); result_bound = omega arith }

pub returns-in-Both : goal.returns-in-Both
unfolding said_text
returns-in-Both c =
    record { result_value = (λ d. rw (c.in-Both.is, c.cause_at-in-Both.ensures d, c.cause_at-in-Both-2.ensures d)); result_bound = omega arith }

pub returns-in-Value : goal.returns-in-Value
unfolding said_text turned_times
returns-in-Value c =
    record { result_value = (λ d. rw (c.in-Value.is, append-nil)); result_bound = omega arith }
