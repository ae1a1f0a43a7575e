use Rattle.std.proofs.Common.{rules}
use Rattle.std.proofs.lemmas.Result.{err_from_is_err_and}
use Rattle.answer_sentence.proofs.Answers.{sentence_refused, sentence-given}
use Rattle.answer_sentence.proofs.block_sentence.Goals as goal

pub returns-in_err-index : goal.returns-in_err-index
returns-in_err-index c =
    let p = err_from_is_err_and c.from_residual.result c.from_residual.ensures.1 in
    rw (p.1, p.2) (sentence_refused _ _ _ c.in_err-index.ensures.refused)

pub returns : goal.returns
returns c =
    let given = c.in_ok-index.ensures.index in
    sentence-given _ _ _ _ _ _ (rw given.0 at c.in_ok-index.index.code.accepted) given.1 (rw given.0 at c.sentence_on.ensures) _ (λ short r k. search rules) c.map_err.ensures.cases
