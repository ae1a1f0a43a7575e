use Rattle.std.proofs.lemmas.Result.{err_from_is_err_and}
use Rattle.answer_block.proofs.Answers.{block_refused, block-judged}
use Rattle.answer_block.proofs.block_verdict.Goals as goal

pub returns-in_err-index : goal.returns-in_err-index
returns-in_err-index c =
    let p = err_from_is_err_and c.from_residual.result c.from_residual.ensures.1 in
    rw (p.1, p.2) (block_refused _ _ c.in_err-index.ensures.refused)

pub returns : goal.returns
returns c =
    let given = c.in_ok-index.ensures.index in
    block-judged _ _ (rw given.0 at c.in_ok-index.index.code.accepted) given.1 (rw given.0 at c.verdict_on.ensures)
