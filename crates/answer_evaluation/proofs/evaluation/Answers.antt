use Rattle.sheet.proofs.Found.{found-whole}
use Rattle.answer_evaluation.proofs.Evaluations.{evaluation-refused, evaluation-is}
use Rattle.std.proofs.lemmas.Result.{err_from_is_err_and}
use Rattle.answer_evaluation.proofs.evaluation.Goals as goal

pub returns-in_err-at : goal.returns-in_err-at
returns-in_err-at c =
    let e = err_from_is_err_and c.from_residual.result c.from_residual.ensures.1 in
    rw (e.1, e.2) (evaluation-refused _ _ _ c.find_node.ensures c.in_err-at.was)

pub new-requires : goal.new-requires
new-requires c =
    (found-whole _ _ c.find_node.ensures c.in_ok-at.was).on

pub returns : goal.returns
returns c =
    evaluation-is _ _ _ c.find_node.ensures c.in_ok-at.was (rw (c.new.ensures.bytes, c.new.ensures.at) at c.evaluate_node.ensures)
