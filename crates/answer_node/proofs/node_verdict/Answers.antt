use Rattle.sheet.proofs.Found.{found-whole}
use Rattle.answer_node.proofs.Nodes.{node-refused, node-judged}
use Rattle.std.proofs.lemmas.Result.{err_from_is_err_and}
use Rattle.answer_node.proofs.node_verdict.Goals as goal

pub returns-in_err-at : goal.returns-in_err-at
returns-in_err-at c =
    let e = err_from_is_err_and c.from_residual.result c.from_residual.ensures.1 in
    rw (e.1, e.2) (node-refused _ _ c.find_node.ensures c.in_err-at.was)

pub new-requires : goal.new-requires
new-requires c =
    (found-whole _ _ c.find_node.ensures c.in_ok-at.was).on

pub returns-in_err-judged : goal.returns-in_err-judged
returns-in_err-judged c =
    let e = err_from_is_err_and c.from_residual-in_err-judged.result c.from_residual-in_err-judged.ensures.1 in
    rw (e.1, e.2) (node-judged _ _ c.find_node.ensures c.in_ok-at.was (rw (c.in_err-judged.was, c.new.ensures.bytes, c.new.ensures.at) at c.verdict_of.ensures.answer))

pub returns : goal.returns
returns c =
    node-judged _ _ c.find_node.ensures c.in_ok-at.was (rw (c.in_ok-judged.was, c.new.ensures.bytes, c.new.ensures.at) at c.verdict_of.ensures.answer)
