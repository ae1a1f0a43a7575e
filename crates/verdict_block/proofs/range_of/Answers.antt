use Rattle.verdict_block.proofs.OnSheet.{range-is-of}
use Rattle.sheet.proofs.InCode.{code-rises}
use Rattle.verdict_block.proofs.range_of.Goals as goal

pub first_from-first-requires : goal.first_from-first-requires
first_from-first-requires c =
    code-rises c.args.index.now

pub first_from-end-requires : goal.first_from-end-requires
first_from-end-requires c =
    code-rises c.args.index.now

pub returns : goal.returns
returns c =
    let index = c.args.index.now in
    range-is-of _ _ index.code.accepted c.args.number index.addressed c.nth_block-block.ensures c.first_from-first.ensures c.first_from-end.ensures
