use Rattle.sheet.proofs.InCode.{end-inside}
use Rattle.verdict_block.proofs.OnSheet.{verdict-is}
use Rattle.verdict_block.proofs.verdict_on.Goals as goal

pub verdict_in-requires : goal.verdict_in-requires
verdict_in-requires c =
    end-inside c.args.index.now.code c.range_of-range.ensures.within

pub returns : goal.returns
returns c =
    verdict-is _ _ c.args.index.now.code.accepted c.args.number c.range_of-range.ensures c.verdict_in.ensures
