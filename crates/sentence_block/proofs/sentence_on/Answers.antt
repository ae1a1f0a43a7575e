use Rattle.sentence_block.proofs.Sentences.{on-range}
use Rattle.sheet.proofs.InCode.{end-inside, few-instructions}
use native.Mathlib.Omega.{arith}
use Rattle.sentence_block.proofs.sentence_on.Goals as goal

pub said_in-requires : goal.said_in-requires
said_in-requires c =
    let within = c.range_of-range.ensures.within in
    (end-inside c.args.index.now.code within, omega (arith, within, few-instructions c.args.index.now.code))

pub returns : goal.returns
returns c =
    rw (← on-range c.args.index.now.code.bytes.now c.args.number c.range_of-range.ensures c.said_in.ensures.result_value) c.tell.ensures
