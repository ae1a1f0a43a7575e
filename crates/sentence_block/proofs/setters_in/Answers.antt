use native.Mathlib.Omega.{arith}
use Rattle.sheet.proofs.InCode.{inside}
use Rattle.sentence_block.proofs.Declared.{declared-there}
use Rattle.sentence_block.proofs.Traced.{traced-none, traced-next, traced-all}
use Rattle.sentence_block.proofs.setters_in.Goals as goal

pub loop-i-init : goal.loop-i-init
loop-i-init c =
    rw c.all-setters.ensures (traced-none _ _)

pub loop-i-preserved : goal.loop-i-preserved
loop-i-preserved c =
    let below = inside c.args.code.now c.requires.1 in
    traced-next _ _ c.loop-i.i c.loop-i.invariant (omega arith) (omega (arith, below)) c.nth_instruction.ensures
    (declared-there c.args.code.now.bytes.now c.args.code.now.sheet c.args.code.now.accepted c.loop-i.i c.args.code.now.placed (omega arith) c.nth_instruction.ensures) c.step.ensures

pub returns : goal.returns
returns c =
    traced-all _ _ c.loop-i.invariant (omega arith) (omega arith)
