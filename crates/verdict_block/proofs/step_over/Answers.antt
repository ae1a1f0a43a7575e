use Rattle.sheet.proofs.InCode.{inside}
use Rattle.verdict_block.proofs.Between.{between_step, between_done}
use native.Mathlib.Omega.{arith}
use mathlib.Core.Path.{sym, ◌∙◌}
use Rattle.verdict_block.proofs.step_over.Goals as goal

pub loop-i-preserved : goal.loop-i-preserved
loop-i-preserved c =
    c.loop-i.invariant ∙ between_step _ c.loop-i.i c.args.end _ (omega arith) (inside c.args.code.now c.requires) c.nth_instruction.ensures c.step.ensures

pub returns : goal.returns
returns c =
    sym (c.loop-i.invariant ∙ between_done _ c.loop-i.i c.args.end _ (omega arith))
