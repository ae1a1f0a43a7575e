use Rattle.sentence_block.proofs.Traced.{own-there}
use Rattle.sentence_block.proofs.cause_at.Goals as goal

pub returns : goal.returns
returns c =
    λ d. own-there _ c.args.first c.args.number c.args.group d (rw c.unknown-state.ensures at c.step_over.ensures) c.nth_instruction.ensures c.cause_of.ensures
