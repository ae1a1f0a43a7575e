use Rattle.sheet_instruction.proofs.Stages.{operand-inside}
use Rattle.sheet_accepted.proofs.take_operand.Goals as goal

pub take_number-requires-clause-inside : goal.take_number-requires-clause-inside
take_number-requires-clause-inside c = operand-inside _ _ c.requires
