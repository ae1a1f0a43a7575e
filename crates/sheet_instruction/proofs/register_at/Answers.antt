use Rattle.sheet_instruction.proofs.Stages.{register-is}
use Rattle.sheet_instruction.proofs.register_at.Goals as goal

pub returns : goal.returns
returns c =
    register-is _ _ c.requires
