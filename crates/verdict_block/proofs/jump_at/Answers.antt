use mathlib.Core.Path.{◌∙◌}
use Rattle.sheet.proofs.InCode.{inside}
use Rattle.verdict_block.proofs.Between.{jump-there}
use Rattle.verdict_block.proofs.jump_at.Goals as goal

pub returns : goal.returns
returns c d = c.then_some.ensures ∙ jump-there _ c.args.number (inside c.args.code.now c.requires) c.is_branch.ensures c.nth_mnemonic.ensures d
