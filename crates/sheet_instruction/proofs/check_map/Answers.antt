use Rattle.std.proofs.Common.{rules}
use Rattle.sheet_instruction.specs.Instruction.{map_ok, map_at}
use Rattle.sheet_instruction.proofs.check_map.Goals as goal

pub returns-clause-reads : goal.returns-clause-reads
unfolding map_at
returns-clause-reads c = c.take_checked.ensures.reads map_ok (λ map b lt answers. search rules)

pub returns-clause-value : goal.returns-clause-value
unfolding map_at
returns-clause-value c = c.take_checked.ensures.value map_ok (λ map b lt answers. search rules)
