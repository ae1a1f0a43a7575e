use Rattle.std.proofs.Common.{arith}
use Rattle.sheet_accepted.proofs.Records.{record_inside, target_room}
use Rattle.sheet_accepted.proofs.Record.operands.Goals as goal

pub overflow_add-result : goal.overflow_add-result
overflow_add-result c = omega (arith, target_room _ _ c.args.self.now.read c.is_branch.ensures c.if-is_branch.true)

pub overflow_add-result-else-is_branch : goal.overflow_add-result-else-is_branch
overflow_add-result-else-is_branch c = omega (arith, record_inside _ _ c.args.self.now.read)
