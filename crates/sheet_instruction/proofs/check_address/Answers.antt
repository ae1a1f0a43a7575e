use Rattle.std.proofs.Common.{rules, ltb, ◌||◌, is_none, unwrap_or}
use Rattle.sheet_instruction.specs.Instruction.{address_at}
use Rattle.sheet_instruction.proofs.check_address.Goals as goal

pub returns-clause-reads : goal.returns-clause-reads
unfolding address_at
returns-clause-reads c = c.take_checked.ensures.reads (λ address. is_none c.args.last || ltb (unwrap_or c.args.last 0) address) (λ address b lt answers. search rules)

pub returns-clause-value : goal.returns-clause-value
unfolding address_at
returns-clause-value c = c.take_checked.ensures.value (λ address. is_none c.args.last || ltb (unwrap_or c.args.last 0) address) (λ address b lt answers. search rules)
