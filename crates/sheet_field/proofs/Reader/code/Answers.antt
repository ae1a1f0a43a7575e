use Rattle.std.proofs.Common.{rules, ltb}
use Rattle.sheet_field.specs.Field.{code_at}
use Rattle.sheet_field.proofs.Reader.code.Goals as goal

pub returns-clause-reads : goal.returns-clause-reads
unfolding code_at
returns-clause-reads c = c.take_checked.ensures.reads (λ x. ltb x c.args.limit) (λ x b lt answers. search rules)

pub returns-clause-value : goal.returns-clause-value
unfolding code_at
returns-clause-value c = c.take_checked.ensures.value (λ x. ltb x c.args.limit) (λ x b lt answers. search rules)
