use Rattle.std.proofs.Common.{rules, leb, ◌&&◌}
use Rattle.sheet_field.specs.Field.{count_at}
use Rattle.sheet_field.proofs.Reader.count.Goals as goal

pub returns-clause-reads : goal.returns-clause-reads
unfolding count_at
returns-clause-reads c = c.take_checked.ensures.reads (λ x. leb c.args.least x && leb x c.args.most) (λ x b lt answers. search rules)

pub returns-clause-value : goal.returns-clause-value
unfolding count_at
returns-clause-value c = c.take_checked.ensures.value (λ x. leb c.args.least x && leb x c.args.most) (λ x b lt answers. search rules)
