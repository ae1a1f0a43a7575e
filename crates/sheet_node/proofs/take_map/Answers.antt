use Rattle.sheet_node.specs.Node.{map_at}
use Rattle.std.proofs.Common.{rules, ◌||◌, eqb}
use Rattle.sheet_node.proofs.take_map.Goals as goal

pub returns-clause-reads : goal.returns-clause-reads
unfolding map_at
returns-clause-reads c = c.take_checked.ensures.reads (λ x. eqb x 0 || eqb x 3) (λ x b lt answers. search rules)

pub returns-clause-value : goal.returns-clause-value
unfolding map_at
returns-clause-value c = c.take_checked.ensures.value (λ x. eqb x 0 || eqb x 3) (λ x b lt answers. search rules)
