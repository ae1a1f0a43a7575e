use Rattle.std.proofs.Common.{ltb, rules}
use Rattle.std.proofs.lemmas.List.Sorted.{IsPartitionPoint-from_clause}
use Rattle.search.proofs.Laws.{ascending-parted, point-count}
use Rattle.search.proofs.first_at_or_above.Goals as goal

pub returns : goal.returns
returns c =
    point-count _ _ c.partition_point.ensures.bound
    (IsPartitionPoint-from_clause (λ y. ltb y c.args.x) _ _ c.partition_point.ensures.partitioned (ascending-parted c.requires c.args.x) (λ a r q k. search rules))
