use Rattle.std.proofs.Common.{◌-◌, ltb-true, arith}
use Rattle.search.proofs.Laws.{below-upto}
use Rattle.search.proofs.are_below.Goals as goal

pub returns-then-at-list : goal.returns-then-at-list
returns-then-at-list c =
    λ e. below-upto c.requires (c.args.at - 1) (omega (arith, ltb-true))
