use Rattle.std.proofs.Common.{rules}
use Rattle.listing.proofs.Streams.{takes-more}
use Rattle.listing.proofs.read_input.Goals as goal

pub loop-had-preserved : goal.loop-had-preserved
loop-had-preserved g c =
    (search rules, search rules, takes-more _ _ _ _ _ _ _ _ (search rules) (search rules) c.loop-had.invariant.2 (search rules))
