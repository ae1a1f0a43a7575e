use Rattle.std.proofs.Common.{length}
use Rattle.exact.proofs.+exact.Given as goal

abbrev pub decreases-exact : goal.decreases-exact
decreases-exact l = length l.part.words.now
