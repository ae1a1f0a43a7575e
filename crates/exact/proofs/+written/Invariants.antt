use Rattle.std.proofs.Common.{length}
use Rattle.exact.proofs.+written.Given as goal

abbrev pub decreases-written : goal.decreases-written
decreases-written l = length l.part.words.now
