use Rattle.std.proofs.Common.{length}
use Rattle.decide.proofs.+decide.Given as goal

abbrev pub decreases-decide : goal.decreases-decide
decreases-decide l = length l.condition.words.now
