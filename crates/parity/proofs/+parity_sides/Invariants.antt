use Rattle.std.proofs.Common.{◌+◌, length}
use Rattle.parity.proofs.+parity_sides.Given as goal

abbrev pub decreases-parity : goal.decreases-parity
decreases-parity l = length l.part.words.now + length l.part.words.now + 1

abbrev pub decreases-sides : goal.decreases-sides
decreases-sides l = (length l.left.words.now + length l.right.words.now + 2) + (length l.left.words.now + length l.right.words.now + 2)
