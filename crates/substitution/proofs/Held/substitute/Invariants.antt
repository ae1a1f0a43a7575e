use lib.ListN.{length}
use Rattle.expr.specs.Tree.{tree_of}
use Rattle.substitution.specs.Held.{table_of}
use Rattle.substitution.proofs.Backward.{Writing}
use Rattle.substitution.proofs.Held.substitute.Given as goal

abbrev pub invariant-loop-front : goal.invariant-loop-front
invariant-loop-front g l = Writing (table_of l.self) (tree_of l.tree.words.now) l.rest l.out l.at l.left

abbrev pub decreases-loop-front : goal.decreases-loop-front
decreases-loop-front g l = length l.rest
