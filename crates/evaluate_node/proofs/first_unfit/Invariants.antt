use mathlib.Core.Path.{◌≡◌}
use lib.ListN.{drop}
use Rattle.evaluate_node.specs.Evaluate.{unfit_from}
use Rattle.evaluate_node.proofs.first_unfit.Given as goal

abbrev pub invariant-loop-v : goal.invariant-loop-v
invariant-loop-v l = unfit_from 0 l.types l.values ≡ unfit_from l.v (drop l.v l.types) (drop l.v l.values)
