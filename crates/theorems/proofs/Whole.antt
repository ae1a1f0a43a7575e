-- Whole runs, of blocks and of nodes: no run that has an outcome goes against the answer for its record.
use Prim.Native.Nat.{ℕ}
use mathlib.Core.Path.{◌≡◌}
use mathlib.Core.Bool.{Bool, cond}
use mathlib.Core.List.{List}
use Rattle.verdict.specs.Numbers.Numbers.{decision}
use Rattle.format.specs.Sheet.{Byte, numbers}
use Rattle.format.proofs.Unique.{all-bytes}
use Rattle.theorems.specs.Runs.{Source, answer_for, Ends}
use Rattle.theorems.specs.Runs.Source.{block, node}
use Rattle.theorems.proofs.Public.{block_runs}
use Rattle.theorems.proofs.Nodes.{node-runs}

pub runs-right : (s : List Byte) (from : Source) (value reason : ℕ) → answer_for (numbers s) from ≡ decision value reason
    → (went : Bool) → Ends (numbers s) from went → value ≡ cond went 1 0
runs-right s (block number) value reason e went run = block_runs (numbers s) number value reason e went run
runs-right s (node number) value reason e went run = node-runs (numbers s) (all-bytes s) number value reason e went run
