use Rattle.sheet_expression.proofs.Tables.{rank-below, ranked-is}
use native.Mathlib.Omega.{arith}
use Rattle.sheet_expression.proofs.together.Goals as goal

pub offset_bounds-max : goal.offset_bounds-max
offset_bounds-max c =
    omega (arith, rank-below _ _ c.requires.0 c.requires.1)

pub bounds-max : goal.bounds-max
bounds-max c =
    rw c.max.ensures (rank-below _ _ c.requires.0 c.requires.1)

pub returns : goal.returns
returns c =
    rw c.max.ensures (ranked-is _ _ c.requires.0 c.requires.1)
