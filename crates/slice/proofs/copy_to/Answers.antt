use native.Mathlib.Omega.{arith}
use Rattle.slice.proofs.Copied.{copied_more}
use Rattle.slice.proofs.copy_to.Goals as goal

pub loop-i-preserved : goal.loop-i-preserved
loop-i-preserved c =
    copied_more c.loop-i.invariant c.requires (omega arith)
