use native.Mathlib.Omega.{arith}
use Rattle.poly.proofs.Running.{times_more, times-done}
use Rattle.poly.proofs.add_times.Goals as goal

pub loop-y-preserved : goal.loop-y-preserved
loop-y-preserved c =
    times_more _ c.loop-y.invariant (omega arith) (omega arith) (omega arith) c.toggle-n.ensures

pub returns : goal.returns
returns c =
    times-done c.loop-y.invariant (omega arith) (omega arith)
