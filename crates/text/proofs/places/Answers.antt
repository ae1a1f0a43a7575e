use native.Mathlib.Omega.{arith}
use Rattle.text.proofs.Lengths.{places-few}
use Rattle.text.proofs.Values.{places-log}
use Rattle.text.proofs.places.Goals as goal

pub returns-then-n-eq0 : goal.returns-then-n-eq0
returns-then-n-eq0 c =
    omega (arith, places-few c.args.base c.args.n (omega (arith, c.requires)))

pub returns-else-n-eq0 : goal.returns-else-n-eq0
returns-else-n-eq0 c =
    omega (arith, places-log c.args.base c.ilog.result c.args.n c.requires c.ilog.ensures.power_le c.ilog.ensures.next_power_gt)
