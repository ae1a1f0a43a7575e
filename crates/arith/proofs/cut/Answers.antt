-- `arith::cut` meets its contract: masking keeps the low bits.
-- Assumes nothing.
use lib.Bits.{and_mask}
use Rattle.arith.specs.Numbers.{bits}
use Rattle.arith.proofs.cut.Goals as goal

pub returns : goal.returns
returns c =
    rw c.mask.ensures (and_mask c.args.x (bits c.args.t))
