-- `arith::count` meets its contract: a pattern leaves modulo a width what its number leaves.
-- Assumes nothing.
use Rattle.arith.proofs.Laws.{count-is}
use Rattle.arith.proofs.count.Goals as goal

pub returns : goal.returns
returns c =
    rw c.width.ensures (count-is c.args.t c.args.s c.args.x c.requires)
