-- `format::is_sheet` meets its contract: what the slice provides are bytes, so what the format says of reading goes for them.
use native.Mathlib.Omega.{arith}
use Rattle.format.proofs.Unique.{says-reading}
use Rattle.format.proofs.is_sheet.Goals as goal

pub returns : goal.returns
returns c =
    rw c.is_ok.ensures.value (says-reading c.args.s.now (λ i. omega (arith, c.type_inv.s i)) _ c.read.ensures)
