use native.Mathlib.Omega.{arith}
use Rattle.poly.proofs.Running.{products-more, products-done}
use Rattle.poly.proofs.add_product.Goals as goal

pub loop-x-preserved : goal.loop-x-preserved
loop-x-preserved c =
    products-more _ c.loop-x.invariant (omega arith) (omega arith) (omega arith) c.add_times-n.ensures

pub returns : goal.returns
returns c =
    products-done c.loop-x.invariant (omega arith) (omega arith)
