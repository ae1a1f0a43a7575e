-- `value::arithmetic` meets its contract: each number reads its entry of the table. Assumes nothing.
use Rattle.std.specs.Prelude.{Some}
use mathlib.Core.Path.{ap}
use Rattle.value.specs.Operators.{arithmetics}
use Rattle.value.proofs.arithmetic.Goals as goal

pub returns-in-2 : goal.returns-in-2
unfolding arithmetics
returns-in-2 c = rw c.in-2.is (ap Some c.product.ensures)
