use native.Mathlib.Omega.{arith}
use Rattle.text.proofs.Lengths.{places-long}
use Rattle.text.proofs.Writer.put_decimal.Goals as goal

pub put_digits-requires-clause-width_in_bounds : goal.put_digits-requires-clause-width_in_bounds
put_digits-requires-clause-width_in_bounds c =
    omega (arith, c.places.ensures, c.requires, places-long 10 c.args.n)

pub returns : goal.returns
returns c =
    rw c.places.ensures at c.put_digits.ensures
