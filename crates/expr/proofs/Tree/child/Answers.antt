-- `expr::Tree::child` meets its contract. Assumes nothing.
use native.Mathlib.Omega.{arith}
use Prim.Native.Nat.{ℕ}
use lib.ListN.{length-take}
use Rattle.expr.proofs.Views.{two}
use Rattle.expr.proofs.Tree.child.Goals as goal

pub returns-clause-size : goal.returns-clause-size
returns-clause-size c = omega (arith, two c.args.self.words.now c.args.self.wf, length-take {A = ℕ})
