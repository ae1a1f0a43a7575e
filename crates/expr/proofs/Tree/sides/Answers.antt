-- `expr::Tree::sides` meets its contract. Assumes nothing.
use native.Mathlib.Omega.{arith}
use Prim.Native.Nat.{ℕ}
use lib.Dec.{lit≤}
use lib.ListN.{length-take, length-drop}
use Rattle.expr.specs.declared.Root.TheVariants.{Binary}
use Rattle.expr.proofs.Laws.{wf-two}
use Rattle.expr.proofs.Views.{before, sides_of}
use Rattle.expr.proofs.Tree.sides.Goals as goal

pub last_start-m-requires : goal.last_start-m-requires
last_start-m-requires c =
    let p = before c.args.self.words.now c.args.self.wf Binary (lit≤ tt) c.requires in record { trees = p.0; bound = p.1 }

pub returns-clause-size : goal.returns-clause-size
returns-clause-size c =
    let d = sides_of c.args.self.words.now c.args.self.wf c.requires c.last_start-m.result c.last_start-m.ensures in
    omega (arith, wf-two c.args.self.words.now c.args.self.wf, d.within, length-take {A = ℕ}, length-drop {A = ℕ})
