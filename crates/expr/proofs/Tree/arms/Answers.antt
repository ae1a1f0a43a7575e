-- `expr::Tree::arms` meets its contract. Assumes nothing.
use native.Mathlib.Omega.{arith}
use Prim.Native.Nat.{ℕ}
use lib.Dec.{lit≤}
use lib.ListN.{length-take, length-drop}
use Rattle.expr.specs.declared.Root.TheVariants.{Ternary}
use Rattle.expr.proofs.Laws.{wf-two}
use Rattle.expr.proofs.Views.{before, front_of, arms_of}
use Rattle.expr.proofs.Tree.arms.Goals as goal

pub last_start-m-requires : goal.last_start-m-requires
last_start-m-requires c =
    let p = before c.args.self.words.now c.args.self.wf Ternary (lit≤ tt) c.requires in record { trees = p.0; bound = p.1 }

pub last_start-l-requires : goal.last_start-l-requires
last_start-l-requires c =
    let p = front_of c.args.self.words.now c.args.self.wf c.requires c.last_start-m.result c.last_start-m.ensures in record { trees = p.0; bound = p.1 }

pub returns-clause-size : goal.returns-clause-size
returns-clause-size c =
    let d = arms_of c.args.self.words.now c.args.self.wf c.requires c.last_start-m.result c.last_start-m.ensures c.last_start-l.result c.last_start-l.ensures in
    omega (arith, wf-two c.args.self.words.now c.args.self.wf, d.within, d.within_front, length-take {A = ℕ}, length-drop {A = ℕ})
