-- `expr::Tree::static_type` meets its contract. The invariant is `Typed`: the trees of the records passed, whose types the array holds.
-- Assumes nothing.
use mathlib.Core.Path.{refl}
use native.Mathlib.Omega.{arith}
use Rattle.expr.proofs.Stack.{typed-start, typed-enough, typed-few, typed-push, typed-end}
use Rattle.expr.proofs.Tree.static_type.Goals as goal

pub loop-record-init : goal.loop-record-init
loop-record-init c =
    let i = c.chunks_exact-record-items.ensures in
    rw c.into_iter-record-iterator.ensures.into_iter_gives (typed-start c.args.self.words.now c.args.types.now _ c.args.self.wf refl i.rest i.size)

pub overflow_sub-at : goal.overflow_sub-at
overflow_sub-at c =
    let s = c.in-Some.ensures.steps in
    omega (arith, c.arity.ensures, typed-enough _ _ c.loop-record.invariant _ _ s.1.0 s.1.1)

pub loop-record-preserved : goal.loop-record-preserved
loop-record-preserved c =
    let s = c.in-Some.ensures.steps in
    typed-push _ _ c.loop-record.invariant _ _ c.arity.result c.record_type-t.result s.1.0 s.1.1 s.0 c.arity.ensures c.record_type-t.ensures
    (omega (arith, typed-few _ _ c.loop-record.invariant _ _ s.1.0 s.1.1 c.requires))

pub returns : goal.returns
returns c = typed-end _ _ c.loop-record.invariant c.in-None.ensures.steps.1.0
