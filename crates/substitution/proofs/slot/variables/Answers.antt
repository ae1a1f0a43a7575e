use mathlib.Core.Path.{sym, ◌∙◌}
use native.Mathlib.Omega.{arith}
use Rattle.substitution.proofs.Noted.{noting-start, noting-other, noting-beyond, noting-on, noting-end}
use Rattle.substitution.proofs.slot.variables.Goals as goal

pub loop-record-init : goal.loop-record-init
loop-record-init g c =
    let i = c.chunks_exact-record-items.ensures in
    rw c.into_iter-record-iterator.ensures.into_iter_gives (noting-start g.row.N c.args.tree.wf i.rest i.size)

pub loop-record-preserved-then-v : goal.loop-record-preserved-then-v
loop-record-preserved-then-v g c =
    let s = c.in-Some.ensures.steps in
    noting-on c.loop-record.invariant _ _ s.1.0 s.1.1 s.0 (sym c.kind.ensures ∙ c.if-kind-eq-VARIABLE.true) _ c.argument-v.ensures (omega arith)

pub loop-record-preserved-else-v : goal.loop-record-preserved-else-v
loop-record-preserved-else-v g c =
    let s = c.in-Some.ensures.steps in
    noting-beyond c.loop-record.invariant _ _ s.1.0 s.1.1 s.0 (omega (arith, c.argument-v.ensures))

pub loop-record-preserved : goal.loop-record-preserved
loop-record-preserved g c =
    let s = c.in-Some.ensures.steps in
    noting-other c.loop-record.invariant _ _ s.1.0 s.1.1 s.0 (λ h. c.if-kind-eq-VARIABLE.false (c.kind.ensures ∙ h))

pub returns : goal.returns
returns g c = noting-end c.loop-record.invariant c.args.tree.wf c.in-None.ensures.steps.1.0
