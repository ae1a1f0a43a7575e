use Rattle.substitution.proofs.Backward.{split, writing_start, own-cut, held_cut, writing-full, pending-few, writing_more, written_tree, written_is, written-short}
use native.Mathlib.Omega.{arith}
use Rattle.std.proofs.Common.{rules}
use mathlib.Core.Path.{refl, sym}
use Rattle.substitution.proofs.Held.substitute.Goals as goal

pub loop-front-init : goal.loop-front-init
loop-front-init g c =
    writing_start _ _ _ c.args.tree.wf c.requires (search rules)

pub returns-in_err-at-in-Some-held_for : goal.returns-in_err-at-in-Some-held_for
returns-in_err-at-in-Some-held_for g c =
    let inv = c.loop-front.invariant in
    let value = c.in-Some-held_for.value in
    rw c.from_residual.ensures
    (writing-full inv (held_cut inv (split c.in-Some.ensures.cases) _ _ (sym value.wf) c.in-Some-held_for.ensures) c.in_err-at-in-Some-held_for.ensures)

pub returns-in_err-at-in-None : goal.returns-in_err-at-in-None
returns-in_err-at-in-None g c =
    let inv = c.loop-front.invariant in
    rw c.from_residual-in_err-at-in-None.ensures
    (writing-full inv (own-cut inv (split c.in-Some.ensures.cases) c.in-None.ensures) c.in_err-at-in-None.ensures)

pub pending-left-requires : goal.pending-left-requires
pending-left-requires g c =
    let inv = c.loop-front.invariant in
    let cut = c.in-Some.ensures.cases in
    pending-few inv (own-cut inv (split cut) c.in-None.ensures) (omega (arith, cut.2))

pub loop-front-preserved-in_ok-at-in-Some-held_for :
    goal.loop-front-preserved-in_ok-at-in-Some-held_for
loop-front-preserved-in_ok-at-in-Some-held_for g c =
    let inv = c.loop-front.invariant in
    let cut = c.in-Some.ensures.cases in
    let value = c.in-Some-held_for.value in
    let put = c.in_ok-at-in-Some-held_for.ensures in
    writing_more inv (held_cut inv (split cut) _ _ (sym value.wf) c.in-Some-held_for.ensures) _ _ put.0 (omega (arith, cut.2)) c.put_before.auto.list put.1

pub loop-front-preserved : goal.loop-front-preserved
loop-front-preserved g c =
    let inv = c.loop-front.invariant in
    let cut = c.in-Some.ensures.cases in
    let put = c.in_ok-at-in-None.ensures in
    rw c.pending-left.ensures
    (writing_more inv (own-cut inv (split cut) c.in-None.ensures) _ _ put.0 (omega (arith, cut.2)) c.put_before-in-None.auto.list put.1)

pub new-requires : goal.new-requires
new-requires g c =
    written_tree c.loop-front.invariant c.in_default.ensures.cases refl

pub returns : goal.returns
returns g c =
    let inv = c.loop-front.invariant in
    let none = c.in_default.ensures.cases in
    (written_is inv none c.new.ensures, written-short inv none)
