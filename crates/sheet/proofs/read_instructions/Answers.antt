use native.Mathlib.Omega.{arith}
use mathlib.Core.Path.{◌≡◌}
use Rattle.sheet_field.proofs.Steps.{handed}
use Rattle.sheet.proofs.Fronts.{noting-none, noting-refused, noting-more}
use Rattle.sheet.proofs.read_instructions.Goals as goal

pub loop-i-init : goal.loop-i-init
loop-i-init c = noting-none _ _ _

pub returns-in_err-address-clause-reads : goal.returns-in_err-address-clause-reads
returns-in_err-address-clause-reads c = handed c.from_residual.ensures.1 (noting-refused _ _ c.loop-i.invariant c.in_err-address.ensures.reads (omega arith))

pub loop-i-preserved : goal.loop-i-preserved
loop-i-preserved c =
    let taken = c.in_ok-address.ensures in
    noting-more _ _ c.loop-i.invariant taken.reads taken.address c.note.ensures c.note-in-loop-i.ensures

pub returns-clause-reads : goal.returns-clause-reads
returns-clause-reads c =
    let e : c.args.n ≡ c.loop-i.i = omega arith in
    let l = c.loop-i.invariant in
    rw e (record { same = l.same; place = l.place })

pub returns-clause-noted : goal.returns-clause-noted
returns-clause-noted c = let e : c.args.n ≡ c.loop-i.i = omega arith in rw e c.loop-i.invariant.noted
