use Rattle.sheet.proofs.InCode.{inside}
use Rattle.verdict_block.proofs.Between.{end_none, end-last}
use Rattle.verdict_block.specs.Verdict.{verdict_at}
use native.Mathlib.Omega.{arith}
use mathlib.Core.Path.{ap, ◌∙◌}
use Prim.Native.Nat.{◌-◌}
use Rattle.verdict_block.proofs.verdict_in.Goals as goal

pub returns-then-range : goal.returns-then-range
returns-then-range c =
    let r = c.args.range in ap verdict_at (end_none _ r.first r.end _ c.if-range.true)

pub returns : goal.returns
returns c =
    let a = c.args in
    let r = a.range in
    let p = c.requires in
    c.verdict_at.ensures ∙ ap verdict_at (end-last _ r.first (r.end - 1) r.end _ (omega (arith, c.if-range)) (omega (arith, c.if-range)) (inside a.code.now p) (rw c.unknown-state.ensures at c.step_over.ensures) c.jump_at.ensures)
