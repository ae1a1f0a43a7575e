use Rattle.verdict_lines.specs.Slots.{slot_line, put_at}
use lib.ListN.{get_or}
use Rattle.verdict_lines.proofs.Written.{offset-there, target-there, write-more, write_done}
use Rattle.verdict_lines.proofs.Puts.{put_front, put_keeps}
use Rattle.verdict_lines.proofs.Decided.{decided-more}
use native.Mathlib.Omega.{arith}
use Rattle.verdict_lines.specs.Lines.{line_bytes}
use Rattle.sheet.specs.Sheet.{sheet_at}
use Rattle.sheet.specs.Index.{targets_of}
use Rattle.sheet_bytes.specs.Write.{records}
use mathlib.Core.Path.{◌≡◌, refl, ◌∙◌}
use Rattle.verdict_lines.proofs.write.Goals as goal

pub loop-i-init : goal.loop-i-init
loop-i-init c =
    (put_front _ _, (omega (arith, c.requires.room), refl))

pub nth_target-requires : goal.nth_target-requires
nth_target-requires c =
    let code = c.args.code.now in
    offset-there code.bytes.now code.sheet code.accepted c.args.slots.now c.loop-i.i code.placed c.requires.each_target c.loop-i-test.true

pub put_line-at-requires : goal.put_line-at-requires
put_line-at-requires c =
    omega (arith, c.loop-i.invariant.1.0, decided-more c.args.slots.now c.loop-i.i (omega (arith, c.loop-i-test.true)))

pub loop-i-preserved : goal.loop-i-preserved
loop-i-preserved c =
    let sites = c.args.sites.now in
    let targets = targets_of (sheet_at c.args.code.now.bytes.now).instructions.list in
    let slots = c.args.slots.now in
    let i = c.loop-i.i in
    let at = c.loop-i.at in
    let list = c.loop-i.list in
    let below = c.loop-i-test.true in
    let each = c.requires in
    let to_is = target-there (sheet_at c.args.code.now.bytes.now).instructions.list i slots each.each_target below c.nth_target.ensures c.unwrap_or.ensures in
    let put : c.put_line-at.new.list ≡ put_at at (records line_bytes (slot_line (get_or sites i 0) (get_or targets i 0) (get_or slots i 0))) list = rw (← to_is) c.put_line-at.ensures.1 in
    let next = c.put_line-at.ensures.0 in
    let long = put_keeps at (records line_bytes (slot_line (get_or sites i 0) (get_or targets i 0) (get_or slots i 0))) list put in
    let more = decided-more slots i (omega (arith, below)) in
    (write-more sites targets slots i at list (omega (arith, below, each.each_site)) (omega (arith, below, each.each_target)) (omega (arith, below)) next put c.loop-i.invariant.0, (omega (arith, next, c.loop-i.invariant.1.0, long, more), long ∙ c.loop-i.invariant.1.1))

pub returns : goal.returns
returns c =
    write_done c.args.sites.now (targets_of (sheet_at c.args.code.now.bytes.now).instructions.list) c.args.slots.now c.loop-i.i c.loop-i.at c.loop-i.list (omega (arith, c.requires.each_site)) c.loop-i.invariant.0
