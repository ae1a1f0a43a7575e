use lib.ListN.{length}
use mathlib.Core.Path.{sym, ap, ◌∙◌}
use Rattle.sheet.specs.Sheet.{sheet_at}
use Rattle.sheet.proofs.InCode.{code-addresses}
use Rattle.verdict_sheet.specs.Said.{blocks_say}
use Rattle.verdict_sheet.proofs.Keeping.{slots_length}
use Rattle.verdict_sheet.proofs.Order.{blocks-none, blocks_more}
use Rattle.verdict_sheet.proofs.judge_blocks.Goals as goal

pub loop-i-init : goal.loop-i-init
loop-i-init c =
    let s = c.args.index.now.code.bytes.now in
    blocks-none s (sheet_at s).instructions.list c.requires

pub judge_block-guess-requires : goal.judge_block-guess-requires
judge_block-guess-requires c =
    let s = c.args.index.now.code.bytes.now in
    record { number_lt_count = c.loop-i-test.true; slots_len = ap length c.loop-i.invariant ∙ slots_length (sheet_at s).instructions.list (blocks_say s c.loop-i.i) ∙ sym (code-addresses c.args.index.now) }

pub loop-i-preserved : goal.loop-i-preserved
loop-i-preserved c =
    let s = c.args.index.now.code.bytes.now in
    blocks_more s (sheet_at s).instructions.list c.loop-i.i (c.judge_block-guess.ensures (blocks_say s c.loop-i.i) c.loop-i.invariant)
