use native.Mathlib.Omega.{arith}
use mathlib.Core.Path.{refl}
use Rattle.sheet.specs.Sheet.{sheet_at}
use Rattle.sheet.proofs.InCode.{code-addresses, code-rises, end-inside}
use Rattle.verdict_block.proofs.OnSheet.{verdict-is}
use Rattle.verdict_block.specs.Verdict.{verdict_on}
use Rattle.verdict_sheet.specs.Sites.{block_site}
use Rattle.verdict_sheet.proofs.Branches.{block-site}
use Rattle.verdict_sheet.proofs.Keeping.{slot-there, block-kept, block-silent}
use Rattle.verdict_sheet.proofs.judge_block.Goals as goal

pub last_branch-requires : goal.last_branch-requires
last_branch-requires c =
    end-inside c.args.index.now.code c.range_of-range.ensures.within

pub keep_end-requires : goal.keep_end-requires
keep_end-requires c =
    let index = c.args.index.now in
    let s = index.code.bytes.now in
    let site = block-site s c.args.number c.range_of-range.result c.range_of-range.ensures c.last_branch.ensures in
    (end-inside index.code c.range_of-range.ensures.within, omega (arith, c.requires.slots_len, code-addresses index, slot-there (sheet_at s).instructions.list (block_site s c.args.number) c.last_branch.result site c.in-Some.is))

pub returns-in-Some : goal.returns-in-Some
returns-in-Some c =
    let index = c.args.index.now in
    let s = index.code.bytes.now in
    let site = block-site s c.args.number c.range_of-range.result c.range_of-range.ensures c.last_branch.ensures in
    λ said is. block-kept (sheet_at s).instructions.list (code-rises index) index.addressed said (block_site s c.args.number) (verdict_on s c.args.number) c.last_branch.result site is c.in-Some.is (verdict-is _ _ index.code.accepted c.args.number c.range_of-range.ensures refl) c.keep_end.ensures

pub returns-in_default : goal.returns-in_default
returns-in_default c =
    let index = c.args.index.now in
    let s = index.code.bytes.now in
    let site = block-site s c.args.number c.range_of-range.result c.range_of-range.ensures c.last_branch.ensures in
    λ said is. block-silent (sheet_at s).instructions.list (code-rises index) index.addressed said (block_site s c.args.number) (verdict_on s c.args.number) c.last_branch.result site is c.in_default.is refl
