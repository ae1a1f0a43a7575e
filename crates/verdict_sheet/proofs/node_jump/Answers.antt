use Rattle.verdict_sheet.proofs.Branches.{jumping-start, jumping-more, jumping-end}
use Rattle.sheet.specs.Sheet.{sheet_at}
use Rattle.verdict_sheet.proofs.node_jump.Goals as goal

pub loop-address-init : goal.loop-address-init
loop-address-init c sites n is on =
    let i = c.chunks_exact-address-items.ensures in
    rw c.into_iter-address-iterator.ensures.into_iter_gives (jumping-start c.args.index.now.code.bytes.now sites n is on (sheet_at c.args.index.now.code.bytes.now).instructions.list i.rest i.size)

pub loop-address-preserved : goal.loop-address-preserved
loop-address-preserved c sites n is on =
    let s = c.in-Some.ensures.steps in
    let index = c.args.index.now in
    jumping-more index.code.bytes.now sites n is on (sheet_at index.code.bytes.now).instructions.list (c.loop-address.invariant sites n is on) _ _ s.1.0 s.1.1 s.0 c.number.ensures index.addressed c.branch_or-jump.ensures

pub returns : goal.returns
returns c sites n is on =
    jumping-end c.args.index.now.code.bytes.now sites n is on (sheet_at c.args.index.now.code.bytes.now).instructions.list (c.loop-address.invariant sites n is on) c.in-None.ensures.steps.1.0
