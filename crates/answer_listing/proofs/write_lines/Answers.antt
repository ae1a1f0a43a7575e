use native.Mathlib.Omega.{arith}
use Rattle.sheet.specs.Sheet.{sheet_at}
use Rattle.sheet.specs.Index.{targets_of}
use Rattle.answer_listing.proofs.Listings.{nothing-due, too_short, all-written}
use Rattle.answer_listing.proofs.write_lines.Goals as goal

pub returns-then-n-eq0 : goal.returns-then-n-eq0
returns-then-n-eq0 c =
    let index = c.args.index.now in
    nothing-due index.code.bytes.now index.addresses.now (targets_of (sheet_at index.code.bytes.now).instructions.list) c.args.slots.now c.args.list.now c.requires.0 c.requires.1 c.count-n.ensures c.if-n-eq0.true

pub returns-then-list-n : goal.returns-then-list-n
returns-then-list-n c =
    let index = c.args.index.now in
    rw c.at.ensures (too_short index.code.bytes.now index.addresses.now (targets_of (sheet_at index.code.bytes.now).instructions.list) c.args.slots.now c.args.list.now c.requires.0 c.requires.1 c.count-n.ensures c.if-list-n.true)

pub write-requires : goal.write-requires
write-requires c =
    record { each_site = c.requires.0; each_target = c.requires.1; room = omega (arith, c.count-n.ensures, c.if-list-n.false) }

pub returns : goal.returns
returns c =
    let index = c.args.index.now in
    all-written index.code.bytes.now index.addresses.now (targets_of (sheet_at index.code.bytes.now).instructions.list) c.args.slots.now c.args.list.now c.requires.0 c.requires.1 c.count-n.ensures c.if-list-n.false c.write.ensures
