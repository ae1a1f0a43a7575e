use Prim.Native.Nat.{◌≤◌}
use lib.ListN.{length, take}
use lib.Seq.{length-take-le}
use mathlib.Core.Logic.{inl, inr}
use mathlib.Core.Path.{◌≡◌, refl, sym, ap, ◌∙◌}
use native.Mathlib.Omega.{arith}
use Rattle.std.specs.Prelude.{Ok, Err}
use Rattle.std.proofs.lemmas.Result.{err_from_is_err_and}
use Rattle.sheet.specs.declared.Sheet.{Sheet}
use Rattle.sheet.proofs.Accepted.{accepted}
use Rattle.sheet.proofs.ByNumber.{front-addresses, front-places, front-nodes, places_count}
use Rattle.sheet.proofs.InCode.{code-addresses, code-places}
use Rattle.answer_listing.proofs.Listings.{listing_refused, targets-count, slots-front, listing-through, listing-ended}
use Rattle.answer_listing.proofs.list_in.Goals as goal

pub returns-in_err-sheet : goal.returns-in_err-sheet
returns-in_err-sheet c =
    let p = err_from_is_err_and c.from_residual.result c.from_residual.ensures.1 in
    rw (p.1, p.2) (listing_refused _ _ (sym c.read_index.ensures.reading ∙ c.in_err-sheet.was))

pub returns-then-room-sheet : goal.returns-then-room-sheet
returns-then-room-sheet c =
    (refl, inl (omega (arith, c.if-room-sheet.true, (accepted _ _ (sym c.read_index.ensures.reading ∙ c.in_ok-sheet.was)).few)))

pub returns-then-nodes-sheet : goal.returns-then-nodes-sheet
returns-then-nodes-sheet c =
    (refl, inr (omega (arith, c.if-nodes-sheet.true, (accepted _ _ (sym c.read_index.ensures.reading ∙ c.in_ok-sheet.was)).few_nodes)))

pub new-index-requires-clause-addressed : goal.new-index-requires-clause-addressed
new-index-requires-clause-addressed c =
    front-addresses _ _ (sym c.read_index.ensures.reading ∙ c.in_ok-sheet.was) c.in_ok-sheet.ensures.index (omega (arith, c.if-room-sheet.false, c.requires.lists))

pub new-index-requires-clause-placed : goal.new-index-requires-clause-placed
new-index-requires-clause-placed c =
    front-places _ _ (sym c.read_index.ensures.reading ∙ c.in_ok-sheet.was) c.in_ok-sheet.ensures.index (omega (arith, c.if-room-sheet.false, c.requires.lists))

pub slice_bounds-slots-end : goal.slice_bounds-slots-end
slice_bounds-slots-end c =
    let code = c.new-index.result.code in
    let n : length code.places.now ≡ code.sheet.instructions.count = rw code.placed (places_count code.bytes.now code.sheet code.accepted) in
    let same = ap (λ (x : Sheet). x.instructions.count) c.new-index.ensures.same_sheet in
    omega (arith, n, same, c.if-room-sheet.false)

pub slice_bounds-slots-end-2 : goal.slice_bounds-slots-end-2
slice_bounds-slots-end-2 c =
    let code = c.new-index.result.code in
    let n : length code.places.now ≡ code.sheet.instructions.count = rw code.placed (places_count code.bytes.now code.sheet code.accepted) in
    let same = ap (λ (x : Sheet). x.instructions.count) c.new-index.ensures.same_sheet in
    sym (length-take-le (length code.places.now) c.args.room.now (omega (arith, n, same, c.if-room-sheet.false)))

pub judge-requires-clause-nodes_value : goal.judge-requires-clause-nodes_value
judge-requires-clause-nodes_value c =
    rw c.new-index.ensures.same_bytes
    (front-nodes _ _ (sym c.read_index.ensures.reading ∙ c.in_ok-sheet.was) c.in_ok-sheet.ensures.index (omega (arith, c.if-nodes-sheet.false, c.read_index.auto.nodes))).are

pub judge-requires-clause-slots_value : goal.judge-requires-clause-slots_value
judge-requires-clause-slots_value c =
    let code = c.new-index.result.code in
    let n : length code.places.now ≡ code.sheet.instructions.count = rw code.placed (places_count code.bytes.now code.sheet code.accepted) in
    let same = ap (λ (x : Sheet). x.instructions.count) c.new-index.ensures.same_sheet in
    ap (take (length code.places.now)) c.requires.empty ∙ slots-front code (length c.args.room.now) (omega (arith, n, same, c.if-room-sheet.false))

pub returns-in_err-judge : goal.returns-in_err-judge
returns-in_err-judge c =
    let p = err_from_is_err_and c.from_residual-in_err-judge.result c.from_residual-in_err-judge.ensures.1 in
    rw (p.1, p.2) (rw c.new-index.ensures.same_bytes at (listing-ended c.new-index.result c.judge.new.slots c.args.list.now _ c.in_err-judge.ensures))

pub write_lines-requires : goal.write_lines-requires
write_lines-requires c =
    let index = c.new-index.result in
    let code = index.code in
    let n : length code.places.now ≡ code.sheet.instructions.count = rw code.placed (places_count code.bytes.now code.sheet code.accepted) in
    let same = ap (λ (x : Sheet). x.instructions.count) c.new-index.ensures.same_sheet in
    let fits : length code.places.now ≤ length c.args.room.now = omega (arith, n, same, c.if-room-sheet.false, c.requires.lists) in
    let long : length c.judge.new.slots ≡ length code.places.now = c.judge.auto.slots ∙ length-take-le (length code.places.now) c.args.room.now fits in
    let each : length index.addresses.now ≡ length c.judge.new.slots = code-addresses index ∙ sym (code-places code) ∙ sym long in
    (each, targets-count index ∙ each)

pub returns-in_err-write_lines : goal.returns-in_err-write_lines
returns-in_err-write_lines c =
    let p = err_from_is_err_and c.from_residual-in_err-write_lines.result c.from_residual-in_err-write_lines.ensures.1 in
    rw (p.1, p.2) (rw c.new-index.ensures.same_bytes at (listing-through c.new-index.result c.judge.new.slots c.args.list.now (Err c.in_err-write_lines.field-0.0) c.write_lines.new.list c.in_ok-judge.ensures c.in_err-write_lines.ensures))

pub returns : goal.returns
returns c =
    rw c.new-index.ensures.same_bytes at (listing-through c.new-index.result c.judge.new.slots c.args.list.now (Ok c.in_ok-write_lines.field-0) c.write_lines.new.list c.in_ok-judge.ensures c.in_ok-write_lines.ensures)
