-- The cases of the listing, over plain values.
use Prim.Native.Nat.{ℕ, zero, suc, ◌*◌, ◌/◌, ◌≤◌, ◌<◌}
use mathlib.Core.Path.{◌≡◌, refl, sym, ap, ◌∙◌}
use mathlib.Core.List.{List, [], ◌∷◌}
use native.Mathlib.Omega.{arith}
use lib.ListN.{length, take, replicate, length-map}
use borrow.Author.Tests.{le-leb, lt-leb}
use Rattle.std.specs.Prelude.{Result, Ok, Err}
use Rattle.refusal.specs.declared.Fault.TheVariants.{Room}
use Rattle.refusal.specs.declared.Refusal.{Refusal}
use Rattle.refusal.specs.Numbers.{refused}
use Rattle.sheet.specs.declared.Sheet.{Sheet}
use Rattle.sheet.specs.declared.code.Code.{Code}
use Rattle.sheet.specs.declared.code.CodeIndex.{CodeIndex}
use Rattle.sheet.specs.Sheet.{sheet_at, reading_of}
use Rattle.sheet.specs.Index.{over, addresses_of, targets_of}
use Rattle.sheet.proofs.InCode.{code-addresses, code-places}
use Rattle.sheet_bytes.specs.Write.{records}
use Rattle.verdict_lines.specs.Lines.{Line, line_bytes}
use Rattle.verdict_lines.specs.Slots.{decided_in, lines_in}
use Rattle.verdict_lines.proofs.Decided.{lines-count}
use Rattle.verdict_sheet.specs.Said.{Judged, judged_up_to}
use Rattle.verdict_sheet.specs.Kept.{slots_of, Reached}
use Rattle.verdict_sheet.proofs.Due.{lines-due, slots-empty}
use Rattle.answer_listing.specs.Listing.{Gives, written, on_judged, listing_of}

-- the lines against the list's length
module _ (s sites targets slots list : List ℕ) (each-site : length sites ≡ length slots) (each-target : length targets ≡ length slots)
    {n : ℕ} (n-is : n ≡ decided_in slots) where
  count-is : length (lines_in sites targets slots) ≡ n
  count-is = lines-count sites targets slots each-site each-target ∙ sym n-is

  no_lines : (due : List Line) → length due ≡ 0 → Gives (Ok 0) list (written s due list)
  unfolding over records
  no_lines [] none = rw (le-leb (18 * 0) (length list) (omega arith)) (refl, refl)
  no_lines (l ∷ due) none = absurd (omega (arith, none))

  pub nothing-due : n ≡ 0 → Gives (Ok 0) list (written s (lines_in sites targets slots) list)
  nothing-due none = no_lines (lines_in sites targets slots) (count-is ∙ none)

  pub too_short : length list / 18 < n → Gives (Err (refused Room (length s))) list (written s (lines_in sites targets slots) list)
  too_short short = rw (count-is, lt-leb (18 * n) (length list) (omega arith)) (refl, refl)

  pub all-written : {after : List ℕ} → n ≤ length list / 18 → after ≡ over (records line_bytes (lines_in sites targets slots)) list
      → Gives (Ok n) after (written s (lines_in sites targets slots) list)
  all-written room after_is = rw (count-is, le-leb (18 * n) (length list) (omega arith)) (refl, after_is)

-- what judging came to
module _ (s : List ℕ) (slots : List ℕ) where
  pub listed-through : {addresses targets : List ℕ} (j : Judged) (r : Result ℕ Refusal) (after list : List ℕ) → addresses ≡ addresses_of (sheet_at s).instructions.list
      → targets ≡ targets_of (sheet_at s).instructions.list → Reached (sheet_at s).instructions.list (Ok tt) slots j
      → Gives r after (written s (lines_in addresses targets slots) list) → Gives r after (on_judged j s list)
  listed-through (Ok said) r after list addresses-are targets-are is gives =
      rw (← lines-due (sheet_at s).instructions.list said, ← addresses-are, ← targets-are, ← is) gives
  listed-through (Err e) r after list addresses-are targets-are is gives = absurd is

  pub listed-refused : (j : Judged) (r : Refusal) (list : List ℕ) → Reached (sheet_at s).instructions.list (Err r) slots j → Gives (Err r) list (on_judged j s list)
  listed-refused (Ok said) r list is = absurd is
  listed-refused (Err e) r list is = rw is (refl, refl)

-- slots for a sheet's instructions
take-nothing : (n m : ℕ) → n ≤ m → take {A = ℕ} n (replicate m 0) ≡ replicate n 0
take-nothing zero m fits = refl
take-nothing (suc n) zero fits = absurd (omega arith)
take-nothing (suc n) (suc m) fits = ap (λ (l : List ℕ). 0 ∷ l) (take-nothing n m (omega arith))

-- slots for an accepted sheet's instructions, of a list that holds nothing
pub targets-count : (index : CodeIndex) → length (targets_of (sheet_at index.code.bytes.now).instructions.list) ≡ length index.addresses.now
unfolding targets_of
targets-count index = rw (length-map, code-addresses index)

module _ (c : Code) where
  pub slots-front : (m : ℕ) → length c.places.now ≤ m → take (length c.places.now) (replicate m 0) ≡ slots_of (sheet_at c.bytes.now).instructions.list []
  slots-front m fits = rw (take-nothing (length c.places.now) m fits, code-places c) (slots-empty (sheet_at c.bytes.now).instructions.list)

-- reading first
module _ (s list : List ℕ) where
  pub listing_refused : {r : Refusal} → reading_of s ≡ Err r → Gives (Err r) list (listing_of s list)
  unfolding listing_of
  listing_refused is = rw is (refl, refl)

  pub listing-accepted : {sheet : Sheet} (g : Result ℕ Refusal) (after : List ℕ) → reading_of s ≡ Ok sheet
      → Gives g after (on_judged (judged_up_to s sheet.blocks.count sheet.nodes.count) s list) → Gives g after (listing_of s list)
  unfolding listing_of
  listing-accepted g after is gives = rw is gives

-- the listing of an accepted sheet, from what judging came to
module _ (index : CodeIndex) (slots list : List ℕ) where
  pub listing-through : (g : Result ℕ Refusal) (after : List ℕ)
      → Reached (sheet_at index.code.bytes.now).instructions.list (Ok tt) slots (judged_up_to index.code.bytes.now index.code.sheet.blocks.count index.code.sheet.nodes.count)
      → Gives g after (written index.code.bytes.now (lines_in index.addresses.now (targets_of (sheet_at index.code.bytes.now).instructions.list) slots) list) → Gives g after (listing_of index.code.bytes.now list)
  listing-through g after reached gives =
      listing-accepted index.code.bytes.now list g after index.code.accepted (listed-through index.code.bytes.now slots (judged_up_to index.code.bytes.now index.code.sheet.blocks.count index.code.sheet.nodes.count) g after list index.addressed refl reached gives)

  pub listing-ended : (r : Refusal) → Reached (sheet_at index.code.bytes.now).instructions.list (Err r) slots (judged_up_to index.code.bytes.now index.code.sheet.blocks.count index.code.sheet.nodes.count)
      → Gives (Err r) list (listing_of index.code.bytes.now list)
  listing-ended r reached =
      listing-accepted index.code.bytes.now list (Err r) list index.code.accepted (listed-refused index.code.bytes.now slots (judged_up_to index.code.bytes.now index.code.sheet.blocks.count index.code.sheet.nodes.count) r list reached)
