-- What a `Code` and its index have: entries for all instructions, whose addresses rise.
use Prim.Native.Nat.{ℕ, ◌≤◌}
use mathlib.Core.Path.{◌≡◌, sym, ◌∙◌}
use lib.ListN.{length, length-map}
use Rattle.search.specs.Ascending.{Ascending}
use Rattle.sheet.specs.declared.code.Code.{Code}
use Rattle.sheet.specs.declared.code.CodeIndex.{CodeIndex}
use Rattle.sheet.specs.Sheet.{sheet_at}
use Rattle.sheet.specs.Index.{addresses_of}
use Rattle.sheet.proofs.Accepted.{accepted}
use Rattle.sheet.proofs.ByNumber.{addresses-rise, instructions-count, places_count}

module _ (code : Code) where
  pub code-places : length code.places.now ≡ length (sheet_at code.bytes.now).instructions.list
  code-places = rw code.placed (places_count code.bytes.now code.sheet code.accepted ∙ sym (instructions-count code.bytes.now code.sheet code.accepted))

  pub inside : {end : ℕ} → end ≤ length code.places.now → end ≤ length (sheet_at code.bytes.now).instructions.list
  inside fits = rw code-places at fits

  pub end-inside : {end : ℕ} → end ≤ length (sheet_at code.bytes.now).instructions.list → end ≤ length code.places.now
  end-inside fits = rw code-places fits

  pub few-instructions : length (sheet_at code.bytes.now).instructions.list ≤ 2048
  few-instructions = rw (instructions-count code.bytes.now code.sheet code.accepted) (accepted code.bytes.now code.sheet code.accepted).few

module _ (index : CodeIndex) where
  pub code-addresses : length index.addresses.now ≡ length (sheet_at index.code.bytes.now).instructions.list
  unfolding addresses_of
  code-addresses = rw (index.addressed, length-map)

  pub code-rises : Ascending index.addresses.now
  code-rises = rw index.addressed (addresses-rise index.code.bytes.now index.code.sheet index.code.accepted)
