-- What the contracts of the listing's parts give.
use Rattle.std.specs.Prelude.{ℕ, ◌<◌, ◌≡◌, List, ◌⊎◌, Option, Some, None, Result, Ok, Err}
use Rattle.refusal.specs.declared.Refusal.{Refusal}
use Rattle.answer_listing.specs.Listing.{Gives, listing_of}

-- What comes of listing with an index of so many instructions and nodes: the listing; or the list is as it was, and a sheet may need more.
abbrev pub Attempted : Result (Option ℕ) Refusal → (instructions nodes : ℕ) (s before after : List ℕ) → Type 0
Attempted (Ok (Some n)) instructions nodes s before after = Gives (Ok n) after (listing_of s before)
Attempted (Ok None) instructions nodes s before after = (after ≡ before) × ((instructions < 2048) ⊎ (nodes < 1024))
Attempted (Err r) instructions nodes s before after = Gives (Err r) after (listing_of s before)
