-- Numbers of 8 bytes each, one after the other: where a sheet has all their bytes, and where it ends before.
use Prim.Native.Nat.{ℕ, zero, suc, ◌+◌, ◌-◌, ◌*◌, ◌/◌, ◌≤◌, ◌<◌}
use mathlib.Core.Path.{◌≡◌, refl, ap, ◌∙◌}
use mathlib.Core.List.{List}
use native.Mathlib.Omega.{arith}
use lib.ListN.{length}
use Rattle.std.specs.Prelude.{Ok, Err}
use Rattle.refusal.specs.declared.Fault.TheVariants.{Ends}
use Rattle.refusal.specs.declared.Refusal.{Refusal}
use Rattle.refusal.specs.Numbers.{refused}
use Rattle.sheet_field.specs.Field.{Place, field_at, words_from}
use Rattle.sheet_field.proofs.Fields.{field-whole, field_cut}
use Rattle.sheet_field.proofs.Counted.{stays}

-- one number more
pub words-more : (s : List ℕ) (p : Place) (k : ℕ) → words_from s p (suc k) ≡ (field_at 8 s (words_from s p k)).next
unfolding words_from
words-more s p k = refl

-- one that is read where reading was refused leaves the refusal
words-keep : (s : List ℕ) (p : Place) (j : ℕ) (r : Refusal) → words_from s p j ≡ Err r → words_from s p (suc j) ≡ Err r
unfolding field_at
words-keep s p j r e = words-more s p j ∙ rw e

-- as many as the sheet has bytes for
pub words-whole : (s : List ℕ) (at n : ℕ) → 8 * n ≤ length s - at → words_from s (Ok at) n ≡ Ok (at + 8 * n)
unfolding words_from
words-whole s at zero fits = ap Ok (omega arith)
words-whole s at (suc n) fits =
    let next = field-whole 8 s {p = Ok (at + 8 * n)} refl (omega arith) refl refl in
    words-more s (Ok at) n ∙ rw (words-whole s at n (omega arith), ← next) (ap Ok (omega arith))

-- more than that: the one at which the sheet ends is refused
pub words-cut : (s : List ℕ) (at n room : ℕ) → room ≡ (length s - at) / 8 → room < n → words_from s (Ok at) n ≡ Err (refused Ends (at + 8 * room))
words-cut s at n room room-is more =
    let cut = field_cut 8 s {p = Ok (at + 8 * room)} refl (omega arith) in
    let here : words_from s (Ok at) (suc room) ≡ Err (refused Ends (at + 8 * room)) =
    words-more s (Ok at) room ∙ rw (words-whole s at room (omega arith), ← cut) in
    stays (words_from s (Ok at)) (words-keep s (Ok at)) n (suc room) (refused Ends (at + 8 * room)) here (omega arith)
