-- Blocks: one whose bytes are there, and that they are numbers of 8 bytes.
use Prim.Native.Nat.{ℕ, zero, suc, ◌+◌, ◌*◌, ◌≤◌}
use mathlib.Core.Path.{◌≡◌, refl, ap}
use mathlib.Core.List.{List}
use native.Mathlib.Omega.{arith}
use lib.ListN.{length}
use Rattle.std.specs.Prelude.{Ok}
use Rattle.sheet_field.specs.Field.{Place, little, field_at, words_from}
use Rattle.sheet_field.proofs.Fields.{field-whole}
use Rattle.sheet_field.proofs.Words.{words-more}
use Rattle.sheet.specs.Sheet.{BlockReading, block_at, blocks_from}

-- a block whose bytes are there
pub block-whole : (s : List ℕ) (at : ℕ) → at + 16 ≤ length s
    → ◌≡◌ {A = BlockReading} (record { from = little s at 8; to = little s (at + 8) 8; next = Ok (at + 16) }) (block_at s (Ok at))
unfolding block_at
block-whole s at room =
    let from = field-whole 8 s {p = Ok at} {at = at} refl (omega (arith, room)) refl refl in
    let to = field-whole 8 s {p = Ok (at + 8)} {at = at + 8} refl (omega (arith, room)) refl refl in
    let end : at + 8 + 8 ≡ at + 16 = omega arith in
    rw (← from, ← to, end)

-- blocks are numbers of 8 bytes, two each
pub blocks-words : (s : List ℕ) (p : Place) (k : ℕ) → (blocks_from s p k).next ≡ words_from s p (2 * k)
unfolding blocks_from block_at words_from
blocks-words s p zero = refl
blocks-words s p (suc k) =
    let two : 2 * suc k ≡ suc (suc (2 * k)) = omega arith in
    rw (two, words-more s p (suc (2 * k)), words-more s p (2 * k)) (ap (λ (q : Place). (field_at 8 s (field_at 8 s q).next).next) (blocks-words s p k))
