-- Bytes put into a list at an offset: one by one, and one list after the other.
use Prim.Native.Nat.{ℕ, zero, suc, ◌+◌, ◌-◌, ◌≤◌}
use mathlib.Core.Path.{◌≡◌, refl, sym, ap, ◌∙◌}
use mathlib.Core.List.{List, [], ◌∷◌, ◌++◌}
use native.Mathlib.Omega.{arith}
use native.Mathlib.Numerals.{add-one}
use native.Mathlib.Nat.{div-div-eq-div-mul}
use borrow.Rule.Slice.PartMut.{put_mid}
use lib.ListN.{length, set, take, drop, length-drop, length-set, take-append-drop}
use Rattle.std.specs.Int.{w64, to_le_bytes}
use Rattle.sheet.specs.Index.{over}
use Rattle.sheet_bytes.specs.Write.{bytes}
use Rattle.sheet_bytes.proofs.Spans.{bytes-length}
use Rattle.verdict_lines.proofs.Over.{over-append}
use Rattle.verdict_lines.specs.Slots.{put_at}

over_nothing : (bs : List ℕ) → over bs [] ≡ []
unfolding over
over_nothing [] = refl
over_nothing (b ∷ bs) = refl

pub put-none : (at : ℕ) (list : List ℕ) → put_at at [] list ≡ list
unfolding put_at over
put-none at list = take-append-drop at list

put_next : (at b : ℕ) (bs list : List ℕ) → put_at at (b ∷ bs) list ≡ put_at (suc at) bs (set list at b)
unfolding put_at over
put_next zero b bs [] = sym (over_nothing bs)
put_next zero b bs (x ∷ list) = refl
put_next (suc at) b bs [] = sym (over_nothing bs)
put_next (suc at) b bs (x ∷ list) = ap (λ (l : List ℕ). x ∷ l) (put_next at b bs list)

-- one byte
pub put_step : (at b : ℕ) (bs list : List ℕ) → put_at at (b ∷ bs) list ≡ put_at (at + 1) bs (set list at b)
put_step at b bs list = rw (add-one at) (put_next at b bs list)

put-length : (at : ℕ) (bs list : List ℕ) → length (put_at at bs list) ≡ length list
put-length at [] list = ap length (put-none at list)
put-length at (b ∷ bs) list = ap length (put_next at b bs list) ∙ put-length (suc at) bs (set list at b) ∙ length-set list at b

pub put_keeps : (at : ℕ) (bs list : List ℕ) {after : List ℕ} → after ≡ put_at at bs list → length after ≡ length list
put_keeps at bs list is = ap length is ∙ put-length at bs list

-- one list of bytes after the other
pub put-join : (at : ℕ) (front bs list : List ℕ) → put_at at (front ++ bs) list ≡ put_at (at + length front) bs (put_at at front list)
put-join at [] bs list = let none : at + 0 ≡ at = omega arith in rw (none, put-none at list)
put-join at (a ∷ front) bs list =
    let further : at + suc (length front) ≡ suc at + length front = omega arith in
    rw (further, put_next at a (front ++ bs) list, put_next at a front list) (put-join (suc at) front bs (set list at a))

pub put_front : (bs list : List ℕ) → put_at 0 bs list ≡ over bs list
unfolding put_at
put_front bs list = refl

-- a number's 8 bytes, as the code makes them
eight-bytes : (x : ℕ) → to_le_bytes w64 x ≡ bytes 8 x
unfolding bytes
eight-bytes x = simp div-div-eq-div-mul

-- and written over a part of a list
pub put_word : (at x : ℕ) (list new : List ℕ) → at + 8 ≤ length list → new ≡ to_le_bytes w64 x → put_mid at (at + 8 - at) list new ≡ put_at at (bytes 8 x) list
unfolding put_at
put_word at x list new fits is =
    let size : at + 8 - at ≡ length (bytes 8 x) = omega (arith, bytes-length 8 x) in
    let is-bytes : new ≡ bytes 8 x = is ∙ eight-bytes x in
    rw (is-bytes, size) (ap (λ (l : List ℕ). take at list ++ l) (sym (over-append (bytes 8 x) (drop at list) (omega (arith, length-drop at list, bytes-length 8 x)))))
