-- Bytes that are written over the start of a list stand there.
use Prim.Native.Nat.{ℕ, ◌≤◌}
use mathlib.Core.Path.{◌≡◌, refl, ap}
use mathlib.Core.List.{List, [], ◌∷◌, ◌++◌}
use native.Mathlib.Omega.{arith}
use lib.ListN.{length, drop}
use Rattle.sheet_bytes.proofs.Spans.{Spans, spans-cut, spans-self}
use Rattle.sheet.specs.Index.{over}

-- where the list can hold them
pub over-append : (bs list : List ℕ) → length bs ≤ length list → over bs list ≡ bs ++ drop (length bs) list
unfolding over
over-append [] list fits = refl
over-append (x ∷ bs) [] fits = absurd (omega arith)
over-append (x ∷ bs) (y ∷ list) fits = ap (λ (l : List ℕ). x ∷ l) (over-append bs list (omega arith))

pub over-spans : (bs list : List ℕ) → length bs ≤ length list → (b : ℕ) × Spans (over bs list) 0 bs b
over-spans bs list fits =
    let t = spans-cut bs (drop (length bs) list) (spans-self (bs ++ drop (length bs) list)) in
    (t.0, rw (over-append bs list fits) t.1)
