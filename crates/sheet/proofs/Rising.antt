-- The addresses of instructions that were read whole rise strictly.
use Prim.Native.Nat.{ℕ, zero, suc, ◌-◌, ◌≤◌, ◌<◌}
use mathlib.Core.Path.{◌≡◌}
use mathlib.Core.List.{List, []}
use native.Mathlib.Omega.{arith}
use lib.Dec.{eqb}
use lib.ListN.{length, get_or, length-map}
use lib.Seq.{get_or_at}
use borrow.Author.Tests.{ne_eqb}
use Rattle.std.specs.Prelude.{Ok}
use Rattle.sheet_field.specs.Field.{Place}
use Rattle.sheet_instruction.proofs.Accepted.{instruction-on}
use Rattle.sheet.specs.Sheet.{instructions_from}
use Rattle.search.specs.Ascending.{Ascending}
use Rattle.search.proofs.Laws.{ascending-none, ascending-more}
use Rattle.sheet.specs.Index.{addresses_of}
use Rattle.sheet.proofs.Fronts.{map_more, instructions-length}

pub addresses-length : (s : List ℕ) (p : Place) (k : ℕ) → length (addresses_of (instructions_from s p k).list) ≡ k
unfolding addresses_of
addresses-length s p k = rw length-map (instructions-length s p k)

last-is : (s : List ℕ) (p : Place) (k : ℕ) → get_or (addresses_of (instructions_from s p (suc k)).list) k 0 ≡ (instructions_from s p (suc k)).last
unfolding instructions_from addresses_of
last-is s p k = rw map_more (get_or_at (addresses_of (instructions_from s p k).list) _ [] 0 k (addresses-length s p k))

below_next : (s : List ℕ) (p : Place) (k : ℕ) {a : ℕ} → (instructions_from s p (suc k)).next ≡ Ok a → 1 ≤ k
    → get_or (addresses_of (instructions_from s p k).list) (k - 1) 0 < (instructions_from s p (suc k)).last
unfolding instructions_from
below_next s p zero e some = omega arith
below_next s p (suc k) e some =
    let t = instructions_from s p (suc k) in
    let above = (instruction-on (eqb (suc k) 0) t.last s t.next e).above (ne_eqb (suc k) 0 (λ q. omega arith)) in
    let one : suc k - 1 ≡ k = omega arith in
    rw (one, last-is s p k) above

pub rising : (s : List ℕ) (p : Place) (k : ℕ) {a : ℕ} → (instructions_from s p k).next ≡ Ok a → Ascending (addresses_of (instructions_from s p k).list)
unfolding instructions_from addresses_of
rising s p zero e = ascending-none
rising s p (suc k) e =
    let t = instructions_from s p k in
    let before = instruction-on (eqb k 0) t.last s t.next e in
    let long = addresses-length s p k in
    rw map_more
    (ascending-more (rising s p k before.there) _ (λ some. rw long (below_next s p k e (rw long at some))))
