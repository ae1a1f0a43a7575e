-- In a list whose addresses rise, the instructions of a range are those between two counts.
use Prim.Native.Nat.{ℕ, suc, ◌≤◌, ◌<◌}
use mathlib.Core.Path.{◌≡◌, refl, sym, ap}
use mathlib.Core.List.{List, [], ◌∷◌}
use mathlib.Core.Bool.{Bool, true, false, cond, ◌&&◌}
use native.Mathlib.Omega.{arith}
use lib.Dec.{leb, ltb}
use lib.ListN.{length, get_or}
use lib.Seq.{slice}
use borrow.Author.Tests.{le-ltb, le-leb, lt-leb, ltb-true, ltb-false}
use Rattle.isa.specs.declared.Instruction.{Instruction}
use Rattle.search.specs.Ascending.{Ascending, count_below}
use Rattle.search.proofs.Laws.{ascending-rest, ascending-below, count-is}
use Rattle.sheet.specs.Index.{addresses_of}
use Rattle.verdict_block.specs.Verdict.{within}

-- every element is at or above x
Above : ℕ → List ℕ → Type 0
Above x l = (i : ℕ) → i < length l → x ≤ get_or l i 0

above-rest : (a : ℕ) (l : List ℕ) (x : ℕ) → Ascending (a ∷ l) → x ≤ a → Above x l
unfolding Above
above-rest a l x up le i h = let lt = ascending-below up 0 (suc i) (omega arith) (omega arith) in omega arith

none_below : (l : List ℕ) (x : ℕ) → Above x l → count_below l x ≡ 0
unfolding Above
none_below l x above =
    sym (count-is l x 0 record { order = omega arith; within = omega arith; below = λ i h. omega arith; above = λ i h k. above i k })

none_within : (from to : ℕ) (l : List Instruction) → Above to (addresses_of l) → within from to l ≡ []
unfolding within addresses_of Above
none_within from to [] above = refl
none_within from to (i ∷ l) above =
    outside (leb from i.address) (le-ltb _ _ (above 0 (omega arith))) (none_within from to l (λ k h. above (suc k) (omega arith)))
  where
    outside : (b : Bool) → ltb i.address to ≡ false → within from to l ≡ []
        → cond (b && ltb i.address to) (i ∷ within from to l) (within from to l) ≡ []
    outside true out rest = rw out rest
    outside false out rest = rest

pub range-is : (from to : ℕ) (l : List Instruction) → Ascending (addresses_of l)
    → within from to l ≡ slice (count_below (addresses_of l) from) (count_below (addresses_of l) to) l
unfolding within addresses_of count_below
range-is from to [] up = refl
range-is from to (i ∷ l) up = go (ltb i.address from) (ltb i.address to) refl refl (range-is from to l (ascending-rest up))
  where
    past : (x : ℕ) → ltb i.address x ≡ false → Above x (addresses_of l)
    past x q = above-rest i.address (addresses_of l) x up (ltb-false _ _ q)

    go : (a b : Bool) → ltb i.address from ≡ a → ltb i.address to ≡ b
        → within from to l ≡ slice (count_below (addresses_of l) from) (count_below (addresses_of l) to) l
        → within from to (i ∷ l) ≡ slice (count_below (addresses_of (i ∷ l)) from) (count_below (addresses_of (i ∷ l)) to) (i ∷ l)
    go true true p q rest = rw (p, q, lt-leb from i.address (ltb-true _ _ p)) rest
    go true false p q rest =
        rw (p, q, lt-leb from i.address (ltb-true _ _ p), none_below (addresses_of l) to (past to q))
        (none_within from to l (past to q))
    go false true p q rest =
        let c = none_below (addresses_of l) from (past from p) in
        rw (p, q, le-leb from i.address (ltb-false _ _ p), c) (ap (λ (x : List Instruction). i ∷ x) (rw c at rest))
    go false false p q rest =
        rw (p, q, le-leb from i.address (ltb-false _ _ p), none_below (addresses_of l) to (past to q), none_below (addresses_of l) from (past from p))
        (none_within from to l (past to q))
