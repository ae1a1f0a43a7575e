-- `Ascending` by recursion on the list: nothing, or a first term that is below the next one in an ascending rest. The laws of
-- sums and products go by it.
use Prim.Native.Nat.{ℕ, zero, suc, ◌<◌}
use mathlib.Core.List.{List, [], ◌∷◌}
use native.Mathlib.Numerals.{add-one}
use native.Mathlib.Omega.{arith}
use lib.ListN.{length, get_or}
use Rattle.search.specs.Ascending.{Ascending}
use Rattle.search.proofs.Laws.{ascending-rest}

-- t is below the first term of a list, if it has one.
pub data Below (t : ℕ) : List ℕ → Type 0 where
  none : Below t []
  first : {x : ℕ} {l : List ℕ} → t < x → Below t (x ∷ l)

pub data Rising : List ℕ → Type 0 where
  empty : Rising []
  more : {x : ℕ} {l : List ℕ} → Below x l → Rising l → Rising (x ∷ l)

pub rising : (l : List ℕ) → Ascending l → Rising l
rising [] up = empty
rising (x ∷ []) up = more none empty
rising (x ∷ y ∷ l) up = more (first (up.rises 0 (omega arith))) (rising (y ∷ l) (ascending-rest up))

pub ascending : {l : List ℕ} → Rising l → Ascending l
ascending {l} up = record { rises = λ i h. rw add-one (go l up i (omega arith)) }
  where
    go : (l : List ℕ) → Rising l → (i : ℕ) → suc i < length l → get_or l i 0 < get_or l (suc i) 0
    go [] empty i h = absurd (omega arith)
    go (x ∷ []) (more b up) i h = absurd (omega arith)
    go (x ∷ y ∷ l) (more (first less) up) zero h = less
    go (x ∷ y ∷ l) (more b up) (suc i) h = go (y ∷ l) up i (omega arith)
