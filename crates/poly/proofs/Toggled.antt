-- A term put in or taken out of a borrowed list by moving what stands above it: the start of the list is then `toggle`, and
-- what stands beyond is as it was.
use Prim.Native.Nat.{ℕ, zero, suc, ◌+◌, ◌-◌, ◌≤◌, ◌<◌}
use mathlib.Core.Path.{◌≡◌, sym, ap, ◌∙◌}
use mathlib.Core.List.{List, [], ◌∷◌, ◌++◌}
use native.Mathlib.Decide.{dec_lt}
use native.Mathlib.Nat.{add-zero}
use native.Mathlib.Omega.{arith}
use lib.ListN.{length, get_or, take, drop, length-append, length-take, length-drop, get_or-append}
use lib.Seq.{ext_get_or, get_or-take, get_or-drop, get_or-append-add, length-take-le}
use borrow.Author.Tests.{lt-ltb, le-ltb, eq-eqb, ne_eqb}
use Rattle.std.specs.Prelude.{Ok, Err}
use Rattle.std.specs.Ordering.{nat_cmp}
use Rattle.std.specs.List.Sorted.{IsBinarySearchResult}
use Rattle.std.proofs.lemmas.List.Sorted.{searched}
use Rattle.poly.specs.Terms.{toggle, over}
use Rattle.poly.specs.Places.{PutIn, TakenOut}
use Rattle.search.specs.Ascending.{Ascending}
use Rattle.search.proofs.Laws.{ascending-below, ascending-upto, ascending-rest}

-- a list with t put in at an index, and with the term at an index taken out
abbrev with-term : ℕ → ℕ → List ℕ → List ℕ
with-term t at f = take at f ++ (t ∷ drop at f)

abbrev without : ℕ → List ℕ → List ℕ
without at f = take at f ++ drop (suc at) f

-- `toggle` at the index of its term: where the term is not there yet, and where it is
toggle-new : (t : ℕ) (l : List ℕ) (at : ℕ) → at ≤ length l → ((k : ℕ) → k < at → get_or l k 0 < t)
    → ((k : ℕ) → at ≤ k → k < length l → t < get_or l k 0) → toggle t l ≡ with-term t at l
unfolding toggle
toggle-new t [] at within below above = let none : at ≡ 0 = omega arith in rw none
toggle-new t (x ∷ l) zero within below above =
    rw (le-ltb x t (omega (arith, above 0)), ne_eqb x t (omega (arith, above 0)))
toggle-new t (x ∷ l) (suc at) within below above =
    rw (lt-ltb x t (below 0 (omega arith)))
    (ap (λ (r : List ℕ). x ∷ r)
    (toggle-new t l at (omega arith) (λ k h. below (suc k) (omega arith)) (λ k h h'. above (suc k) (omega arith) (omega arith))))

toggle-old : (t : ℕ) (l : List ℕ) (at : ℕ) → Ascending l → at < length l → get_or l at 0 ≡ t
    → toggle t l ≡ without at l
unfolding toggle
toggle-old t [] at up within here = absurd (omega arith)
toggle-old t (x ∷ l) zero up within here = rw (le-ltb x t (omega arith), eq-eqb x t here)
toggle-old t (x ∷ l) (suc at) up within here =
    rw (lt-ltb x t (omega (arith, ascending-below up 0 (suc at) (omega arith) within)))
    (ap (λ (r : List ℕ). x ∷ r) (toggle-old t l at (ascending-rest up) (omega arith) here))

-- The search among the first n entries finds the index of a term, or where it is to stand.
pub found : (old : List ℕ) {n at : ℕ} (t : ℕ) → n ≤ length old → Ascending (take n old)
    → IsBinarySearchResult (λ y. nat_cmp y t) (take n old) (Ok at) → (at < n) × (get_or (take n old) at 0 ≡ t)
found old {n} {at} t room up there =
    let here = searched (take n old) t (Ok at) there (ascending-upto up) in
    (omega (arith, here.0, length-take-le n old room), here.1)

pub missed : (old : List ℕ) {n at : ℕ} (t : ℕ) → n ≤ length old → Ascending (take n old)
    → IsBinarySearchResult (λ y. nat_cmp y t) (take n old) (Err at) → at ≤ n
missed old {n} {at} t room up apart =
    omega (arith, (searched (take n old) t (Err at) apart (ascending-upto up)).0, length-take-le n old room)

-- an entry of a list that is split at `at` and goes on with r
entry-before : (f r : List ℕ) (at i : ℕ) → at ≤ length f → i < at → get_or (take at f ++ r) i 0 ≡ get_or f i 0
entry-before f r at i room h =
    get_or-append (take at f) r 0 i (simp length-take (omega arith)) ∙ get_or-take at f i 0 h

entry-from : (f r : List ℕ) (at j : ℕ) → at ≤ length f → get_or (take at f ++ r) (at + j) 0 ≡ get_or r j 0
entry-from f r at j room =
    ap (λ (k : ℕ). get_or (take at f ++ r) (k + j) 0) (sym (length-take-le at f room)) ∙ get_or-append-add (take at f) r j 0

-- A list with t over its start is known by its entries.
over-is : (t old new : List ℕ) → length new ≡ length old → length t ≤ length old
    → ((i : ℕ) → i < length t → get_or new i 0 ≡ get_or t i 0)
    → ((i : ℕ) → length t ≤ i → get_or new i 0 ≡ get_or old i 0)
    → new ≡ over t old
over-is t old new long room front beyond =
    ext_get_or 0 new (over t old) (simp (length-append, length-drop) (omega arith)) (λ i h. go i (dec_lt i (length t)))
  where
    far : (j : ℕ) → get_or (over t old) (length t + j) 0 ≡ get_or old (length t + j) 0
    far j = get_or-append-add t (drop (length t) old) j 0 ∙ get_or-drop (length t) old j 0

    go : (i : ℕ) → Dec (i < length t) → get_or new i 0 ≡ get_or (over t old) i 0
    go i (yes h) = front i h ∙ sym (get_or-append t (drop (length t) old) 0 i h)
    go i (no h) =
        let back : length t + (i - length t) ≡ i = omega arith in
        beyond i (omega arith) ∙ sym (rw back at (far (i - length t)))

pub put-in-toggles : (old new : List ℕ) {n t at : ℕ} → n < length old → Ascending (take n old)
    → IsBinarySearchResult (λ y. nat_cmp y t) (take n old) (Err at) → length new ≡ length old → PutIn old new n at t
    → (n + 1 ≡ length (toggle t (take n old))) × (new ≡ over (toggle t (take n old)) old)
put-in-toggles old new {n} {t} {at} room up apart long put =
    rw is (sym size', over-is (with-term t at (take n old)) old new long (omega (arith, size')) front (λ i h. put.beyond i (omega (arith, size'))))
  where
    size : length (take n old) ≡ n
    size = length-take-le n old (omega arith)

    split : (at ≤ length (take n old)) × ((k : ℕ) → k < at → get_or (take n old) k 0 < t) × ((k : ℕ) → at ≤ k → k < length (take n old) → t < get_or (take n old) k 0)
    split = searched (take n old) t (Err at) apart (ascending-upto up)

    is : toggle t (take n old) ≡ with-term t at (take n old)
    is = toggle-new t (take n old) at split.0 split.1 split.2

    size' : length (with-term t at (take n old)) ≡ n + 1
    size' = simp (length-append, length-take, length-drop) (omega (arith, size, split.0))

    moved : (j : ℕ) → at + suc j < n + 1
        → get_or new (at + suc j) 0 ≡ get_or (with-term t at (take n old)) (at + suc j) 0
    moved j h =
        let next : at + j + 1 ≡ at + suc j = omega arith in
        rw next at (put.moved (at + j) (omega arith) (omega arith))
        ∙ sym (get_or-take n old (at + j) 0 (omega arith))
        ∙ sym (get_or-drop at (take n old) j 0)
        ∙ sym (entry-from (take n old) (t ∷ drop at (take n old)) at (suc j) (omega (arith, size, split.0)))

    later : (i : ℕ) → i < n + 1 → (k : ℕ) → at + k ≡ i
        → get_or new i 0 ≡ get_or (with-term t at (take n old)) i 0
    later i h zero e =
        let here : i ≡ at = omega arith in
        rw here
        (put.here
        ∙ sym (rw (add-zero at) at (entry-from (take n old) (t ∷ drop at (take n old)) at 0 (omega (arith, size, split.0)))))
    later i h (suc k) e = rw (sym e) (moved k (omega arith))

    go : (i : ℕ) → i < n + 1 → Dec (i < at)
        → get_or new i 0 ≡ get_or (with-term t at (take n old)) i 0
    go i h (yes less) =
        put.before i less ∙ sym (get_or-take n old i 0 (omega (arith, size, split.0)))
        ∙ sym (entry-before (take n old) (t ∷ drop at (take n old)) at i (omega (arith, size, split.0)) less)
    go i h (no more) = later i h (i - at) (omega arith)

    front : (i : ℕ) → i < length (with-term t at (take n old))
        → get_or new i 0 ≡ get_or (with-term t at (take n old)) i 0
    front i h = go i (omega (arith, size')) (dec_lt i at)

pub take-out-toggles : (old new : List ℕ) {n at : ℕ} (t : ℕ) → n ≤ length old → Ascending (take n old)
    → IsBinarySearchResult (λ y. nat_cmp y t) (take n old) (Ok at) → length new ≡ length old → TakenOut old new n at
    → (n - 1 ≡ length (toggle t (take n old))) × (new ≡ over (toggle t (take n old)) old)
take-out-toggles old new {n} {at} t room up there long taken =
    rw is (sym size', over-is (without at (take n old)) old new long (omega (arith, size')) front (λ i h. taken.beyond i (omega (arith, size'))))
  where
    here : (at < n) × (get_or (take n old) at 0 ≡ t)
    here = found old t room up there

    size : length (take n old) ≡ n
    size = length-take-le n old room

    is : toggle t (take n old) ≡ without at (take n old)
    is = toggle-old t (take n old) at up (omega (arith, size, here.0)) here.1

    size' : length (without at (take n old)) ≡ n - 1
    size' = simp (length-append, length-take, length-drop) (omega (arith, here.0))

    moved : (j : ℕ) → at + j < n - 1 → get_or new (at + j) 0 ≡ get_or (without at (take n old)) (at + j) 0
    moved j h =
        let next : at + j + 1 ≡ suc at + j = omega arith in
        rw next at (taken.moved (at + j) (omega arith) (omega arith))
        ∙ sym (get_or-take n old (suc at + j) 0 (omega arith))
        ∙ sym (get_or-drop (suc at) (take n old) j 0)
        ∙ sym (entry-from (take n old) (drop (suc at) (take n old)) at j (omega (arith, size, here.0)))

    go : (i : ℕ) → i < n - 1 → Dec (i < at) → get_or new i 0 ≡ get_or (without at (take n old)) i 0
    go i h (yes less) =
        taken.before i less ∙ sym (get_or-take n old i 0 (omega arith))
        ∙ sym (entry-before (take n old) (drop (suc at) (take n old)) at i (omega (arith, size, here.0)) less)
    go i h (no more) =
        let back : at + (i - at) ≡ i = omega arith in
        rw back at (moved (i - at) (omega arith))

    front : (i : ℕ) → i < length (without at (take n old))
        → get_or new i 0 ≡ get_or (without at (take n old)) i 0
    front i h = go i (omega (arith, size')) (dec_lt i at)
