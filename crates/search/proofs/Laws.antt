-- Laws of `Ascending`, `count_below` and `place_of`.
use Prim.Native.Nat.{ℕ, zero, suc, ◌+◌, ◌-◌, ◌≤◌, ◌<◌, min}
use mathlib.Core.Path.{◌≡◌, refl, ap}
use mathlib.Core.Bool.{Bool, true, false, cond}
use mathlib.Core.Logic.{◌⊎◌, inl, inr}
use mathlib.Core.List.{List, [], ◌∷◌, ◌++◌}
use native.Mathlib.Nat.{eq-or-lt_of_le, lt_trans, le_of_suc-le-suc}
use native.Mathlib.Numerals.{add-one}
use native.Mathlib.Decide.{dec_lt}
use native.Mathlib.Omega.{arith}
use lib.Dec.{eqb}
use lib.ListN.{length, get_or, take, length-append, length-take, get_or-append}
use lib.Seq.{get_or-append_seam, get_or-take, take-suc, length-take-le}
use borrow.Author.Tests.{lt-ltb, le-ltb, eq-eqb, ne_eqb, eqb-true, eqb-false}
use Rattle.search.specs.Ascending.{Ascending, Below, count_below, place_of}
use Rattle.std.specs.Prelude.{Option, Some, None, option_map, Result, Ok, Err, drop}
use Rattle.std.specs.Ordering.{nat_cmp}
use Rattle.std.specs.Option.{MatchOption}
use Rattle.std.specs.Result.{MatchResult, result_ok}
use Rattle.std.specs.List.{HoldsAt, AllWithin}
use Rattle.std.specs.List.Sorted.{IsPartitionPoint, IsPartitionedBy, IsBinarySearchResult}
use Rattle.std.proofs.lemmas.List.Sorted.{IsPartitionedBy-ltb, IsNonDecreasingBy-from_default, searched}
use Rattle.std.proofs.Common.{ltb, ltb-true, ltb-false, length-drop, get_or-drop}

pub ascending-none : Ascending []
ascending-none = record { rises = λ i h. absurd (omega arith) }

-- an element is below each later one
pub ascending-below : {l : List ℕ} → Ascending l → (i j : ℕ) → i < j → j < length l → get_or l i 0 < get_or l j 0
ascending-below up i zero before within = absurd (omega arith)
ascending-below {l} up i (suc j) before within =
    step (eq-or-lt_of_le (le_of_suc-le-suc before)) (λ less. ascending-below up i j less (omega arith))
  where
    next : get_or l j 0 < get_or l (suc j) 0
    next = rw add-one at (up.rises j (omega arith))

    step : (i ≡ j) ⊎ (i < j) → (i < j → get_or l i 0 < get_or l j 0) → get_or l i 0 < get_or l (suc j) 0
    step (inl same) sooner = rw same next
    step (inr less) sooner = lt_trans (sooner less) next

-- and an element is at most itself and each later one
pub ascending-upto : {l : List ℕ} → Ascending l → (i j : ℕ) → i ≤ j → j < length l → get_or l i 0 ≤ get_or l j 0
ascending-upto {l} up i j upto within = go (eq-or-lt_of_le upto)
  where
    go : (i ≡ j) ⊎ (i < j) → get_or l i 0 ≤ get_or l j 0
    go (inl same) = rw same (omega arith)
    go (inr less) = omega (arith, ascending-below up i j less within)

-- one more element at the end, above the last one
pub ascending-more : {l : List ℕ} → Ascending l → (x : ℕ)
    → (1 ≤ length l → get_or l (length l - 1) 0 < x) → Ascending (l ++ (x ∷ []))
ascending-more {l} up x last = record { rises = λ i h. rise i (simp length-append at h) }
  where
    old : (i : ℕ) → i < length l → get_or (l ++ (x ∷ [])) i 0 ≡ get_or l i 0
    old i h = get_or-append l (x ∷ []) 0 i h

    new : (i : ℕ) → i ≡ length l → get_or (l ++ (x ∷ [])) i 0 ≡ x
    new i e = rw e (get_or-append_seam l x [] 0)

    pick : (i : ℕ) → (i + 1 ≡ length l) ⊎ (i + 1 < length l) → get_or l i 0 < get_or (l ++ (x ∷ [])) (i + 1) 0
    pick i (inl e) =
        let back : i ≡ length l - 1 = omega arith in
        rw (new (i + 1) e, back) (last (omega arith))
    pick i (inr less) = rw (old (i + 1) less) (up.rises i less)

    rise : (i : ℕ) → i + 1 < length l + 1 → get_or (l ++ (x ∷ [])) i 0 < get_or (l ++ (x ∷ [])) (i + 1) 0
    rise i h = rw (old i (omega arith)) (pick i (eq-or-lt_of_le (omega arith)))

-- the start of an ascending list
pub ascending-take : {l : List ℕ} → Ascending l → (n : ℕ) → Ascending (take n l)
ascending-take {l} up n = record { rises = λ i h. rise i (simp length-take at h) }
  where
    rise : (i : ℕ) → i + 1 < min n (length l) → get_or (take n l) i 0 < get_or (take n l) (i + 1) 0
    rise i h = rw (get_or-take n l i 0 (omega arith), get_or-take n l (i + 1) 0 (omega arith)) (up.rises i (omega arith))

-- the start, one element longer
pub ascending-longer : (l : List ℕ) (n : ℕ) → Ascending (take n l) → n < length l
    → (1 ≤ n → get_or l (n - 1) 0 < get_or l n 0) → Ascending (take (n + 1) l)
ascending-longer l n up within last =
    let size : length (take n l) ≡ n = length-take-le n l (omega arith) in
    rw (add-one, take-suc l n 0 within)
    (ascending-more up (get_or l n 0) (rw size (λ h. rw (get_or-take n l (n - 1) 0 (omega arith)) (last h))))

-- the rest of an ascending list
pub ascending-rest : {a : ℕ} {l : List ℕ} → Ascending (a ∷ l) → Ascending l
ascending-rest {a} {l} up = record { rises = λ i h. rw add-one (rw add-one at (up.rises (suc i) (omega arith))) }

-- All elements before lo are below x, and none from hi on is.
pub record Bracket (l : List ℕ) (x lo hi : ℕ) : Type 0 where
  pub order : lo ≤ hi
  pub within : hi ≤ length l
  pub below : (i : ℕ) → i < lo → get_or l i 0 < x
  pub above : (i : ℕ) → hi ≤ i → i < length l → x ≤ get_or l i 0

pub bracket-whole : (l : List ℕ) (x : ℕ) → Bracket l x 0 (length l)
bracket-whole l x = record {
  order = omega arith;
  within = omega arith;
  below = λ i h. absurd (omega arith);
  above = λ i h h'. absurd (omega arith);
}

-- an element below x moves lo to the index after it, and one at or above x moves hi to it
pub bracket-up : {l : List ℕ} {x lo hi n : ℕ} → Ascending l → Bracket l x lo hi → (m : ℕ)
    → (m < hi) × (n ≡ m + 1) × (get_or l m 0 < x) → Bracket l x n hi
bracket-up {l} {x} up b m known = record {
  order = omega arith;
  within = b.within;
  below = λ i h. omega (arith, ascending-upto up i m (omega arith) (omega arith));
  above = b.above;
}

pub bracket-down : {l : List ℕ} {x lo hi n : ℕ} → Ascending l → Bracket l x lo hi → (m : ℕ)
    → (lo ≤ m) × (m < hi) × (n ≡ m) × (x ≤ get_or l m 0) → Bracket l x lo n
bracket-down {l} {x} up b m known = record {
  order = omega arith;
  within = omega arith;
  below = b.below;
  above = λ i h h'. omega (arith, ascending-upto up m i (omega arith) h');
}

-- Where the two meet is the count of the elements below x.
pub count-is : (l : List ℕ) (x n : ℕ) → Bracket l x n n → n ≡ count_below l x
unfolding count_below
count-is [] x n b = omega arith
count-is (a ∷ l) x zero b =
    rw (le-ltb a x (b.above 0 (omega arith) (omega arith)))
    (count-is l x zero (record {
      order = omega arith;
      within = omega arith;
      below = λ i h. absurd (omega arith);
      above = λ i h h'. b.above (suc i) (omega arith) (omega arith);
    }))
count-is (a ∷ l) x (suc n) b =
    rw (lt-ltb a x (b.below 0 (omega arith)))
    (ap suc
    (count-is l x n (record {
      order = omega arith;
      within = omega arith;
      below = λ i h. b.below (suc i) (omega arith);
      above = λ i h h'. b.above (suc i) (omega arith) (omega arith);
    })))

-- a split of a list, with one more element before it
front : (a : ℕ) (l : List ℕ) (x n : ℕ) → a < x → ((i : ℕ) → i < n → get_or l i 0 < x)
    → (i : ℕ) → i < suc n → get_or (a ∷ l) i 0 < x
front a l x n less below zero h = less
front a l x n less below (suc i) h = below i (omega arith)

behind : (a : ℕ) (l : List ℕ) (x n : ℕ) → ((i : ℕ) → n ≤ i → i < length l → x ≤ get_or l i 0)
    → (i : ℕ) → suc n ≤ i → i < length (a ∷ l) → x ≤ get_or (a ∷ l) i 0
behind a l x n above zero h h' = absurd (omega arith)
behind a l x n above (suc i) h h' = above i (omega arith) (omega arith)

split-count : (l : List ℕ) (x n : ℕ) → Bracket l x n n → Bracket l x (count_below l x) (count_below l x)
split-count l x n b = rw (← count-is l x n b) b

-- In an ascending list the count is where the elements below x end.
pub count-splits : (l : List ℕ) → Ascending l → (x : ℕ) → Bracket l x (count_below l x) (count_below l x)
count-splits [] up x = split-count [] x 0 (bracket-whole [] x)
count-splits (a ∷ l) up x = split (dec_lt a x) (count-splits l (ascending-rest up) x)
  where
    split : Dec (a < x) → Bracket l x (count_below l x) (count_below l x)
        → Bracket (a ∷ l) x (count_below (a ∷ l) x) (count_below (a ∷ l) x)
    split (yes less) b = split-count (a ∷ l) x (suc (count_below l x)) (record {
      order = omega arith;
      within = omega arith;
      below = front a l x _ less b.below;
      above = behind a l x _ b.above;
    })
    split (no more) b = split-count (a ∷ l) x 0 (record {
      order = omega arith;
      within = omega arith;
      below = λ i h. absurd (omega arith);
      above = λ i h h'. omega (arith, ascending-upto up 0 i (omega arith) h');
    })

-- Where an element is x and none before it is, there x stands.
pub place_at : (l : List ℕ) (x i : ℕ) → i < length l → get_or l i 0 ≡ x
    → ((j : ℕ) → j < i → get_or l j 0 ≡ x → ⊥) → Some i ≡ place_of l x
unfolding place_of
place_at [] x i within here first = absurd (omega arith)
place_at (a ∷ l) x zero within here first = rw (eq-eqb a x here)
place_at (a ∷ l) x (suc i) within here first =
    rw (ne_eqb a x (first 0 (omega arith)), ← place_at l x i (omega arith) here (λ j h. first (suc j) (omega arith)))

-- Where no element is x, it stands nowhere.
pub place_none : (l : List ℕ) (x : ℕ) → ((i : ℕ) → i < length l → get_or l i 0 ≡ x → ⊥) → None ≡ place_of l x
unfolding place_of
place_none [] x none = refl
place_none (a ∷ l) x none =
    rw (ne_eqb a x (none 0 (omega arith)), ← place_none l x (λ i h. none (suc i) (omega arith)))

-- In an ascending list no two elements are equal, so wherever an element is x, there x stands.
pub place_here : {l : List ℕ} {x i : ℕ} → Ascending l → (i < length l) × (get_or l i 0 ≡ x) → Some i ≡ place_of l x
place_here {l} {x} {i} up here =
    place_at l x i here.0 here.1 (λ j h e. omega (arith, ascending-below up j i h here.0))

-- Where the first element at or above x is another, or there is none, x stands nowhere.
pub place-past : {l : List ℕ} {x n : ℕ} → Ascending l → n ≡ count_below l x
    → (n < length l → get_or l n 0 ≡ x → ⊥) → None ≡ place_of l x
place-past {l} {x} {n} up count off = place_none l x (λ i h e. go i h e (dec_lt i n))
  where
    split : Bracket l x n n
    split = rw count (count-splits l up x)

    go : (i : ℕ) → i < length l → get_or l i 0 ≡ x → Dec (i < n) → ⊥
    go i h e (yes before) = omega (arith, split.below i before)
    go i h e (no from) =
        let least : x ≤ get_or l n 0 = split.above n (omega arith) (omega arith) in
        let upto : get_or l n 0 ≤ get_or l i 0 = ascending-upto up n i (omega arith) h in
        off (omega arith) (omega arith)

-- What an index tells: the element there is x, and where x stands nowhere no element is.
abbrev Told : List ℕ → ℕ → Option ℕ → Type 0
Told l x (Some i) = (i < length l) × (get_or l i 0 ≡ x)
Told l x None = (i : ℕ) → i < length l → get_or l i 0 ≡ x → ⊥

place-tells : (l : List ℕ) (x : ℕ) → Told l x (place_of l x)
unfolding place_of
place-tells [] x = λ i h e. absurd (omega arith)
place-tells (a ∷ l) x = go (eqb a x) refl (place_of l x) (place-tells l x)
  where
    off : eqb a x ≡ false → Told l x None → (i : ℕ) → i < length (a ∷ l) → get_or (a ∷ l) i 0 ≡ x → ⊥
    off test told zero h e = eqb-false a x test e
    off test told (suc i) h e = told i (omega arith) e

    go : (t : Bool) → eqb a x ≡ t → (p : Option ℕ) → Told l x p → Told (a ∷ l) x (cond t (Some 0) (option_map suc p))
    go true test p told = (omega arith, eqb-true a x test)
    go false test (Some i) told = (omega arith, told.1)
    go false test None told = off test told

pub place_found : (l : List ℕ) (x : ℕ) {p : Option ℕ} {i : ℕ} → p ≡ place_of l x → p ≡ Some i → (i < length l) × (get_or l i 0 ≡ x)
place_found l x place at = rw (← place, at) at (place-tells l x)

pub place-missing : (l : List ℕ) (x : ℕ) {p : Option ℕ} → p ≡ place_of l x → p ≡ None
    → (i : ℕ) → i < length l → get_or l i 0 ≡ x → ⊥
place-missing l x place at = rw (← place, at) at (place-tells l x)

-- Where an element is below x, all up to it are.
pub below-upto : {l : List ℕ} {x n : ℕ} → Ascending l → (m : ℕ) → (m < length l) × (n ≡ m + 1) × (get_or l m 0 < x) → Below l x n
below-upto {l} {x} {n} up m known = record {
  within = omega arith;
  below = λ i h. omega (arith, ascending-upto up i m (omega arith) (omega arith));
}

-- Where the element after them is at or above x, or there is none, they are all that are below x.
pub below_all : {l : List ℕ} {x n : ℕ} → Ascending l → Below l x n → (n < length l → x ≤ get_or l n 0) → n ≡ count_below l x
below_all {l} {x} {n} up b next = count-is l x n (record {
  order = omega arith;
  within = b.within;
  below = b.below;
  above = λ i h h'. omega (arith, next (omega arith), ascending-upto up n i h h');
})

-- What the library's searches give of an ascending list.
pub ascending-parted : {l : List ℕ} → Ascending l → (x : ℕ) → IsPartitionedBy (λ y. ltb y x) l
ascending-parted {l} up x = IsPartitionedBy-ltb (λ y. y) l x (IsNonDecreasingBy-from_default (λ y. y) l 0 (ascending-upto up))

pub point-count : (l : List ℕ) (x : ℕ) {n : ℕ} → n ≤ length l → IsPartitionPoint (λ y. ltb y x ≡ true) (λ y. ltb y x ≡ false) l n → n ≡ count_below l x
point-count l x {n} within point = count-is l x n (record {
  order = omega arith;
  within = within;
  below = λ i h. ltb-true _ _ (point.0 i 0 (omega arith) h);
  above = λ i h h'. ltb-false _ _ (point.1 i 0 h h');
})

pub place_searched : {l : List ℕ} → Ascending l → (x : ℕ) → (r : Result ℕ ℕ) → IsBinarySearchResult (λ y. nat_cmp y x) l r → result_ok r ≡ place_of l x
place_searched {l} up x r found = go r (searched l x r found (ascending-upto up))
  where
    go : (r : Result ℕ ℕ) → MatchResult r (λ i. (i < length l) × (get_or l i 0 ≡ x))
        (λ i. (i ≤ length l) × ((k : ℕ) → k < i → get_or l k 0 < x) × ((k : ℕ) → i ≤ k → k < length l → x < get_or l k 0))
        → result_ok r ≡ place_of l x
    go (Ok i) here = place_here up here
    go (Err i) apart = place_none l x (λ k h e. off k h e (dec_lt k i))
      where
        off : (k : ℕ) → k < length l → get_or l k 0 ≡ x → Dec (k < i) → ⊥
        off k h e (yes before) = omega (arith, apart.1 k before)
        off k h e (no from) = omega (arith, apart.2 k (omega arith) h)

-- A walk from where all are below x.
pub walked_to : {l : List ℕ} {x n i : ℕ} → Ascending l → Below l x n
    → MatchOption (Some i) (AllWithin (λ y. y < x) (drop n l) 0 (length (drop n l))) (λ j. (j < length (drop n l)) × HoldsAt (λ y. x ≤ y) (drop n l) j × AllWithin (λ y. y < x) (drop n l) 0 j)
    → n + i ≡ count_below l x
walked_to {l} {x} {n} {i} up b walk = below_all up all (λ h. rw get_or-drop at (walk.1 0))
  where
    here : i < length l - n
    here = rw length-drop at walk.0

    below : (k : ℕ) → k < n + i → Dec (k < n) → get_or l k 0 < x
    below k h (yes before) = b.below k before
    below k h (no from) =
        let back : n + (k - n) ≡ k = omega arith in
        rw back at (rw get_or-drop at (walk.2 (k - n) 0 (omega arith) (omega arith)))

    all : Below l x (n + i)
    all = record { within = omega (arith, here, b.within); below = λ k h. below k h (dec_lt k n) }

pub walked_through : {l : List ℕ} {x n : ℕ} → Ascending l → Below l x n → AllWithin (λ y. y < x) (drop n l) 0 (length (drop n l)) → length l ≡ count_below l x
walked_through {l} {x} {n} up b walk = below_all up all (λ h. absurd (omega arith))
  where
    below : (k : ℕ) → k < length l → Dec (k < n) → get_or l k 0 < x
    below k h (yes before) = b.below k before
    below k h (no from) =
        let back : n + (k - n) ≡ k = omega arith in
        rw back at (rw get_or-drop at (walk (k - n) 0 (omega arith) (rw length-drop (omega arith))))

    all : Below l x (length l)
    all = record { within = omega arith; below = λ k h. below k h (dec_lt k n) }
