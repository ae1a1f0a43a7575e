-- Loops that add to a running sum in a borrowed list: what is still due, added to the sum so far, is the whole sum.
use Prim.Native.Nat.{ℕ, ◌+◌, ◌-◌, ◌*◌, ◌≤◌, ◌<◌}
use mathlib.Core.Path.{◌≡◌, refl, sym, ap, ◌∙◌}
use mathlib.Core.Bool.{Bool, true, false, cond}
use mathlib.Core.List.{List, [], ◌∷◌}
use native.Mathlib.Nat.{mul-le-mul_right, suc-mul}
use native.Mathlib.Numerals.{add-one}
use native.Mathlib.Omega.{arith}
use lib.ListN.{length, get_or, take, drop, length-take}
use lib.Seq.{take-append_seam, drop-append-add, drop-drop, drop-cons, drop-length, length-take-le}
use lib.Dec.{ltb, eqb}
use lib.Bits.{bit_or}
use Rattle.search.specs.Ascending.{Ascending}
use Rattle.poly.specs.Terms.{toggle, sum, sum_times, sum_product, over, Written}
use Rattle.poly.proofs.Values.{ascending-toggle, ascending-times}

-- each term added makes a list longer by at most one
length-toggle : (t : ℕ) (l : List ℕ) → length (toggle t l) ≤ length l + 1
unfolding toggle
length-toggle t [] = omega arith
length-toggle t (x ∷ l) = go (ltb x t) (eqb x t) (length-toggle t l)
  where
    go : (lower same : Bool) → length (toggle t l) ≤ length l + 1
        → length (cond lower (x ∷ toggle t l) (cond same l (t ∷ x ∷ l))) ≤ length (x ∷ l) + 1
    go true same rest = omega arith
    go false true rest = omega arith
    go false false rest = omega arith

pub length-times : (l : List ℕ) (x : ℕ) (b : List ℕ) → length (sum_times l x b) ≤ length l + length b
unfolding sum_times
length-times l x [] = omega arith
length-times l x (y ∷ b) =
    omega (arith, length-times (toggle (bit_or x y) l) x b, length-toggle (bit_or x y) l)

-- The sum so far stands at the start of `new`, with at most `used` terms; `left`, which is that sum with all that is still
-- due, is the whole; from `room` on the list is as it was.
pub record Running (left whole old new : List ℕ) (n used room : ℕ) : Type 0 where
  pub due : left ≡ whole
  pub ordered : Ascending (take n new)
  pub few : n ≤ used
  pub long : length new ≡ length old
  pub beyond : drop room new ≡ drop room old

drop-further : (old new : List ℕ) (r room : ℕ) → r ≤ room → drop r new ≡ drop r old → drop room new ≡ drop room old
drop-further old new r room upto same =
    let all : r + (room - r) ≡ room = omega arith in
    rw all at (sym (drop-drop (room - r) r new) ∙ ap (λ (l : List ℕ). drop (room - r) l) same ∙ drop-drop (room - r) r old)

-- What toggling gives, as a list at the start.
drop-over : (t l : List ℕ) (room : ℕ) → length t ≤ room → drop room (over t l) ≡ drop room l
drop-over t l room upto =
    let all : length t + (room - length t) ≡ room = omega arith in
    rw all at (drop-append-add t (drop (length t) l) (room - length t) ∙ drop-drop (room - length t) (length t) l)

pub toggle-written : (old new : List ℕ) (n t m : ℕ) → n < length old
    → (m ≡ length (toggle t (take n old))) × (new ≡ over (toggle t (take n old)) old)
    → Written (toggle t (take n old)) m (n + 1) old new
toggle-written old new n t m room gave = record {
  count = gave.0;
  terms = rw (gave.0, gave.1) (take-append_seam (toggle t (take n old)) (drop (length (toggle t (take n old))) old));
  beyond = rw gave.1 (drop-over (toggle t (take n old)) old (n + 1) small);
}
  where
    small : length (toggle t (take n old)) ≤ n + 1
    small = omega (arith, length-toggle t (take n old), length-take-le n old (omega arith))

-- One more addition.
running-step : {left left' whole old new new' t : List ℕ} {n used room m used' r : ℕ} → Running left whole old new n used room
    → Written t m r new new' → length new' ≡ length new → r ≤ room → Ascending t → length t ≤ used' → left' ≡ left
    → Running left' whole old new' m used' room
running-step {old = old} {new = new} {new' = new'} {room = room} {r = r} run w long upto up few same = record {
  due = same ∙ run.due;
  ordered = rw w.terms up;
  few = omega (arith, w.count);
  long = long ∙ run.long;
  beyond = drop-further new new' r room upto w.beyond ∙ run.beyond;
}

-- at the end nothing is due
pub running-done : {whole old new : List ℕ} {n used room : ℕ} → Running (take n new) whole old new n used room
    → used ≤ room → room ≤ length old → Written whole n room old new
running-done {new = new} {n = n} run upto within = record {
  count = sym (length-take-le n new (omega (arith, run.few, run.long))) ∙ ap length run.due;
  terms = run.due;
  beyond = run.beyond;
}

-- x times each term of b: the first i are added
pub record Times (old new : List ℕ) (count x : ℕ) (b : List ℕ) (n i : ℕ) : Type 0 where
  pub within : i ≤ length b
  pub run : Running (sum_times (take n new) x (drop i b)) (sum_times (take count old) x b) old new n (count + i) (count + length b)

pub times_none : (l : List ℕ) (n x : ℕ) (b : List ℕ) → Ascending (take n l) → Times l l n x b n 0
times_none l n x b up = record {
  within = omega arith;
  run = record { due = refl; ordered = up; few = omega arith; long = refl; beyond = refl };
}

pub times_more : {old new new' b : List ℕ} {n count x i : ℕ} (m : ℕ) → Times old new count x b n i
    → i < length b → count + length b ≤ length old → length new' ≡ length new
    → (m ≡ length (toggle (bit_or x (get_or b i 0)) (take n new))) × (new' ≡ over (toggle (bit_or x (get_or b i 0)) (take n new)) new)
    → Times old new' count x b m (i + 1)
unfolding sum_times
times_more {old} {new} {new'} {b} {n} {count} {x} {i} m so_far less room long gave = record {
  within = omega arith;
  run = running-step run w long (omega (arith, run.few)) (ascending-toggle (bit_or x (get_or b i 0)) (take n new) run.ordered) small same;
}
  where
    run : Running (sum_times (take n new) x (drop i b)) (sum_times (take count old) x b) old new n (count + i) (count + length b)
    run = so_far.run

    fits : n < length new
    fits = omega (arith, so_far.run.few, so_far.run.long)

    w : Written (toggle (bit_or x (get_or b i 0)) (take n new)) m (n + 1) new new'
    w = toggle-written new new' n (bit_or x (get_or b i 0)) m fits gave

    small : length (toggle (bit_or x (get_or b i 0)) (take n new)) ≤ count + (i + 1)
    small = omega (arith, length-toggle (bit_or x (get_or b i 0)) (take n new), so_far.run.few, length-take-le n new (omega (arith, fits)))

    same : sum_times (take m new') x (drop (i + 1) b) ≡ sum_times (take n new) x (drop i b)
    same = rw (w.terms, drop-cons b i 0 less, add-one)

pub times-done : {old new b : List ℕ} {n count x i : ℕ} → Times old new count x b n i → length b ≤ i → count + length b ≤ length old
    → Written (sum_times (take count old) x b) n (count + length b) old new
unfolding sum_times
times-done {old} {new} {b} {n} {count} {x} {i} so_far end room =
    let all : i ≡ length b = omega (arith, so_far.within) in
    running-done (rw (all, drop-length b) at so_far.run) (omega arith) room

-- b times the constant one is b
pub times_one : (l b : List ℕ) → sum_times l 0 b ≡ sum l b
unfolding sum_times sum
times_one l [] = refl
times_one l (y ∷ b) = times_one (toggle y l) b

-- each term of a times each term of b: those of the first i terms of a are added
pub record Products (old new : List ℕ) (count : ℕ) (a b : List ℕ) (n i : ℕ) : Type 0 where
  pub within : i ≤ length a
  pub run : Running (sum_product (take n new) (drop i a) b) (sum_product (take count old) a b) old new n
      (count + i * length b) (count + length a * length b)

pub products-none : (l : List ℕ) (n : ℕ) (a b : List ℕ) → Ascending (take n l) → Products l l n a b n 0
products-none l n a b up = record {
  within = omega arith;
  run = record { due = refl; ordered = up; few = omega arith; long = refl; beyond = refl };
}

-- the pairs of one more term of a fit
pub row_room : (i k m : ℕ) → i < k → i * m + m ≤ k * m
row_room i k m less = omega (arith, suc-mul i m, mul-le-mul_right m less)

pub products-more : {old new new' a b : List ℕ} {n count i : ℕ} (m : ℕ) → Products old new count a b n i
    → i < length a → count + length a * length b ≤ length old → length new' ≡ length new
    → Written (sum_times (take n new) (get_or a i 0) b) m (n + length b) new new'
    → Products old new' count a b m (i + 1)
unfolding sum_product
products-more {old} {new} {new'} {a} {b} {n} {count} {i} m so_far less room long w = record {
  within = omega arith;
  run = running-step so_far.run w long (omega (arith, so_far.run.few, row))
      (ascending-times (take n new) (get_or a i 0) b so_far.run.ordered) small same;
}
  where
    row : i * length b + length b ≤ length a * length b
    row = row_room i (length a) (length b) less

    fits : n ≤ length new
    fits = omega (arith, so_far.run.few, so_far.run.long, row)

    next : (i + 1) * length b ≡ i * length b + length b
    next = rw add-one (suc-mul i (length b))

    small : length (sum_times (take n new) (get_or a i 0) b) ≤ count + (i + 1) * length b
    small = omega (arith, length-times (take n new) (get_or a i 0) b, so_far.run.few, length-take-le n new fits, next)

    same : sum_product (take m new') (drop (i + 1) a) b ≡ sum_product (take n new) (drop i a) b
    same = rw (w.terms, drop-cons a i 0 less, add-one)

pub products-done : {old new a b : List ℕ} {n count i : ℕ} → Products old new count a b n i → length a ≤ i
    → count + length a * length b ≤ length old
    → Written (sum_product (take count old) a b) n (count + length a * length b) old new
unfolding sum_product
products-done {old} {new} {a} {b} {n} {count} {i} so_far end room =
    let all : i ≡ length a = omega (arith, so_far.within) in
    running-done (rw (all, drop-length a) at so_far.run) (omega arith) room

-- For callers: what stands at the start fits the list, and ascends where the definition does.
pub written-fits : {t old new : List ℕ} {n room : ℕ} → Written t n room old new → n ≤ length new
written-fits {new = new} {n = n} w = omega (arith, w.count, ap length w.terms, length-take n new)

pub written-ordered : {t old new : List ℕ} {n room : ℕ} → Written t n room old new → Ascending t → Ascending (take n new)
written-ordered w up = rw w.terms up
