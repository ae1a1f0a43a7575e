-- Laws of slots.
use Prim.Native.Nat.{ℕ, zero, suc, ◌+◌, ◌/◌, ◌%◌, ◌≤◌, ◌<◌}
use mathlib.Core.Path.{◌≡◌, refl, ap}
use mathlib.Core.Bool.{cond, not}
use mathlib.Core.List.{List, [], ◌∷◌}
use native.Mathlib.Omega.{arith}
use native.Mathlib.Numerals.{add-one}
use lib.ListN.{length, get_or, set, drop, drop_of_length-le}
use lib.Dec.{eqb}
use borrow.Author.Tests.{ne_eqb}
use lib.Seq.{drop-cons}
use Rattle.std.specs.List.{count_by}
use Rattle.std.proofs.lemmas.List.Recursion.{is_count_by}
use Rattle.verdict.specs.declared.Reason.{Reason}
use Rattle.verdict.specs.declared.Reason.TheVariants.{Flags, EqualSides, Truth, UnsignedZero, ExactSides, Parity, Halves}
use Rattle.verdict.specs.declared.Verdict.{Verdict}
use Rattle.verdict.specs.Numbers.{reason_number}
use Rattle.verdict_lines.specs.Slots.{slot_of, kept_slot, kept, decided_of, decided_in, slot_line, lines_in}

-- the numbers of reasons are 1 to 7
pub reason-range : (r : Reason) → (0 < reason_number r) × (reason_number r ≤ 7)
reason-range Flags = (omega arith, omega arith)
reason-range EqualSides = (omega arith, omega arith)
reason-range Truth = (omega arith, omega arith)
reason-range UnsignedZero = (omega arith, omega arith)
reason-range ExactSides = (omega arith, omega arith)
reason-range Parity = (omega arith, omega arith)
reason-range Halves = (omega arith, omega arith)

pub reason-small : (r : Reason) → reason_number r ≤ 7
reason-small r = (reason-range r).1

pub small : {n : ℕ} (r : Reason) → n ≡ reason_number r → n ≤ 7
small r is = rw is (reason-small r)

-- a slot that is empty takes the verdict
pub kept_new : (slots : List ℕ) (number : ℕ) (v : Verdict) → get_or slots number 0 ≡ 0 → set slots number (slot_of v) ≡ kept slots number v
kept_new slots number v empty = rw empty

set_same : (l : List ℕ) (i : ℕ) → l ≡ set l i (get_or l i 0)
set_same [] i = refl
set_same (x ∷ l) zero = refl
set_same (x ∷ l) (suc i) = ap (λ (t : List ℕ). x ∷ t) (set_same l i)

pub first-stays : (x later : ℕ) → (x ≡ 0 → ⊥) → kept_slot x later ≡ x
first-stays zero later some = absurd (some refl)
first-stays (suc x) later some = refl

-- a slot that is not stays
pub kept_old : (slots : List ℕ) (number : ℕ) (v : Verdict) → (get_or slots number 0 ≡ 0 → ⊥) → slots ≡ kept slots number v
kept_old slots number v some = rw (first-stays (get_or slots number 0) (slot_of v) some) (set_same slots number)

pub decided-one : (x : ℕ) → (x ≡ 0 → ⊥) → decided_of x ≡ 1
decided-one zero some = absurd (some refl)
decided-one (suc x) some = refl

pub decided-few : (x : ℕ) → decided_of x ≤ 1
decided-few zero = omega arith
decided-few (suc x) = omega arith

pub decided-empty : (x : ℕ) → x ≡ 0 → decided_of x ≡ 0
decided-empty x none = rw none

-- from a number on: one slot more
pub decided-more : (slots : List ℕ) (i : ℕ) → i < length slots
    → decided_in (drop i slots) ≡ decided_of (get_or slots i 0) + decided_in (drop (i + 1) slots)
unfolding decided_in
decided-more slots i there = rw (add-one i, drop-cons slots i 0 there)

pub decided-past : (slots : List ℕ) (i : ℕ) → length slots ≤ i → decided_in (drop i slots) ≡ 0
unfolding decided_in
decided-past slots i out = rw (drop_of_length-le slots out)

-- the line of a slot that is not empty
pub slot-line : (site target x : ℕ) → (x ≡ 0 → ⊥)
    → slot_line site target x ≡ record { site = site; target = target; value = x % 2; reason = x / 2 } ∷ []
slot-line site target zero some = absurd (some refl)
slot-line site target (suc x) some = refl

-- there are as many lines as decided slots
pub lines-count : (sites targets slots : List ℕ) → length sites ≡ length slots → length targets ≡ length slots
    → length (lines_in sites targets slots) ≡ decided_in slots
unfolding lines_in decided_in
lines-count [] targets [] p q = refl
lines-count [] targets (x ∷ slots) p q = absurd (omega arith)
lines-count (s ∷ sites) [] [] p q = absurd (omega arith)
lines-count (s ∷ sites) [] (x ∷ slots) p q = absurd (omega arith)
lines-count (s ∷ sites) (t ∷ targets) [] p q = absurd (omega arith)
lines-count (s ∷ sites) (t ∷ targets) (zero ∷ slots) p q =
    let same = lines-count sites targets slots (omega arith) (omega arith) in omega arith
lines-count (s ∷ sites) (t ∷ targets) (suc x ∷ slots) p q =
    let more = lines-count sites targets slots (omega arith) (omega arith) in omega arith

-- the decided slots, as they are counted
pub counted : (slots : List ℕ) → decided_in slots ≡ count_by (λ x. not (eqb x 0)) slots
unfolding decided_in
counted slots = is_count_by decided_in (λ x. not (eqb x 0)) refl by slots
  where
    by : (x : ℕ) (rest : List ℕ) → decided_in (x ∷ rest) ≡ cond (not (eqb x 0)) (1 + decided_in rest) (decided_in rest)
    by zero rest = omega arith
    by (suc x) rest = rw (ne_eqb (suc x) 0 (λ z. absurd (omega arith)))
