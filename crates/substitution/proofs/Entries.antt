-- What is held, slot by slot: what stands where, what ends, and what is held instead.
use Prim.Native.Nat.{ℕ, zero, suc, ◌+◌, ◌*◌, ◌≤◌, ◌<◌}
use mathlib.Core.Path.{◌≡◌, refl, sym, ap, fun_ext, ◌∙◌}
use mathlib.Core.Bool.{Bool, true, false, cond, not, ◌&&◌, ◌||◌}
use mathlib.Core.List.{List, [], ◌∷◌}
use native.Mathlib.Decide.{dec_lt, ℕ_discrete}
use native.Mathlib.Omega.{arith}
use lib.Dec.{eqb, lit<}
use lib.ListN.{length, get_or, take, set, replicate}
use borrow.Author.Tests.{eq-eqb, ne_eqb, eqb-true, eqb-false}
use Rattle.expr.specs.Codes.{kind_variable}
use Rattle.expr.specs.Tree.{Expr, Wf, tree_of, tag_of, kind_of, argument_of}
use Rattle.expr.specs.Tree.Expr.{variable, constant, condition_true, condition_false, effect, load, cast, binary, ternary}
use Rattle.expr.specs.Scan.{any_node, plain_expr}
use Rattle.expr.proofs.Laws.{kind-of, argument-of, wf-two}
use Rattle.substitution.specs.declared.slot.Slot.{Slot}
use Rattle.substitution.specs.Substitution.{Entry, free, held, Table, nothing_held, entry_reads, kept, ended, holdable, entry_of, assigned}
use Rattle.substitution.specs.Held.{entry_in, table_in, ended_tag}

-- a record that is another variable whose held value ends
module _ (v : ℕ) (h : Table) (tag : ℕ) where
  pub ended-other : {k w : ℕ} {r : Bool} → k ≡ kind_of tag → k ≡ kind_variable → w ≡ argument_of tag → (w ≡ v → ⊥) → r ≡ entry_reads v (h w)
      → r ≡ ended_tag v h tag
  unfolding ended_tag
  ended-other {k} {w} {r} kind is number off reads-it =
      let kind-is : kind_of tag ≡ kind_variable = sym kind ∙ is in
      rw (eq-eqb (kind_of tag) kind_variable kind-is, ← number, ne_eqb w v off) reads-it

  pub ended-own : {k w : ℕ} → k ≡ kind_of tag → k ≡ kind_variable → w ≡ argument_of tag → w ≡ v → false ≡ ended_tag v h tag
  unfolding ended_tag
  ended-own {k} {w} kind is number same =
      let kind-is : kind_of tag ≡ kind_variable = sym kind ∙ is in
      rw (eq-eqb (kind_of tag) kind_variable kind-is, ← number, eq-eqb w v same)

  pub ended-none : {k : ℕ} → k ≡ kind_of tag → (k ≡ kind_variable → ⊥) → false ≡ ended_tag v h tag
  unfolding ended_tag
  ended-none {k} kind off = rw (ne_eqb (kind_of tag) kind_variable (λ z. off (kind ∙ z)))

variable-ended : (v : ℕ) (h : Table) (n : ℕ) → (not (eqb n v) && entry_reads v (h n)) ≡ ended_tag v h (0 + 16 * n)
unfolding ended_tag
variable-ended v h n = rw (kind-of 0 n (lit< tt), argument-of 0 n (lit< tt))

-- the tests of trees and of tags agree
pub ended-tag : (v : ℕ) (h : Table) (e : Expr) → ended v h e ≡ ended_tag v h (tag_of e)
unfolding ended tag_of
ended-tag v h (variable n) = variable-ended v h n
ended-tag v h (constant w x) = ended-none v h (1 + 16 * w) (sym (kind-of 1 w (lit< tt))) (omega arith)
ended-tag v h condition_true = ended-none v h 2 refl (omega arith)
ended-tag v h condition_false = ended-none v h 3 refl (omega arith)
ended-tag v h (effect t) = ended-none v h (4 + 16 * t) (sym (kind-of 4 t (lit< tt))) (omega arith)
ended-tag v h (load t a) = ended-none v h (5 + 16 * t) (sym (kind-of 5 t (lit< tt))) (omega arith)
ended-tag v h (cast t a) = ended-none v h (6 + 16 * t) (sym (kind-of 6 t (lit< tt))) (omega arith)
ended-tag v h (binary o a b) = ended-none v h (7 + 16 * o) (sym (kind-of 7 o (lit< tt))) (omega arith)
ended-tag v h (ternary c a b) = ended-none v h 8 refl (omega arith)

-- a value is held
pub holdable-by : (v : ℕ) (h : Table) (e : Expr) {a b : Bool} → a ≡ plain_expr e → b ≡ any_node (ended v h) e → (a && not b) ≡ holdable v h e
unfolding holdable
holdable-by v h e p q = rw (p, q)

-- what stands where
pub beyond : {n : ℕ} (slots : List (Slot n)) (v : ℕ) → length slots ≤ v → table_in slots v ≡ free
unfolding table_in
beyond [] v far = refl
beyond (s ∷ rest) zero far = absurd (omega arith)
beyond (s ∷ rest) (suc v) far = beyond rest v (omega arith)

pub there : {n : ℕ} (slots : List (Slot n)) (v : ℕ) (d : Slot n) → v < length slots → table_in slots v ≡ entry_in (get_or slots v d)
unfolding table_in
there [] v d below = absurd (omega arith)
there (s ∷ rest) zero d below = refl
there (s ∷ rest) (suc v) d below = there rest v d (omega arith)

all-free : {m : ℕ} (n : ℕ) (s : Slot m) → entry_in s ≡ free → (v : ℕ) → table_in (replicate n s) v ≡ free
unfolding table_in
all-free zero s none v = refl
all-free (suc n) s none zero = none
all-free (suc n) s none (suc v) = all-free n s none v

-- slots that hold nothing
pub none_held : {m : ℕ} (n : ℕ) (s : Slot m) → entry_in s ≡ free → table_in (replicate n s) ≡ nothing_held
none_held n s none = fun_ext (all-free n s none)

-- a slot that holds a tree
pub entry_held : (n : ℕ) (words ws : List ℕ) → Wf ws → n ≡ length ws → take (length ws) words ≡ ws → cond (eqb n 0) free (held (tree_of (take n words))) ≡ held (tree_of ws)
entry_held n words ws wf size is = rw (size, ne_eqb (length ws) 0 (λ z. omega (arith, wf-two ws wf)), is)

-- one slot is written
own-slot : {n : ℕ} (slots : List (Slot n)) (i : ℕ) (s : Slot n) → i < length slots → table_in (set slots i s) i ≡ entry_in s
unfolding table_in
own-slot [] i s below = absurd (omega arith)
own-slot (x ∷ rest) zero s below = refl
own-slot (x ∷ rest) (suc i) s below = own-slot rest i s (omega arith)

other_slot : {n : ℕ} (slots : List (Slot n)) (i : ℕ) (s : Slot n) (k : ℕ) → (k ≡ i → ⊥) → table_in (set slots i s) k ≡ table_in slots k
unfolding table_in
other_slot [] i s k off = refl
other_slot (x ∷ rest) zero s zero off = absurd (off refl)
other_slot (x ∷ rest) zero s (suc k) off = refl
other_slot (x ∷ rest) (suc i) s zero off = refl
other_slot (x ∷ rest) (suc i) s (suc k) off = other_slot rest i s k (λ z. off (ap suc z))

-- all that is held ends: the slots before i are free
pub record Clearing {n : ℕ} (slots : List (Slot n)) (i : ℕ) : Type 0 where
  pub done : (k : ℕ) → k < i → table_in slots k ≡ free

pub clear_more : {n : ℕ} {slots : List (Slot n)} {i : ℕ} (s : Slot n) → Clearing slots i → i < length slots → entry_in s ≡ free → Clearing (set slots i s) (i + 1)
clear_more {slots} {i} s c below none = record { done = λ k h. by k h (ℕ_discrete k i) }
  where
    by : (k : ℕ) → k < i + 1 → Dec (k ≡ i) → table_in (set slots i s) k ≡ free
    by k h (yes e) = rw e (own-slot slots i s below ∙ none)
    by k h (no off) = other_slot slots i s k off ∙ c.done k (omega arith)

pub clear_end : {n : ℕ} {slots : List (Slot n)} {i : ℕ} → Clearing slots i → length slots ≤ i → table_in slots ≡ nothing_held
clear_end {slots} {i} c end = fun_ext (λ k. by k (dec_lt k i))
  where
    by : (k : ℕ) → Dec (k < i) → table_in slots k ≡ free
    by k (yes h) = c.done k h
    by k (no far) = beyond slots k (omega arith)

kept_free : (v : ℕ) (h : Table) (k : ℕ) → h k ≡ free → kept v h k ≡ free
unfolding kept
kept_free v h k none = rw none (by (eqb k v))
  where
    by : (b : Bool) → cond (b || false) free free ≡ free
    by true = refl
    by false = refl

-- what an assignment to v ends, slot by slot: those before i are passed
pub record Ending (v : ℕ) (h : Table) {n : ℕ} (slots : List (Slot n)) (i : ℕ) : Type 0 where
  pub done : (k : ℕ) → k < i → table_in slots k ≡ kept v h k
  pub rest : (k : ℕ) → i ≤ k → table_in slots k ≡ h k

module _ {v : ℕ} {h : Table} {n : ℕ} {slots : List (Slot n)} {i : ℕ} (c : Ending v h slots i) where
  end_set : (s : Slot n) → i < length slots → entry_in s ≡ kept v h i → Ending v h (set slots i s) (i + 1)
  end_set s below is = record {
    done = λ k less. by k less (ℕ_discrete k i);
    rest = λ k more. other_slot slots i s k (λ e. omega arith) ∙ c.rest k (omega arith);
  }
    where
      by : (k : ℕ) → k < i + 1 → Dec (k ≡ i) → table_in (set slots i s) k ≡ kept v h k
      by k less (yes e) = rw e (own-slot slots i s below ∙ is)
      by k less (no off) = other_slot slots i s k off ∙ c.done k (omega arith)

  pub end_more : (d new : Slot n) → i < length slots
      → entry_in new ≡ cond (eqb i v || entry_reads v (entry_in (get_or slots i d))) free (entry_in (get_or slots i d)) → Ending v h (set slots i new) (i + 1)
  unfolding kept
  end_more d new below ends =
      let here : h i ≡ entry_in (get_or slots i d) = sym (c.rest i (omega arith)) ∙ there slots i d below in
      end_set new below (ends ∙ ap (λ (e : Entry). cond (eqb i v || entry_reads v e) free e) (sym here))

  pub end_all : length slots ≤ i → table_in slots ≡ kept v h
  unfolding kept
  end_all end = fun_ext (λ k. by k (dec_lt k i))
    where
      by : (k : ℕ) → Dec (k < i) → table_in slots k ≡ kept v h k
      by k (yes less) = c.done k less
      by k (no far) =
          let none : h k ≡ free = sym (c.rest k (omega arith)) ∙ beyond slots k (omega arith) in
          beyond slots k (omega arith) ∙ sym (kept_free v h k none)

-- the value is held, or it is not
pub assigned_held : (g : Table) (v : ℕ) (e : Expr) {n : ℕ} (slots : List (Slot n)) (s : Slot n) → table_in slots ≡ kept v g → v < length slots → entry_in s ≡ held e
    → holdable v g e ≡ true → table_in (set slots v s) ≡ assigned v e g
unfolding assigned
assigned_held g v e slots s before below is yes-held = fun_ext (λ w. by w (eqb w v) refl)
  where
    by : (w : ℕ) (t : Bool) → eqb w v ≡ t → table_in (set slots v s) w ≡ cond t (entry_of v g e) (kept v g w)
    by w true q = rw (eqb-true w v q, yes-held) (own-slot slots v s below ∙ is)
    by w false q = other_slot slots v s w (eqb-false w v q) ∙ ap (λ (t : Table). t w) before

pub assigned_free : (g : Table) (v : ℕ) (e : Expr) (t : Table) → t ≡ kept v g → holdable v g e ≡ false → t ≡ assigned v e g
unfolding assigned kept
assigned_free g v e t before not-held = before ∙ fun_ext (λ w. by w (eqb w v))
  where
    entry : entry_of v g e ≡ free
    entry = rw not-held

    by : (w : ℕ) (t : Bool) → cond (t || entry_reads v (g w)) free (g w) ≡ cond t (entry_of v g e) (cond (t || entry_reads v (g w)) free (g w))
    by w true = sym entry
    by w false = refl
