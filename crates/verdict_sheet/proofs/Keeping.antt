-- The slots after one verdict more.
use Prim.Native.Nat.{ℕ, zero, suc, ◌<◌}
use mathlib.Core.Path.{◌≡◌, refl, sym, ap₂, ◌∙◌}
use mathlib.Core.List.{List, [], ◌∷◌, ◌++◌, append-nil}
use mathlib.Core.Bool.{Bool, true, false, cond}
use native.Mathlib.Omega.{arith}
use lib.Dec.{eqb}
use lib.ListN.{length, get_or, length-map}
use borrow.Author.Tests.{eq-eqb, ne_eqb}
use Rattle.isa.specs.declared.Instruction.{Instruction}
use Rattle.verdict.specs.declared.Verdict.{Verdict}
use Rattle.verdict.specs.declared.Verdict.TheVariants.{Always, Never, Undecided, NoBranch}
use Rattle.std.specs.Prelude.{Option, Some, None}
use Rattle.search.specs.Ascending.{Ascending}
use Rattle.search.proofs.Laws.{ascending-below, ascending-rest}
use Rattle.sheet.specs.Index.{addresses_of}
use Rattle.verdict_lines.specs.Slots.{slot_of, kept_slot, kept}
use Rattle.verdict_lines.proofs.Decided.{first-stays}
use Rattle.verdict_sheet.specs.Said.{Said, saying, or_later, first_decided}
use Rattle.verdict_sheet.specs.Kept.{SiteIs, kept_at, HasSlot, slots_of}
use Rattle.verdict_sheet.proofs.Codes.{always-some, never-some}

kept-verdict : (v w : Verdict) → slot_of (or_later v w) ≡ kept_slot (slot_of v) (slot_of w)
kept-verdict (Always r) w = sym (first-stays _ (slot_of w) (always-some r))
kept-verdict (Never r) w = sym (first-stays _ (slot_of w) (never-some r))
kept-verdict Undecided w = refl
kept-verdict NoBranch w = refl

kept-alone : (v : Verdict) → slot_of (or_later v Undecided) ≡ slot_of v
kept-alone (Always r) = refl
kept-alone (Never r) = refl
kept-alone Undecided = refl
kept-alone NoBranch = refl

kept-three : (a b c : ℕ) → kept_slot a (kept_slot b c) ≡ kept_slot (kept_slot a b) c
kept-three zero b c = refl
kept-three (suc a) b c = refl

-- an address's slot after one verdict more
slot-more : (site : ℕ) (said : List Said) (x : Said)
    → slot_of (first_decided site (said ++ (x ∷ [])))
    ≡ cond (eqb x.site site) (kept_slot (slot_of (first_decided site said)) (slot_of x.verdict)) (slot_of (first_decided site said))
unfolding first_decided
slot-more site [] x = alone (eqb x.site site)
  where
    alone : (t : Bool) → slot_of (cond t (or_later x.verdict Undecided) Undecided) ≡ cond t (slot_of x.verdict) 0
    alone true = kept-alone x.verdict
    alone false = refl
slot-more site (y ∷ said) x = go (eqb y.site site) (eqb x.site site) (slot-more site said x)
  where
    go : (t u : Bool) → slot_of (first_decided site (said ++ (x ∷ []))) ≡ cond u (kept_slot (slot_of (first_decided site said)) (slot_of x.verdict)) (slot_of (first_decided site said))
        → slot_of (cond t (or_later y.verdict (first_decided site (said ++ (x ∷ [])))) (first_decided site (said ++ (x ∷ []))))
        ≡ cond u (kept_slot (slot_of (cond t (or_later y.verdict (first_decided site said)) (first_decided site said))) (slot_of x.verdict))
        (slot_of (cond t (or_later y.verdict (first_decided site said)) (first_decided site said)))
    go false u is = is
    go true true is =
        rw (kept-verdict y.verdict (first_decided site (said ++ (x ∷ []))), is, kept-verdict y.verdict (first_decided site said))
        (kept-three (slot_of y.verdict) (slot_of (first_decided site said)) (slot_of x.verdict))
    go true false is = rw (kept-verdict y.verdict (first_decided site (said ++ (x ∷ []))), is, kept-verdict y.verdict (first_decided site said))

module _ (said : List Said) where
  -- slots of other addresses stay
  others : (x : Said) (code : List Instruction) → ((j : ℕ) → j < length code → x.site ≡ get_or (addresses_of code) j 0 → ⊥)
      → slots_of code said ≡ slots_of code (said ++ (x ∷ []))
  unfolding slots_of addresses_of
  others x [] apart = refl
  others x (i ∷ code) apart =
      ap₂ (λ (h : ℕ) (t : List ℕ). h ∷ t)
      (sym (slot-more i.address said x ∙ rw (ne_eqb x.site i.address (apart 0 (omega arith)))))
      (others x code (λ j there. apart (suc j) (omega arith)))

  pub slots-more : (v : Verdict) (code : List Instruction) → Ascending (addresses_of code) → (k : ℕ) → k < length code
      → kept (slots_of code said) k v ≡ slots_of code (said ++ (record { site = get_or (addresses_of code) k 0; verdict = v } ∷ []))
  unfolding slots_of addresses_of
  slots-more v [] up k there = absurd (omega arith)
  slots-more v (i ∷ code) up zero there =
      ap₂ (λ (h : ℕ) (t : List ℕ). h ∷ t)
      (sym (slot-more i.address said (record { site = i.address; verdict = v }) ∙ rw (eq-eqb i.address i.address refl)))
      (others (record { site = i.address; verdict = v }) code
      (λ j below same. let lt = ascending-below up 0 (suc j) (omega arith) (rw length-map (omega arith)) in omega (arith, same, lt)))
  slots-more v (i ∷ code) up (suc k) there =
      let x : Said = record { site = get_or (addresses_of code) k 0; verdict = v } in
      let lt = ascending-below up 0 (suc k) (omega arith) (rw length-map (omega arith)) in
      ap₂ (λ (h : ℕ) (t : List ℕ). h ∷ t)
      (sym (slot-more i.address said x ∙ rw (ne_eqb x.site i.address (λ same. omega (arith, same, lt)))))
      (slots-more v code (ascending-rest up) k (omega arith))

pub slots_length : (code : List Instruction) (said : List Said) → length (slots_of code said) ≡ length code
unfolding slots_of
slots_length code said = rw length-map

-- a record's verdict is kept at its branch, if it has one
module _ (code : List Instruction) (up : Ascending (addresses_of code)) (v : Verdict) (said : List Said) where
  pub keep-saying : (at : Option ℕ) (site : Option ℕ) {slots after : List ℕ} → SiteIs code at site → after ≡ kept_at slots at v → slots ≡ slots_of code said
      → after ≡ slots_of code (said ++ saying site v)
  keep-saying (Some k) site there after_is is = rw (there.1, after_is, is) (slots-more said v code up k there.0)
  keep-saying None site there after_is is = rw (there, after_is, is, append-nil)

pub has-slot : (code : List Instruction) (at : Option ℕ) (site : Option ℕ) (slots : List ℕ) → SiteIs code at site → length slots ≡ length code → HasSlot slots at
has-slot code (Some k) site slots there long = rw long there.0
has-slot code None site slots there long = tt

pub slot-there : (code : List Instruction) (site : Option ℕ) (at : Option ℕ) {k : ℕ} → SiteIs code at site → at ≡ Some k → k < length code
slot-there code site at {k} there is = let found : SiteIs code (Some k) site = rw is at there in found.0

-- a block's verdict, where it has a branch and where it has none
module _ (code : List Instruction) {addresses : List ℕ} (up : Ascending addresses) (are : addresses ≡ addresses_of code) (said : List Said) (site : Option ℕ) (w : Verdict)
    (at : Option ℕ) {slots after : List ℕ} (there : SiteIs code at site) (is : slots ≡ slots_of code said) where
  pub block-kept : {k : ℕ} {v : Verdict} → at ≡ Some k → v ≡ w → after ≡ kept slots k v → after ≡ slots_of code (said ++ saying site w)
  block-kept {k} at-is v-is after_is =
      keep-saying code (rw (← are) up) w said (Some k) site (rw at-is at there) (rw (← v-is) after_is) is

  pub block-silent : at ≡ None → after ≡ slots → after ≡ slots_of code (said ++ saying site w)
  block-silent at-is after_is = keep-saying code (rw (← are) up) w said None site (rw at-is at there) after_is is
