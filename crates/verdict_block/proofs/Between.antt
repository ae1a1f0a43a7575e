-- Laws of stepping over a range of instructions.
use Rattle.std.proofs.Common.{Option, None}
use Rattle.std.specs.Prelude.{is_some}
use Rattle.std.specs.Bool.{then_some}
use Prim.Native.Nat.{ℕ, ◌+◌, ◌≤◌, ◌<◌}
use mathlib.Core.Path.{◌≡◌, refl, ap, sym, ◌∙◌}
use mathlib.Core.Bool.{Bool, false}
use mathlib.Core.List.{List, [], ◌∷◌, ◌++◌}
use native.Mathlib.Omega.{arith}
use native.Mathlib.Numerals.{add-one}
use lib.ListN.{length, get_or, take, length-take, drop_of_length-le}
use lib.Seq.{slice, slice-cons, length-take-le, take-suc, drop-append-le}
use Rattle.isa.specs.declared.Mnemonic.{Mnemonic}
use Rattle.isa.specs.declared.Instruction.{Instruction}
use Rattle.machine.specs.declared.State.{State}
use Rattle.machine.specs.Rules.{stepped, stepped_all}
use Rattle.sheet.specs.Index.{branches_of}
use Rattle.sheet.proofs.Fronts.{one, map_at}
use Rattle.verdict_block.specs.Verdict.{preceded, apart, jump_of, end_from}
use Rattle.verdict_block.specs.Verdict.Parts.{none, ending}

-- a list with one instruction more ends in it
apart-last : (l : List Instruction) (x : Instruction) → apart (l ++ (x ∷ [])) ≡ ending l x
unfolding apart
apart-last [] x = refl
apart-last (i ∷ l) x = ap (preceded i) (apart-last l x)

module _ (l : List Instruction) where
  pub none_left : (i end : ℕ) → end ≤ i → slice i end l ≡ []
  none_left i end out = drop_of_length-le (take end l) (short out)
    where
      short : end ≤ i → length (take end l) ≤ i
      short h = rw length-take (omega arith)

  -- one instruction
  pub between_step : (i end : ℕ) {x : Instruction} (before : State) {after : State} → i < end → end ≤ length l
      → ((d : Instruction) → x ≡ get_or l i d) → after ≡ stepped before x
      → stepped_all before (slice i end l) ≡ stepped_all after (slice (i + 1) end l)
  unfolding stepped_all
  between_step i end {x} before below fits x-is after_is = rw (add-one i, after_is, slice-cons i end l x below fits, ← x-is x)

  -- none is left
  pub between_done : (i end : ℕ) (state : State) → end ≤ i → stepped_all state (slice i end l) ≡ state
  unfolding stepped_all
  between_done i end state out = rw (none_left i end out)

  pub apart_none : (i end : ℕ) → end ≤ i → apart (slice i end l) ≡ none
  unfolding apart
  apart_none i end out = rw (none_left i end out)

  pub end_none : (i end : ℕ) (start : State) → end ≤ i → record { known = start; jump = None } ≡ end_from start (slice i end l)
  unfolding end_from
  end_none i end start out = rw (apart_none i end out)

  pub snoc-at : (first last : ℕ) (d : Instruction) → first ≤ last → last < length l → slice first (last + 1) l ≡ slice first last l ++ (get_or l last d ∷ [])
  snoc-at first last d order fits =
      let within : first ≤ length (take last l) = rw (length-take-le last l (omega arith)) order in
      rw (add-one last, take-suc l last d fits) (drop-append-le first (take last l) (get_or l last d ∷ []) within)

  pub apart-between : (first last end : ℕ) (d : Instruction) → first < end → last + 1 ≡ end → end ≤ length l
      → apart (slice first end l) ≡ ending (slice first last l) (get_or l last d)
  apart-between first last end d below last-is fits =
      rw (← last-is, snoc-at first last d (omega arith) (omega arith)) (apart-last (slice first last l) (get_or l last d))

  -- the last one
  pub end-last : (first last end : ℕ) (start : State) {state : State} {jump : Option Mnemonic} → first < end → last + 1 ≡ end
      → end ≤ length l → state ≡ stepped_all start (slice first last l) → ((d : Instruction) → jump ≡ jump_of (get_or l last d))
      → record { known = state; jump = jump } ≡ end_from start (slice first end l)
  unfolding end_from
  end-last first last end start below last-is fits state-is jump-is =
      let d = one l last (omega (arith, last-is, fits)) in
      rw (apart-between first last end d below last-is fits, state-is, ← jump-is d)

  -- what a verdict asks for of it
  module _ (number : ℕ) (there : number < length l) {mark : Bool} (mark-is : mark ≡ get_or (branches_of l) number false) where
    marked : (d : Instruction) → is_some (get_or l number d).target ≡ mark
    unfolding branches_of
    marked d = sym (map_at (λ (i : Instruction). is_some i.target) l number d false there) ∙ sym mark-is

    pub jump-there : {m : Mnemonic} → ((d : Instruction) → m ≡ (get_or l number d).mnemonic) → (d : Instruction) → then_some mark m ≡ jump_of (get_or l number d)
    jump-there mnemonic d = rw (marked d, ← mnemonic d)
