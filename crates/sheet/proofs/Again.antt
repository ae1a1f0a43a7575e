-- An instruction of a sheet, where the index says that it stands: its record is whole there too, and holds that instruction.
use Prim.Native.Nat.{ℕ, suc, ◌<◌}
use mathlib.Core.Path.{◌≡◌, sym}
use mathlib.Core.List.{List}
use mathlib.Core.Bool.{true}
use native.Mathlib.Omega.{arith}
use lib.Dec.{eqb}
use lib.ListN.{get_or}
use Rattle.std.specs.Prelude.{Ok, IsOk}
use Rattle.sheet_field.specs.Field.{start_of, WentOn, Place}
use Rattle.sheet_field.proofs.Counted.{back}
use Rattle.isa.specs.declared.Instruction.{Instruction}
use Rattle.sheet_instruction.specs.Instruction.{InstructionReading, instruction_at}
use Rattle.sheet_instruction.proofs.Accepted.{instruction-on}
use Rattle.sheet.specs.Sheet.{instructions_from}
use Rattle.sheet.proofs.Sections.{instructions-keep}
use Rattle.sheet.proofs.Fronts.{instructions-nth, places-nth}

module _ (s : List ℕ) (p : Place) (k j : ℕ) (on : WentOn (instructions_from s p k).next) (below : j < k) where
  -- where it was read
  here : InstructionReading
  here = instruction_at (eqb j 0) (instructions_from s p j).last s (instructions_from s p j).next

  here_on : WentOn here.next
  unfolding here instructions_from
  here_on = back (λ j. (instructions_from s p j).next) (instructions-keep s p) k (suc j) on.1 (omega (arith, below))

  again : instruction_at true 0 s (Ok (get_or (instructions_from s p k).places j 0)) ≡ here
  unfolding here
  again =
      let before = instructions_from s p j in
      let taken = instruction-on (eqb j 0) before.last s before.next here_on.1 in
      let stands : Ok (start_of before.next) ≡ before.next = rw taken.there in
      rw (places-nth s p k j below, stands) taken.again

  pub again-on : WentOn (instruction_at true 0 s (Ok (get_or (instructions_from s p k).places j 0))).next
  again-on = rw again here_on

  pub again-is : (none : Instruction) → (instruction_at true 0 s (Ok (get_or (instructions_from s p k).places j 0))).instruction ≡ get_or (instructions_from s p k).list j none
  unfolding here
  again-is none = rw again (sym (instructions-nth s p k j none below))

-- in other words
pub whole : {p : Place} → WentOn p → IsOk p
whole on = rw on.1
