-- An instruction of an accepted sheet: inc, dec and neg declare their flags.
use Prim.Native.Nat.{ℕ, ◌<◌}
use mathlib.Core.Path.{◌≡◌, refl, sym, ap, ◌∙◌}
use mathlib.Core.Bool.{Bool, true, false, not, ◌&&◌, ◌||◌}
use mathlib.Core.List.{List}
use lib.ListN.{length, get_or}
use Rattle.std.specs.Prelude.{Ok}
use Rattle.isa.specs.declared.Instruction.{Instruction}
use Rattle.isa.specs.Modelled.{modelled, sizes_differ, outside, is_mov, undeclared, at_fault}
use Rattle.laws.proofs.Booleans.{or_right}
use Rattle.sheet_instruction.proofs.Accepted.{instruction-on}
use Rattle.sheet.specs.declared.Sheet.{Sheet}
use Rattle.sheet.specs.Sheet.{sheet_at, reading_of}
use Rattle.sheet.proofs.ByNumber.{nth-instruction-on, nth-instruction-is}

last-fault : (is a b : Bool) → (is && (a || b)) ≡ false → (is && b) ≡ false
last-fault true a b h = or_right a b h
last-fault false a b h = refl

module _ (s : List ℕ) (sheet : Sheet) (read : reading_of s ≡ Ok sheet) (number : ℕ) {places : List ℕ}
    (places-are : places ≡ (sheet_at s).instructions.places) (below : number < length places) where
  pub declared-there : {x : Instruction} → ((d : Instruction) → x ≡ get_or (sheet_at s).instructions.list number d)
      → (modelled x && undeclared x.mnemonic x.flags) ≡ false
  declared-there {x} is =
      let there = nth-instruction-on s sheet read number places-are below in
      let same = is x ∙ sym (nth-instruction-is s sheet read number places-are below refl x) in
      let sound : at_fault x ≡ false = ap at_fault same ∙ (instruction-on true 0 s _ there.1).sound in
      last-fault (modelled x)
      (sizes_differ x.first x.second || not (is_mov x.mnemonic) && (outside x.first || outside x.second))
      (undeclared x.mnemonic x.flags) sound
