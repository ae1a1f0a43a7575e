-- Written registers: how many were read, and one more.
use Prim.Native.Nat.{ℕ, zero, suc, ◌+◌}
use mathlib.Core.Path.{◌≡◌, refl, ap, sym}
use mathlib.Core.List.{List}
use lib.ListN.{set}
use native.Mathlib.Numerals.{add-one}
use Rattle.isa.specs.declared.Register.{Register}
use Rattle.sheet_field.specs.Field.{Place}
use Rattle.sheet_instruction.specs.Instruction.{RegisterReading}
use Rattle.sheet_instruction.specs.Instruction.{register_at, with_register, registers_from}

pub registers-count : (s : List ℕ) (p : Place) (k : ℕ) → (registers_from s p k).count ≡ k
unfolding registers_from with_register
registers-count s p zero = refl
registers-count s p (suc k) = rw (registers-count s p k, add-one)

pub registers_next : (s : List ℕ) (p : Place) (k : ℕ) → (register_at s (registers_from s p k).next).next ≡ (registers_from s p (k + 1)).next
unfolding registers_from with_register
registers_next s p k = rw add-one

pub registers-more : (s : List ℕ) (p : Place) (k : ℕ) {list : List Register} {q : Place} {r : RegisterReading}
    → list ≡ (registers_from s p k).list → q ≡ (registers_from s p k).next → r ≡ register_at s q
    → (set list k r.register ≡ (registers_from s p (k + 1)).list) × (r.next ≡ (registers_from s p (k + 1)).next)
unfolding registers_from with_register
registers-more s p k list-is q-is r-is =
    rw (add-one, r-is, q-is, list-is)
    (ap (λ (n : ℕ). set (registers_from s p k).list n (register_at s (registers_from s p k).next).register) (sym (registers-count s p k)), refl)
