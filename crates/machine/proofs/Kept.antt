-- A change of registers leaves the flags as they are.
use Prim.Native.Nat.{ℕ, zero, suc}
use mathlib.Core.Path.{◌≡◌, refl, ◌∙◌}
use mathlib.Core.List.{List}
use lib.ListN.{get_or}
use Rattle.isa.specs.declared.Register.{Register}
use Rattle.std.proofs.Common.{Option, arith}
use Rattle.known.specs.declared.Slot.{Slot}
use Rattle.machine.specs.declared.State.{State}
use Rattle.machine.specs.States.{replaced, no_register}
use Rattle.machine.specs.Registers.{written, forget_register, forget_registers}

pub replaced-flags : (s : State) (index : ℕ) (slot : Slot) → (replaced s index slot).flags ≡ s.flags
unfolding replaced
replaced-flags s index slot = grind arith

pub written-flags : (s : State) (r : Register) (v : Option ℕ) → (written s r v).flags ≡ s.flags
unfolding written
written-flags s r v = grind (arith, replaced-flags)

pub forget-flags : (s : State) (r : Register) → (forget_register s r).flags ≡ s.flags
unfolding forget_register
forget-flags s r = grind (arith, replaced-flags)

pub forgetting-flags : (s : State) (rs : List Register) (n : ℕ) → (forget_registers s rs n).flags ≡ s.flags
unfolding forget_registers
forgetting-flags s rs zero = refl
forgetting-flags s rs (suc n) = forget-flags (forget_registers s rs n) (get_or rs n no_register) ∙ forgetting-flags s rs n
