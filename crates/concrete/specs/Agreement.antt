-- Agreement: what is known of registers and flags is what they are.
use Rattle.std.specs.Prelude.{ℕ, ◌≡◌, Bool, true, false, List, [], ◌∷◌, Option, Some, None}
use Prim.{Unit}
use Rattle.isa.specs.declared.Operand.{Operand}
use Rattle.isa.specs.declared.Operand.TheVariants.{Absent, Reg, Imm, Mem}
use Rattle.isa.specs.declared.Instruction.{Instruction}
use Rattle.isa.specs.Register.{well_formed}
use Rattle.isa.specs.Modelled.{at_fault}
use Rattle.alu.specs.declared.Flags.{Flags}
use Rattle.machine.specs.declared.State.{State}
use Rattle.machine.specs.Registers.{whole_of}
use Rattle.concrete.specs.Concrete.{Status, Processor, value}

-- what is known of a flag or a register allows a value: that one alone, or where nothing is known any
abbrev pub Allows : {A : Type 0} → Option A → A → Type 0
Allows (Some x) y = x ≡ y
Allows None y = Unit {0}

pub record FlagsAgree (f : Flags) (g : Status) : Type 0 where
  pub cf : Allows f.cf g.cf
  pub pf : Allows f.pf g.pf
  pub zf : Allows f.zf g.zf
  pub sf : Allows f.sf g.sf
  pub of : Allows f.of g.of

-- Each known register's and each known flag's value is the concrete one; the rest is free, each of the others.
pub record Agrees (s : State) (p : Processor) : Type 0 where
  pub registers : (k : ℕ) → Allows (whole_of s k) (value p k)
  pub flags : FlagsAgree s.flags p.status

abbrev pub operand_well_formed : Operand → Bool
operand_well_formed Absent = true
operand_well_formed (Reg r) = well_formed r
operand_well_formed (Imm x) = true
operand_well_formed Mem = true

-- An instruction as reading accepts it: its registers of class 1 are well formed, and it is not at fault.
pub record Accepted (i : Instruction) : Type 0 where
  pub first : operand_well_formed i.first ≡ true
  pub second : operand_well_formed i.second ≡ true
  pub sound : at_fault i ≡ false

abbrev pub AllAccepted : List Instruction → Type 0
AllAccepted [] = Unit {0}
AllAccepted (i ∷ is) = Accepted i × AllAccepted is
