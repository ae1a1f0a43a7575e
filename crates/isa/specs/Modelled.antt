-- Which instructions are modelled (a term of the scope document), and which modelled ones are at fault.
use Rattle.std.specs.Prelude.{ℕ, Bool, true, false, not, ◌&&◌, ◌||◌, eqb}
use Rattle.isa.specs.declared.Operand.{Operand}
use Rattle.isa.specs.declared.Operand.TheVariants.{Absent, Reg, Imm, Mem}
use Rattle.isa.specs.declared.Unary.{Unary}
use Rattle.isa.specs.declared.Unary.TheVariants.{Inc, Dec, Neg}
use Rattle.isa.specs.declared.Mnemonic.{Mnemonic}
use Rattle.isa.specs.declared.Mnemonic.TheVariants.{Other, Carry, Mov, Not, TwoOperand, OneOperand, Jump, CountJump}
use Rattle.isa.specs.declared.Instruction.{Instruction}
use Rattle.isa.specs.FlagBits.{CF, PF, ZF, SF, OF, declares}

abbrev pub is_register : Operand → Bool
is_register Absent = false
is_register (Reg r) = true
is_register (Imm v) = false
is_register Mem = false

abbrev pub is_absent : Operand → Bool
is_absent Absent = true
is_absent (Reg r) = false
is_absent (Imm v) = false
is_absent Mem = false

-- Which operands a mnemonic is modelled with: `register` says that the first one is a register, `alone` that there is no
-- second. stc, clc, cmc take any; mov and add to test two; not and inc, dec, neg one (M6).
abbrev pub takes : Mnemonic → Bool → Bool → Bool
takes Other register alone = false
takes (Carry c) register alone = true
takes Mov register alone = register && not alone
takes Not register alone = register && alone
takes (TwoOperand op) register alone = register && not alone
takes (OneOperand op) register alone = register && alone
takes (Jump c) register alone = false
takes (CountJump c) register alone = false

-- Modelled: not call-like (a call, an indirect call, a syscall or an interrupt), and with such operands (M6).
abbrev pub modelled : Instruction → Bool
modelled i = not i.call && takes i.mnemonic (is_register i.first) (is_absent i.second)

-- Both operands are registers of class 1, and their sizes differ (R14).
abbrev pub sizes_differ : Operand → Operand → Bool
sizes_differ Absent b = false
sizes_differ (Reg x) Absent = false
sizes_differ (Reg x) (Reg y) = eqb x.class 1 && eqb y.class 1 && not (eqb x.size y.size)
sizes_differ (Reg x) (Imm v) = false
sizes_differ (Reg x) Mem = false
sizes_differ (Imm v) b = false
sizes_differ Mem b = false

-- A register outside class 1 (R15).
abbrev pub outside : Operand → Bool
outside Absent = false
outside (Reg x) = not (eqb x.class 1)
outside (Imm v) = false
outside Mem = false

-- Only mov may have one (R15).
abbrev pub is_mov : Mnemonic → Bool
is_mov Other = false
is_mov (Carry c) = false
is_mov Mov = true
is_mov Not = false
is_mov (TwoOperand op) = false
is_mov (OneOperand op) = false
is_mov (Jump c) = false
is_mov (CountJump c) = false

-- PF, ZF, SF and OF are declared (R16).
abbrev pub declares_result : ℕ → Bool
declares_result flags = declares flags PF && declares flags ZF && declares flags SF && declares flags OF

-- inc and dec declare these, neg declares CF too (R16).
abbrev pub declares_own : Unary → ℕ → Bool
declares_own Inc flags = declares_result flags
declares_own Dec flags = declares_result flags
declares_own Neg flags = declares_result flags && declares flags CF

-- inc, dec or neg leaves one of them out; nothing else must declare a flag (R16).
abbrev pub undeclared : Mnemonic → ℕ → Bool
undeclared Other flags = false
undeclared (Carry c) flags = false
undeclared Mov flags = false
undeclared Not flags = false
undeclared (TwoOperand op) flags = false
undeclared (OneOperand op) flags = not (declares_own op flags)
undeclared (Jump c) flags = false
undeclared (CountJump c) flags = false

-- A modelled instruction with one of these three faults (R14, R15, R16).
abbrev pub at_fault : Instruction → Bool
at_fault i =
    modelled i
    && (sizes_differ i.first i.second
    || not (is_mov i.mnemonic) && (outside i.first || outside i.second)
    || undeclared i.mnemonic i.flags)
