-- What an instruction leaves known. The rules of machine and blocks in the order of the claims, with what renders each:
--   registers known whole, flags singly      known/specs/Registers.antt contents, part_of; Registers slot_at (M2, M3)
--   all start unknown                        Registers nothing_known (M4)
--   call-like instructions                   stepped (M5)
--   what is modelled                         isa/specs/Modelled.antt takes, modelled (M6)
--   writes of 32, 16 and 8 bits, unknown ones   known/specs/Values.antt merged; Registers written (M7, M8, M9)
--   results wrap; PF                         alu/specs/Arithmetic.antt result_of, even_parity (M10, M11)
--   a register with itself                   same_register; known/specs/Operations.antt is_idiom, of_itself (M12)
--   an unknown operand                       known/specs/Operations.antt of_unknown (M13, M14)
--   inc, dec, neg of an unknown register     unary_unknown; known/specs/Operations.antt unknown_carry (M15, M16)
--   all else                                 Registers forgotten; known/specs/Operations.antt forget_flags (M17)
--   jumps                                    Conditions condition_of; known/specs/Conditions.antt flag_condition, is_zero (M18, M19, M20)
--   forced; blocks; runs                     theorems/specs/Runs.antt; verdict_block/specs; concrete/specs
--                                            (M21, M22, M23, M24, M25, M26, M27, M28, M29, M30)
use Rattle.std.specs.Prelude.{Bool, true, false, cond, ◌&&◌, List, [], ◌∷◌, eqb, ℕ, Option, Some, None}
use Rattle.isa.specs.declared.Register.{Register}
use Rattle.isa.specs.declared.Operand.{Operand}
use Rattle.isa.specs.declared.Operand.TheVariants.{Absent, Reg, Imm, Mem}
use Rattle.isa.specs.declared.CarryChange.{CarryChange}
use Rattle.isa.specs.declared.Binary.{Binary}
use Rattle.isa.specs.declared.Binary.TheVariants.{Add, Sub, Cmp, And, Or, Xor, Test}
use Rattle.isa.specs.declared.Unary.{Unary}
use Rattle.isa.specs.declared.Mnemonic.{Mnemonic}
use Rattle.isa.specs.declared.Mnemonic.TheVariants.{Other, Carry, Mov, Not, TwoOperand, OneOperand, Jump, CountJump}
use Rattle.isa.specs.declared.Instruction.{Instruction}
use Rattle.isa.specs.Modelled.{modelled}
use Rattle.alu.specs.Width.{width_of}
use Rattle.known.specs.Operations.{carry_rule, complement, arith_effect, with_carry, unknown_carry, unary_effect}
use Rattle.machine.specs.declared.State.{State}
use Rattle.machine.specs.States.{with_flags}
use Rattle.machine.specs.Registers.{nothing_known, read_of, written, operand_of, forgotten}
use Rattle.machine.specs.Finish.{finished}

-- stc, clc, cmc: CF alone
unfoldable pub carry_step : State → CarryChange → State
carry_step s c = with_flags s (with_carry s.flags (carry_rule c s.flags.cf))

-- all but cmp and test write their result
abbrev pub writes : Binary → Bool
writes Add = true
writes Sub = true
writes Cmp = false
writes And = true
writes Or = true
writes Xor = true
writes Test = false

-- The operand is that very register: class, index, size and offset (M12).
abbrev pub same_register : Register → Operand → Bool
same_register d Absent = false
same_register d (Reg r) =
    eqb r.class d.class && eqb r.index d.index && eqb r.size d.size && eqb r.offset d.offset
same_register d (Imm x) = false
same_register d Mem = false

-- add to test, with a register first (M12, M13, M14)
unfoldable pub arith_step : State → Binary → Register → Operand → State
arith_step s op d o =
    finished s (writes op) d
    (arith_effect op (width_of d.size) (same_register d o) (read_of s d) (operand_of s d.size o))

-- inc, dec, neg of an unknown register: what is declared is forgotten, but inc and dec keep CF; neg forgets it (M15, M16).
unfoldable pub unary_unknown : State → Instruction → Unary → State
unary_unknown s i op =
    let after = forgotten s i in
    with_flags after (with_carry after.flags (unknown_carry op s.flags.cf))

-- inc, dec, neg by what is known of the register
abbrev pub unary_on : State → Instruction → Unary → Register → Option ℕ → State
unary_on s i op d (Some a) = finished s true d (unary_effect op (width_of d.size) s.flags.cf a)
unary_on s i op d None = unary_unknown s i op

-- inc, dec, neg of a register (M15, M16)
unfoldable pub unary_step : State → Instruction → Unary → Register → State
unary_step s i op d = unary_on s i op d (read_of s d)

-- With a register first: mov writes what the operand has, not the complement; then add to test, and inc, dec, neg. No other
-- mnemonic is modelled so, and forgets what it declares (M6, M17).
unfoldable pub register_step : State → Instruction → Mnemonic → Register → State
register_step s i Other d = forgotten s i
register_step s i (Carry c) d = forgotten s i
register_step s i Mov d = written s d (operand_of s d.size i.second)
register_step s i Not d = written s d (complement (read_of s d))
register_step s i (TwoOperand op) d = arith_step s op d i.second
register_step s i (OneOperand op) d = unary_step s i op d
register_step s i (Jump c) d = forgotten s i
register_step s i (CountJump c) d = forgotten s i

-- Without one nothing is modelled but stc, clc, cmc (M6, M17).
abbrev pub on_first : State → Instruction → Mnemonic → Operand → State
on_first s i m Absent = forgotten s i
on_first s i m (Reg d) = register_step s i m d
on_first s i m (Imm x) = forgotten s i
on_first s i m Mem = forgotten s i

-- A modelled instruction: stc, clc, cmc whatever their operands, the others by their first operand (M6).
unfoldable pub modelled_step : State → Instruction → Mnemonic → State
modelled_step s i Other = forgotten s i
modelled_step s i (Carry c) = carry_step s c
modelled_step s i Mov = on_first s i Mov i.first
modelled_step s i Not = on_first s i Not i.first
modelled_step s i (TwoOperand op) = on_first s i (TwoOperand op) i.first
modelled_step s i (OneOperand op) = on_first s i (OneOperand op) i.first
modelled_step s i (Jump c) = forgotten s i
modelled_step s i (CountJump c) = forgotten s i

-- Call-like instructions forget all; modelled ones go by their rules; all else forgets what it declares (M5, M6, M17).
unfoldable pub stepped : State → Instruction → State
stepped s i = cond i.call nothing_known (cond (modelled i) (modelled_step s i i.mnemonic) (forgotten s i))

-- what is known after instructions in order (M23)
unfoldable pub stepped_all : State → List Instruction → State
stepped_all s [] = s
stepped_all s (i ∷ is) = stepped_all (stepped s i) is
