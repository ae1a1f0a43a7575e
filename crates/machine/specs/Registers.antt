-- What is known of registers, each as a whole, and of flags, each by itself; reads, writes and forgetting.
use Rattle.std.specs.Prelude.{ℕ, zero, suc, min, cond, List, get_or, replicate, ltb, eqb, Option, None}
use Rattle.isa.specs.declared.Register.{Register}
use Rattle.isa.specs.declared.Operand.{Operand}
use Rattle.isa.specs.declared.Operand.TheVariants.{Absent, Reg, Imm, Mem}
use Rattle.isa.specs.declared.Instruction.{Instruction}
use Rattle.alu.specs.Width.{width_of}
use Rattle.known.specs.declared.Slot.{Slot}
use Rattle.known.specs.Registers.{unmarked, contents, part_of, with_part}
use Rattle.known.specs.Operations.{no_flags, immediate, forget_flags}
use Rattle.machine.specs.declared.State.{State}
use Rattle.machine.specs.States.{register_count, replaced, with_flags, no_register}

-- At the start nothing is known: of sixteen registers, nor of the five flags, each of which is known by itself (M3, M4).
unfoldable pub nothing_known : State
nothing_known = record { registers = replicate register_count unmarked; flags = no_flags }

-- What is known of the register of that index: there are sixteen registers; an index from 16 on,
-- which no well-formed register has, names none (M2).
unfoldable pub slot_at : State → ℕ → Slot
slot_at s index =
    cond (ltb index register_count) (get_or s.registers index unmarked) unmarked

-- its value, whole (M2)
abbrev pub whole_of : State → ℕ → Option ℕ
whole_of s index = contents (slot_at s index)

-- A read of a register: of class 1, the part that its size and offset name; of another class nothing is known (M2).
unfoldable pub read_of : State → Register → Option ℕ
read_of s r =
    cond (eqb r.class 1) (part_of (width_of r.size) r.offset (slot_at s r.index)) None

-- A write of a register of class 1; to one of another class it changes nothing (M7, M8, M9).
unfoldable pub written : State → Register → Option ℕ → State
written s r v =
    cond (eqb r.class 1)
    (replaced s r.index (with_part (width_of r.size) r.offset (slot_at s r.index) v))
    s

-- An operand's value: a register's where known; an immediate's, truncated to the size of the instruction's register; memory is
-- unknown (M25).
unfoldable pub operand_of : State → ℕ → Operand → Option ℕ
operand_of s size Absent = None
operand_of s size (Reg r) = read_of s r
operand_of s size (Imm x) = immediate (width_of size) x
operand_of s size Mem = None

-- A register that is declared as written is forgotten whole (M17).
unfoldable pub forget_register : State → Register → State
forget_register s r = cond (eqb r.class 1) (replaced s r.index unmarked) s

-- The first k of the registers that are declared as written are forgotten, one after the other (M17).
unfoldable pub forget_registers : State → List Register → ℕ → State
forget_registers s rs zero = s
forget_registers s rs (suc k) = forget_register (forget_registers s rs k) (get_or rs k no_register)

-- The registers and flags that an instruction declares are forgotten; it has space for eight registers (M17).
unfoldable pub forgotten : State → Instruction → State
forgotten s i =
    let after = forget_registers s i.written (min i.count 8) in
    with_flags after (forget_flags i.flags after.flags)
