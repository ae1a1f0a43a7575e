-- Instruction records, field by field in reading order.
use Rattle.std.specs.Prelude.{ℕ, zero, suc, ◌+◌, List, Bool, cond, not, ◌&&◌, ◌||◌, set, replicate, ltb, eqb, Option}
use Rattle.std.specs.Bool.{then_some}
use Rattle.refusal.specs.declared.Fault.TheVariants as fault
use Rattle.isa.specs.declared.Register.{Register}
use Rattle.isa.specs.declared.Operand.{Operand}
use Rattle.isa.specs.declared.Operand.TheVariants.{Absent, Reg, Imm, Mem}
use Rattle.isa.specs.declared.Mnemonic.{Mnemonic}
use Rattle.isa.specs.declared.Instruction.{Instruction}
use Rattle.isa.specs.FlagBits.{has_bit}
use Rattle.isa.specs.Mnemonics.{named}
use Rattle.isa.specs.Register.{well_formed}
use Rattle.isa.specs.Modelled.{at_fault}
use Rattle.sheet_field.specs.Field.{Place, FieldReading, field_at, start_of, judge, check_field, code_at, count_at}

-- what reading a register gives, and where reading has come to after it; so for the parts below
pub record RegisterReading : Type 0 where
  pub register : Register
  pub next : Place

-- A register: four bytes, for class, index, size and offset. Refusal 5, made at the offset byte and reported at the class byte, where it is of
-- class 1 and not well formed (S18, R13).
unfoldable pub register_at : List ℕ → Place → RegisterReading
register_at s p =
    let class = field_at 1 s p in
    let index = field_at 1 s class.next in
    let size = field_at 1 s index.next in
    let offset = field_at 1 s size.next in
    let it : Register = record { class = class.value; index = index.value; size = size.value; offset = offset.value } in
    record { register = it; next = judge (well_formed it) fault.Register (start_of p) offset.next }

-- an operand
pub record OperandReading : Type 0 where
  pub operand : Operand
  pub next : Place

-- An operand: code 0 and a register, 1 and an immediate of 8 bytes, or 2, memory, with nothing more (S17, R8, F18).
unfoldable pub operand_at : List ℕ → Place → OperandReading
operand_at s p =
    let kind = code_at 3 s p in
    let register = register_at s kind.next in
    let immediate = field_at 8 s kind.next in
    cond (eqb kind.value 0)
    (record { operand = Reg register.register; next = register.next })
    (cond (eqb kind.value 1)
    (record { operand = Imm immediate.value; next = immediate.next })
    (record { operand = Mem; next = kind.next }))

-- written registers: the first count of the list
pub record Registers : Type 0 where
  pub list : List Register
  pub count : ℕ
  pub next : Place

-- Written registers: one register more after those read so far.
unfoldable pub with_register : List ℕ → Registers → Registers
with_register s before =
    let r = register_at s before.next in
    record { list = set before.list before.count r.register; count = before.count + 1; next = r.next }

-- Written registers: after the first k of them, from an offset on. Where a list of eight is not full, the rest is nothing.
unfoldable pub registers_from : List ℕ → Place → ℕ → Registers
registers_from s p zero =
    record { list = replicate 8 (record { class = 0; index = 0; size = 0; offset = 0 }); count = 0; next = p }
registers_from s p (suc k) = with_register s (registers_from s p k)

-- The written registers: a count from 0 to 8, then each (S11).
unfoldable pub registers_at : List ℕ → Place → Registers
registers_at s p =
    let n = count_at 0 8 s p in
    registers_from s n.next n.value

-- A field is there only if its bit is set in the map. Without its list an instruction declares no register, without its flag byte no flag (S6, S15).
abbrev pub optional_registers : Bool → List ℕ → Place → Registers
optional_registers there s p = cond there (registers_at s p) (registers_from s p 0)

abbrev pub optional_operand : Bool → List ℕ → Place → OperandReading
optional_operand there s p = cond there (operand_at s p) (record { operand = Absent; next = p })

abbrev pub optional_field : Bool → List ℕ → Place → FieldReading
optional_field there s p = cond there (field_at 8 s p) (record { value = 0; next = p })

abbrev pub optional_code : Bool → ℕ → List ℕ → Place → FieldReading
optional_code there limit s p = cond there (code_at limit s p) (record { value = 0; next = p })

-- whether the bit of value `unit` (1, 2, 4, ..) stands in a map
abbrev pub bit_of : ℕ → ℕ → Bool
bit_of map unit = has_bit map unit

-- What a map may not have: bit 6 or 7; bit 0 together with bit 1; bit 3 without bit 2 (S13).
abbrev pub map_ok : ℕ → Bool
map_ok map = ltb map 64 && not (bit_of map 1 && bit_of map 2) && (not (bit_of map 8) || bit_of map 4)

-- The map byte; refusal 2, reported there, where it has what it may not (R9).
unfoldable pub map_at : List ℕ → Place → FieldReading
map_at s p =
    let f = field_at 1 s p in
    check_field (map_ok f.value) fault.Code (start_of p) f

-- The address; refusal 4, reported there, where it is not greater than the one before; the instruction that opens the sheet has none before it (S16, R12).
unfoldable pub address_at : Bool → ℕ → List ℕ → Place → FieldReading
address_at opens last s p =
    let f = field_at 8 s p in
    check_field (opens || ltb last f.value) fault.Address (start_of p) f

-- an instruction's head
pub record Head : Type 0 where
  pub map : ℕ
  pub address : ℕ
  pub mnemonic : Mnemonic
  pub target : Option ℕ
  pub next : Place

-- The map, the address, the mnemonic's number, below 35, and only with bit 0 the target, an address too (S6, S7, S22, S23, S24, R8).
unfoldable pub head_at : Bool → ℕ → List ℕ → Place → Head
head_at opens last s p =
    let map = map_at s p in
    let address = address_at opens last s map.next in
    let number = code_at 35 s address.next in
    let target = optional_field (bit_of map.value 1) s number.next in
    record {
      map = map.value;
      address = address.value;
      mnemonic = named number.value;
      target = then_some (bit_of map.value 1) target.value;
      next = target.next;
    }

-- an instruction's tail
pub record Tail : Type 0 where
  pub first : Operand
  pub second : Operand
  pub written : List Register
  pub count : ℕ
  pub flags : ℕ
  pub next : Place

-- With bit 2 the first operand, with bit 3 the second, with bit 4 the list of written registers, with bit 5 the byte of written flags, below 32
-- (S6, S9, S10, S11, S12, S14, R8).
unfoldable pub tail_at : ℕ → List ℕ → Place → Tail
tail_at map s p =
    let one = optional_operand (bit_of map 4) s p in
    let two = optional_operand (bit_of map 8) s one.next in
    let written = optional_registers (bit_of map 16) s two.next in
    let flags = optional_code (bit_of map 32) 32 s written.next in
    record { first = one.operand; second = two.operand; written = written.list; count = written.count; flags = flags.value; next = flags.next }

-- an instruction
pub record InstructionReading : Type 0 where
  pub instruction : Instruction
  pub next : Place

-- An instruction record. Bit 0 makes it a conditional branch, bit 1 call-like. Refusal 6, made at its last byte and reported at its first, where it is
-- modelled and at fault (S6, S7, S8, R2, R4, R17).
unfoldable pub instruction_at : Bool → ℕ → List ℕ → Place → InstructionReading
instruction_at opens last s p =
    let head = head_at opens last s p in
    let tail = tail_at head.map s head.next in
    let it : Instruction = record {
      address = head.address;
      mnemonic = head.mnemonic;
      target = head.target;
      call = bit_of head.map 2;
      first = tail.first;
      second = tail.second;
      written = tail.written;
      count = tail.count;
      flags = tail.flags;
    } in
    record { instruction = it; next = judge (not (at_fault it)) fault.Instruction (start_of p) tail.next }
