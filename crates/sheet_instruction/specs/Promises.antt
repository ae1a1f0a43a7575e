-- What the checks keep of a head and of a tail; and where both operands of a tail end.
use Rattle.std.specs.Prelude.{ℕ, List}
use Rattle.isa.specs.declared.Operand.{Operand}
use Rattle.sheet_field.specs.Field.{Place}
use Rattle.sheet_instruction.specs.declared.Head.{Head}
use Rattle.sheet_instruction.specs.declared.Tail.{Tail}
use Rattle.sheet_instruction.specs.Instruction as reading
use Rattle.sheet_instruction.specs.Instruction.{optional_operand, bit_of}

abbrev pub head_of : reading.Head → Head
head_of head = record { map = head.map; address = head.address; mnemonic = head.mnemonic }

-- without the written registers
abbrev pub tail_of : reading.Tail → Tail
tail_of tail = record { first = tail.first; second = tail.second; flags = tail.flags }

-- both operands, as `tail_at` has them
pub record OperandsReading : Type 0 where
  pub first : Operand
  pub second : Operand
  pub next : Place

abbrev pub operands_at : ℕ → List ℕ → Place → OperandsReading
operands_at map s p =
    let one = optional_operand (bit_of map 4) s p in
    let two = optional_operand (bit_of map 8) s one.next in
    record { first = one.operand; second = two.operand; next = two.next }
