-- The bits of an instruction's map by name.
use Rattle.std.specs.Prelude.{ℕ}
use Rattle.sheet_instruction.specs.declared.MapBit.{MapBit}
use Rattle.sheet_instruction.specs.declared.MapBit.TheVariants.{Target, Call, First, Second, Written, Flags}

-- The value of each: bit 0 stands for the target of a conditional branch, bit 1 for a call-like instruction, bits 2 and 3 for the operands, bit 4 for
-- the list of written registers, bit 5 for the byte of written flags (S6).
abbrev pub unit_of : MapBit → ℕ
unit_of Target = 1
unit_of Call = 2
unit_of First = 4
unit_of Second = 8
unit_of Written = 16
unit_of Flags = 32
