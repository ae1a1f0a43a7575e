-- Records of an accepted sheet, by the bytes and the offset. An accepted sheet's record is read as the first of a sheet: it has no address to be above.
use Rattle.std.specs.Prelude.{ℕ, List, true, IsOk, Ok}
use Rattle.isa.specs.declared.Instruction.{Instruction}
use Rattle.sheet_instruction.specs.Instruction.{instruction_at}

-- at this offset an instruction record was read whole
abbrev pub WasRead : List ℕ → ℕ → Type 0
WasRead s at = IsOk (instruction_at true 0 s (Ok at)).next

-- what it holds
abbrev pub recorded : List ℕ → ℕ → Instruction
recorded s at = (instruction_at true 0 s (Ok at)).instruction
