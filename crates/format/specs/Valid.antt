-- When instructions and blocks are valid.
use Rattle.std.specs.Prelude.{◌^◌, ◌<◌, ◌≤◌, ◌≡◌, ◌⊎◌, List, [], ◌∷◌, false, true, length}
use Rattle.isa.specs.declared.Register.{Register}
use Rattle.sheet.specs.declared.Block.{Block}
use Rattle.sheet_bytes.specs.Write.{is_there, WhereThere, All}
use Rattle.format.specs.Syntax.{Operand, Instruction}
use Rattle.format.specs.Syntax.Operand.{reg, imm, mem}
use Rattle.format.specs.Faults.{Modelled, Sound}

-- at offset 0: a size of 8, 16, 32 or 64 bits (S19)
pub record FromZero (r : Register) : Type 0 where
  pub offset : r.offset ≡ 0
  pub size : (r.size ≡ 8) ⊎ ((r.size ≡ 16) ⊎ ((r.size ≡ 32) ⊎ (r.size ≡ 64)))

-- at offset 8: 8 bits of one of the first four registers (S19)
pub record SecondByte (r : Register) : Type 0 where
  pub offset : r.offset ≡ 8
  pub size : r.size ≡ 8
  pub index : r.index ≤ 3

-- A register of class 1: an index from 0 to 15, and one of those two. (S19)
pub record ClassOne (r : Register) : Type 0 where
  pub index : r.index ≤ 15
  pub part : FromZero r ⊎ SecondByte r

-- A register: four bytes, and if the class is 1 well formed; other classes hold anything. (S18, S19, S20)
pub record ValidRegister (r : Register) : Type 0 where
  pub class : r.class < 256
  pub index : r.index < 256
  pub size : r.size < 256
  pub offset : r.offset < 256
  pub well_formed : r.class ≡ 1 → ClassOne r

-- An immediate is any number of 8 bytes. (S17)
abbrev pub ValidOperand : Operand → Type 0
ValidOperand (reg r) = ValidRegister r
ValidOperand (imm v) = v < 256 ^ 8
ValidOperand mem = Unit {0}

-- At most 8 written registers. (S11)
pub record ValidRegisters (l : List Register) : Type 0 where
  pub few : length l ≤ 8
  pub each : All ValidRegister l

-- Each field in its table, and none of the map's faults: a target with a call-like instruction, a second operand without a first.
-- (S7, S13, S14, S22, S23, S24)
pub record Formed (i : Instruction) : Type 0 where
  pub address : i.address < 256 ^ 8
  pub mnemonic : i.mnemonic ≤ 34
  pub target : WhereThere (λ t. t < 256 ^ 8) i.target
  pub apart : is_there i.target ≡ true → i.call ≡ false
  pub ordered : is_there i.second ≡ true → is_there i.first ≡ true
  pub first : WhereThere ValidOperand i.first
  pub second : WhereThere ValidOperand i.second
  pub written : WhereThere ValidRegisters i.written
  pub flags : WhereThere (λ f. f < 32) i.flags

-- An instruction: formed, and sound if it is modelled. (R14, R15, R16)
pub record ValidInstruction (i : Instruction) : Type 0 where
  pub formed : Formed i
  pub sound : Modelled i → Sound i

-- Of two instructions that follow each other the second has the greater address. (S16)
unfoldable pub Rising : List Instruction → Type 0
Rising [] = Unit {0}
Rising (i ∷ []) = Unit {0}
Rising (i ∷ j ∷ l) = (i.address < j.address) × Rising (j ∷ l)

-- A block's ends are free. (S25)
pub record ValidBlock (b : Block) : Type 0 where
  pub from : b.from < 256 ^ 8
  pub to : b.to < 256 ^ 8
