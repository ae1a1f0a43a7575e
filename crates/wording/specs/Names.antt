-- How sentences name registers and instructions.
use Rattle.std.specs.Prelude.{ℕ, cond, List, [], ◌∷◌, ◌++◌, ltb, eqb, get_or, codes, Option, Some, None}
use Rattle.isa.specs.declared.Register.{Register}
use Rattle.isa.specs.declared.Binary.{Binary}
use Rattle.isa.specs.declared.Binary.TheVariants.{Add, Sub, Cmp, And, Or, Xor, Test}
use Rattle.alu.specs.declared.Width.{Width}
use Rattle.alu.specs.declared.Width.TheVariants.{Byte, Word, Double, Quad}
use Rattle.alu.specs.Width.{width_of}
use Rattle.text.specs.Digits.{decimal}

-- Registers 0 to 7 at 16 bits, at 8 bits, and at 8 bits from bit 8 on, each from index 0 (W1).
unfoldable pub words : List (List ℕ)
words = codes "ax" ∷ codes "cx" ∷ codes "dx" ∷ codes "bx" ∷ codes "sp" ∷ codes "bp" ∷ codes "si" ∷ codes "di" ∷ []

unfoldable pub low_bytes : List (List ℕ)
low_bytes = codes "al" ∷ codes "cl" ∷ codes "dl" ∷ codes "bl" ∷ codes "spl" ∷ codes "bpl" ∷ codes "sil" ∷ codes "dil" ∷ []

unfoldable pub high_bytes : List (List ℕ)
high_bytes = codes "ah" ∷ codes "ch" ∷ codes "dh" ∷ codes "bh" ∷ []

-- Registers 0 to 7: the name at 32 bits is the one at 16 with e in front, at 64 with r (W1).
abbrev pub old_name : Width → ℕ → List ℕ
old_name Byte index = get_or low_bytes index []
old_name Word index = get_or words index []
old_name Double index = codes "e" ++ get_or words index []
old_name Quad index = codes "r" ++ get_or words index []

-- Registers 8 to 15 are numbered, with b, w or d behind the number for 8, 16 or 32 bits (W2).
abbrev pub suffix : Width → List ℕ
suffix Byte = codes "b"
suffix Word = codes "w"
suffix Double = codes "d"
suffix Quad = []

abbrev pub new_name : Width → ℕ → List ℕ
new_name w index = codes "r" ++ decimal index ++ suffix w

-- The low part of a register. There is no register past 15, so no name (W1, W2).
unfoldable pub low_name : Width → ℕ → List ℕ
low_name w index = cond (ltb index 8) (old_name w index) (cond (ltb index 16) (new_name w index) [])

-- a size that has no width names no part
abbrev pub sized_name : Option Width → ℕ → List ℕ
sized_name (Some w) index = low_name w index
sized_name None index = []

-- A register by its part: ah, ch, dh, bh at offset 8 (W3).
unfoldable pub register_name : Register → List ℕ
register_name r = cond (eqb r.offset 8) (get_or high_bytes r.index []) (sized_name (width_of r.size) r.index)

-- An instruction by its mnemonic (W9).
abbrev pub instruction_name : Binary → List ℕ
instruction_name Add = codes "add"
instruction_name Sub = codes "sub"
instruction_name Cmp = codes "cmp"
instruction_name And = codes "and"
instruction_name Or = codes "or"
instruction_name Xor = codes "xor"
instruction_name Test = codes "test"

-- the name of that number in a table, none past its end
unfoldable pub name_in : List (List ℕ) → ℕ → List ℕ
name_in names index = get_or names index []
