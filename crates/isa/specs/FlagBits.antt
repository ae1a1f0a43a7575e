-- The flags, by the bits that stand for them in the list of declared flags.
use Rattle.std.specs.Prelude.{ℕ, ◌/◌, ◌%◌, Bool, eqb}
use Rattle.isa.specs.declared.Flag.{Flag}
use Rattle.isa.specs.declared.Flag.TheVariants.{Cf, Pf, Zf, Sf, Of}

-- whether a set of bits has that one, given as a power of two
abbrev pub has_bit : ℕ → ℕ → Bool
has_bit set bit = eqb (set / bit % 2) 1

-- The bit of each flag (S12).
abbrev pub CF : ℕ
CF = 1

abbrev pub PF : ℕ
PF = 2

abbrev pub ZF : ℕ
ZF = 4

abbrev pub SF : ℕ
SF = 8

abbrev pub OF : ℕ
OF = 16

-- the bit of a flag by name
abbrev pub flag_bit : Flag → ℕ
flag_bit Cf = CF
flag_bit Pf = PF
flag_bit Zf = ZF
flag_bit Sf = SF
flag_bit Of = OF

-- Whether a flag, given by its bit, is among the declared ones (S12).
abbrev pub declares : ℕ → ℕ → Bool
declares flags flag = has_bit flags flag
