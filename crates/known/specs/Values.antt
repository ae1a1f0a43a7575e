-- Values that are known or not; the parts of a register, and what a write leaves of the whole.
use Rattle.std.specs.Prelude.{ℕ, ◌+◌, ◌-◌, ◌*◌, ◌/◌, ◌%◌, ◌^◌, cond, eqb, Option, Some, None}
use Rattle.std.specs.Option.{option_map}
use Rattle.alu.specs.declared.Width.{Width}
use Rattle.alu.specs.declared.Width.TheVariants.{Byte, Word, Double, Quad}
use Rattle.alu.specs.Width.{bits}

-- The bit at which a part begins: 8 for the high byte of 8 bits at offset 8, else 0.
abbrev pub start : Width → ℕ → ℕ
start Byte offset = cond (eqb offset 8) 8 0
start Word offset = 0
start Double offset = 0
start Quad offset = 0

-- a part: as many bits as the width has, from its first bit on
unfoldable pub extracted : Width → ℕ → ℕ → ℕ
extracted w offset x = x / 2 ^ start w offset % 2 ^ bits w

-- a whole register with another part: the old part is taken out, the new one, truncated to the width, put in
unfoldable pub inserted : Width → ℕ → ℕ → ℕ → ℕ
inserted w offset old x =
    old - old / 2 ^ start w offset % 2 ^ bits w * 2 ^ start w offset + x % 2 ^ bits w * 2 ^ start w offset

-- a known part in a whole register that is known; in one that is not, the whole stays unknown (M8)
abbrev pub onto : Width → ℕ → ℕ → Option ℕ → Option ℕ
onto w offset x old = option_map (λ whole. inserted w offset whole x) old

-- The whole after a write: unknown if the written value is. A known value of 64 bits is the whole, one of 32 bits has zeros above it; one of 8 or 16
-- bits goes into a known register, the rest of which stays, while an unknown register stays unknown (M7, M8, M9).
unfoldable pub merged : Width → ℕ → Option ℕ → Option ℕ → Option ℕ
merged w offset old None = None
merged Byte offset old (Some x) = onto Byte offset x old
merged Word offset old (Some x) = onto Word offset x old
merged Double offset old (Some x) = Some (x % 2 ^ 32)
merged Quad offset old (Some x) = Some x
