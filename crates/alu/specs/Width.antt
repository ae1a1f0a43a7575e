-- The widths of operands.
use Rattle.std.specs.Prelude.{ℕ, cond, ◌==◌, Option, Some, None}
use Rattle.alu.specs.declared.Width.{Width}
use Rattle.alu.specs.declared.Width.TheVariants.{Byte, Word, Double, Quad}

abbrev pub bits : Width → ℕ
bits Byte = 8
bits Word = 16
bits Double = 32
bits Quad = 64

-- The width of a size in bits. A well-formed register of class 1 has one of the four sizes: concrete's law `width-law`. Of any
-- other size there is no width (S19, S20).
abbrev pub width_of : ℕ → Option Width
width_of size =
    cond (size == 8) (Some Byte) (cond (size == 16) (Some Word) (cond (size == 32) (Some Double) (cond (size == 64) (Some Quad) None)))
