-- What wraps at 64 bits and is then truncated to a width wraps at that width. For a difference: what is missing to 2 ^ 64 is
-- what is missing to the width, and whole turns of it.
use Rattle.std.proofs.Common.{◌≡◌, ℕ, ◌+◌, ◌-◌, ◌%◌, ◌^◌, ◌<◌, ◌∙◌, arith}
use lib.Pow.{mod-mod-pow}
use Rattle.alu.specs.declared.Width.{Width}
use Rattle.alu.specs.declared.Width.TheVariants.{Byte, Word, Double, Quad}
use Rattle.alu.specs.Width.{bits}

pub truncated : (w : Width) (x : ℕ) → x % 2 ^ 64 % 2 ^ bits w ≡ x % 2 ^ bits w
truncated Byte x = mod-mod-pow x 56 8
truncated Word x = mod-mod-pow x 48 16
truncated Double x = mod-mod-pow x 32 32
truncated Quad x = mod-mod-pow x 0 64

pub turns : (w : Width) (a b : ℕ) → b < 2 ^ 64 → (a + (2 ^ 64 - b)) % 2 ^ bits w ≡ (a + (2 ^ bits w - b % 2 ^ bits w)) % 2 ^ bits w
turns Byte a b h = omega arith
turns Word a b h = omega arith
turns Double a b h = omega arith
turns Quad a b h = omega arith

pub truncated_difference : (w : Width) (a b : ℕ) → b < 2 ^ 64
    → (a + (2 ^ 64 - b)) % 2 ^ 64 % 2 ^ bits w ≡ (a + (2 ^ bits w - b % 2 ^ bits w)) % 2 ^ bits w
truncated_difference w a b h = truncated w (a + (2 ^ 64 - b)) ∙ turns w a b h
