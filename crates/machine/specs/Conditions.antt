-- What is known of a conditional branch, by its mnemonic.
use Rattle.std.specs.Prelude.{ℕ, Bool, Option, None}
use Rattle.isa.specs.declared.Register.{Register}
use Rattle.isa.specs.declared.Counter.{Counter}
use Rattle.isa.specs.declared.Counter.TheVariants.{Rcx, Ecx, Cx}
use Rattle.isa.specs.declared.Mnemonic.{Mnemonic}
use Rattle.isa.specs.declared.Mnemonic.TheVariants.{Other, Carry, Mov, Not, TwoOperand, OneOperand, Jump, CountJump}
use Rattle.known.specs.Conditions.{flag_condition, is_zero}
use Rattle.machine.specs.declared.State.{State}
use Rattle.machine.specs.Registers.{read_of}

-- jrcxz, jecxz, jcxz read the low 64, 32, 16 bits of register 1 (M19, S24).
abbrev pub count_size : Counter → ℕ
count_size Rcx = 64
count_size Ecx = 32
count_size Cx = 16

-- that part of register 1
abbrev pub count_register : Counter → Register
count_register c = record { class = 1; index = 1; size = count_size c; offset = 0 }

-- What is known of whether the branch jumps: by its flags, or by register 1. Of a conditional branch that has no jump's
-- mnemonic, as loop, nothing is known (M18, M19, M20).
unfoldable pub condition_of : State → Mnemonic → Option Bool
condition_of s Other = None
condition_of s (Carry c) = None
condition_of s Mov = None
condition_of s Not = None
condition_of s (TwoOperand op) = None
condition_of s (OneOperand op) = None
condition_of s (Jump c) = flag_condition c s.flags
condition_of s (CountJump c) = is_zero (read_of s (count_register c))
