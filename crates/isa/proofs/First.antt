-- What it takes to be modelled, beside the mnemonic: only stc, clc and cmc are without a register first.
use mathlib.Core.Path.{◌≡◌}
use mathlib.Core.Bool.{Bool, true}
use native.Mathlib.Omega.{arith}
use Rattle.isa.specs.declared.Mnemonic.{Mnemonic}
use Rattle.isa.specs.declared.Mnemonic.TheVariants.{Other, Carry, Mov, Not, TwoOperand, OneOperand, Jump, CountJump}
use Rattle.isa.specs.declared.Instruction.{Instruction}
use Rattle.isa.specs.Modelled.{is_register, modelled}

-- what a modelled instruction of that mnemonic has
abbrev pub RegisterFirst : Mnemonic → Bool → Type 0
RegisterFirst Other register = ⊥
RegisterFirst (Carry c) register = Unit {0}
RegisterFirst Mov register = register ≡ true
RegisterFirst Not register = register ≡ true
RegisterFirst (TwoOperand op) register = register ≡ true
RegisterFirst (OneOperand op) register = register ≡ true
RegisterFirst (Jump c) register = ⊥
RegisterFirst (CountJump c) register = ⊥

-- A modelled instruction has a mnemonic that the rules name; it is stc, clc or cmc, or has a register first.
pub register-first : (i : Instruction) → modelled i ≡ true → RegisterFirst i.mnemonic (is_register i.first)
register-first i h = grind arith
