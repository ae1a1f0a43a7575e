-- The faults that 6 turns back, over the syntax of instructions. Nothing here is shared with the definitions that reading uses.
use Rattle.std.specs.Prelude.{ℕ, ◌/◌, ◌%◌, ◌≤◌, ◌≡◌, ◌⊎◌, false}
use Rattle.std.proofs.Math.Option.{Option, none, some}
use Rattle.isa.specs.declared.Register.{Register}
use Rattle.format.specs.Syntax.{Operand, Instruction}
use Rattle.format.specs.Syntax.Operand.{reg}

-- The numbers of the mnemonics that the faults name. (S22)
abbrev pub stc : ℕ
stc = 1

abbrev pub clc : ℕ
clc = 2

abbrev pub cmc : ℕ
cmc = 3

abbrev pub mov : ℕ
mov = 4

abbrev pub not : ℕ
not = 5

abbrev pub add : ℕ
add = 6

abbrev pub test : ℕ
test = 12

abbrev pub inc : ℕ
inc = 13

abbrev pub dec : ℕ
dec = 14

abbrev pub neg : ℕ
neg = 15

-- The bits of a flag byte. (S12)
abbrev pub CF : ℕ
CF = 1

abbrev pub PF : ℕ
PF = 2

abbrev pub ZF : ℕ
ZF = 4

abbrev pub SF : ℕ
SF = 8

abbrev pub OF : ℕ
OF = 16

-- an operand that is there and is a register
abbrev pub IsRegister : Option Operand → Type 0
IsRegister o = (r : Register) × (o ≡ some (reg r))

-- an operand that is there, whatever it is
abbrev pub IsOperand : Option Operand → Type 0
IsOperand o = (x : Operand) × (o ≡ some x)

-- The mnemonics that are modelled, by what operands they need: stc, clc, cmc none; mov and add to test two; not, inc, dec, neg one. (M6)
abbrev pub NeedsNone : ℕ → Type 0
NeedsNone m = (m ≡ stc) ⊎ ((m ≡ clc) ⊎ (m ≡ cmc))

abbrev pub NeedsTwo : ℕ → Type 0
NeedsTwo m = (m ≡ mov) ⊎ ((add ≤ m) × (m ≤ test))

abbrev pub NeedsOne : ℕ → Type 0
NeedsOne m = (m ≡ not) ⊎ ((m ≡ inc) ⊎ ((m ≡ dec) ⊎ (m ≡ neg)))

-- Modelled (the scope document's term): not call-like, and its operands are those that its mnemonic needs, the first a register. (M6)
pub data Modelled (i : Instruction) : Type 0 where
  any_operands : i.call ≡ false → NeedsNone i.mnemonic → Modelled i
  two_operands : i.call ≡ false → NeedsTwo i.mnemonic → IsRegister i.first → IsOperand i.second → Modelled i
  one_operand : i.call ≡ false → NeedsOne i.mnemonic → IsRegister i.first → i.second ≡ none → Modelled i

-- The instruction has a flag byte in which a flag's bit stands. (S12, S15)
abbrev pub Declares : Instruction → ℕ → Type 0
Declares i flag = (f : ℕ) × (i.flags ≡ some f) × (f / flag % 2 ≡ 1)

-- What a modelled instruction has to keep to. (R14, R15, R16)
pub record Sound (i : Instruction) : Type 0 where
  -- both operands registers of class 1: of one size (R14)
  pub sizes : (x y : Register) → i.first ≡ some (reg x) → i.second ≡ some (reg y) → x.class ≡ 1 → y.class ≡ 1 → x.size ≡ y.size
  -- but for mov, every register operand is of class 1 (R15)
  pub classes : (i.mnemonic ≡ mov → ⊥) → (r : Register) → (i.first ≡ some (reg r)) ⊎ (i.second ≡ some (reg r)) → r.class ≡ 1
  -- inc, dec and neg declare PF, ZF, SF and OF, and neg declares CF too (R16)
  pub declared : (i.mnemonic ≡ inc) ⊎ ((i.mnemonic ≡ dec) ⊎ (i.mnemonic ≡ neg)) → Declares i PF × Declares i ZF × Declares i SF × Declares i OF
  pub carry : i.mnemonic ≡ neg → Declares i CF
