-- Mnemonics and their numbers.
use Rattle.std.specs.Prelude.{ℕ, List, [], ◌∷◌, get_or}
use Rattle.isa.specs.declared.CarryChange.TheVariants.{Stc, Clc, Cmc}
use Rattle.isa.specs.declared.Binary.TheVariants.{Add, Sub, Cmp, And, Or, Xor, Test}
use Rattle.isa.specs.declared.Unary.TheVariants.{Inc, Dec, Neg}
use Rattle.isa.specs.declared.Condition.TheVariants.{E, Ne, L, Ge, Le, G, B, Ae, Be, A, S, Ns, P, Np, O, No}
use Rattle.isa.specs.declared.Counter.TheVariants.{Rcx, Ecx, Cx}
use Rattle.isa.specs.declared.Mnemonic.{Mnemonic}
use Rattle.isa.specs.declared.Mnemonic.TheVariants.{Other, Carry, Mov, Not, TwoOperand, OneOperand, Jump, CountJump}

-- The number of each mnemonic (S22, S23, S24).
unfoldable pub number_of : Mnemonic → ℕ
number_of Other = 0
number_of (Carry Stc) = 1
number_of (Carry Clc) = 2
number_of (Carry Cmc) = 3
number_of Mov = 4
number_of Not = 5
number_of (TwoOperand Add) = 6
number_of (TwoOperand Sub) = 7
number_of (TwoOperand Cmp) = 8
number_of (TwoOperand And) = 9
number_of (TwoOperand Or) = 10
number_of (TwoOperand Xor) = 11
number_of (TwoOperand Test) = 12
number_of (OneOperand Inc) = 13
number_of (OneOperand Dec) = 14
number_of (OneOperand Neg) = 15
number_of (Jump E) = 16
number_of (Jump Ne) = 17
number_of (Jump L) = 18
number_of (Jump Ge) = 19
number_of (Jump Le) = 20
number_of (Jump G) = 21
number_of (Jump B) = 22
number_of (Jump Ae) = 23
number_of (Jump Be) = 24
number_of (Jump A) = 25
number_of (Jump S) = 26
number_of (Jump Ns) = 27
number_of (Jump P) = 28
number_of (Jump Np) = 29
number_of (Jump O) = 30
number_of (Jump No) = 31
number_of (CountJump Rcx) = 32
number_of (CountJump Ecx) = 33
number_of (CountJump Cx) = 34

-- The table of mnemonics, from number 0 on (S22, S23, S24).
unfoldable pub table : List Mnemonic
table =
    Other
    ∷ Carry Stc
    ∷ Carry Clc
    ∷ Carry Cmc
    ∷ Mov
    ∷ Not
    ∷ TwoOperand Add
    ∷ TwoOperand Sub
    ∷ TwoOperand Cmp
    ∷ TwoOperand And
    ∷ TwoOperand Or
    ∷ TwoOperand Xor
    ∷ TwoOperand Test
    ∷ OneOperand Inc
    ∷ OneOperand Dec
    ∷ OneOperand Neg
    ∷ Jump E
    ∷ Jump Ne
    ∷ Jump L
    ∷ Jump Ge
    ∷ Jump Le
    ∷ Jump G
    ∷ Jump B
    ∷ Jump Ae
    ∷ Jump Be
    ∷ Jump A
    ∷ Jump S
    ∷ Jump Ns
    ∷ Jump P
    ∷ Jump Np
    ∷ Jump O
    ∷ Jump No
    ∷ CountJump Rcx
    ∷ CountJump Ecx
    ∷ CountJump Cx
    ∷ []

-- The mnemonic of a number: its index in the table. A number past the table's end, which reading refuses, has none; what
-- stands for it here is met nowhere (S22, S23, S24).
unfoldable pub named : ℕ → Mnemonic
named number = get_or table number Other
