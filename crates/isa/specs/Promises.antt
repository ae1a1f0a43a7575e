-- What contracts give: the size of a register's low part, the mnemonics that must declare flags, and the fault of an instruction from what
-- it depends on.
use Rattle.std.specs.Prelude.{ℕ, [], Bool, true, false, ◌||◌, eqb, None}
use Rattle.isa.specs.declared.Mnemonic.{Mnemonic}
use Rattle.isa.specs.declared.Mnemonic.TheVariants.{Other, Carry, Mov, Not, TwoOperand, OneOperand, Jump, CountJump}
use Rattle.isa.specs.declared.Operand.{Operand}
use Rattle.isa.specs.Modelled.{at_fault}

abbrev pub is_size : ℕ → Bool
is_size size = eqb size 8 || eqb size 16 || eqb size 32 || eqb size 64

abbrev pub is_unary : Mnemonic → Bool
is_unary Other = false
is_unary (Carry c) = false
is_unary Mov = false
is_unary Not = false
is_unary (TwoOperand op) = false
is_unary (OneOperand op) = true
is_unary (Jump c) = false
is_unary (CountJump c) = false

abbrev pub fault_of : Mnemonic → Bool → Operand → Operand → ℕ → Bool
fault_of m call first second flags =
    at_fault record {
      address = 0;
      mnemonic = m;
      target = None;
      call = call;
      first = first;
      second = second;
      written = [];
      count = 0;
      flags = flags;
    }
