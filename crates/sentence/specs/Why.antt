-- Why each flag has its value, as text, and how instructions change that: what the Rust's `step` and `arith` note beside each flag.
use Rattle.std.specs.Prelude.{ℕ, Bool, true, false, cond, ◌&&◌, List, [], ◌∷◌, ◌++◌, Option, Some, None}
use Rattle.isa.specs.declared.Register.{Register}
use Rattle.isa.specs.declared.Operand.{Operand}
use Rattle.isa.specs.declared.Operand.TheVariants.{Absent, Reg, Imm, Mem}
use Rattle.isa.specs.declared.CarryChange.{CarryChange}
use Rattle.isa.specs.declared.CarryChange.TheVariants.{Stc, Clc, Cmc}
use Rattle.isa.specs.declared.Binary.{Binary}
use Rattle.isa.specs.declared.Binary.TheVariants.{Add, Sub, Cmp, And, Or, Xor, Test}
use Rattle.isa.specs.declared.Unary.{Unary}
use Rattle.isa.specs.declared.Unary.TheVariants.{Inc, Dec, Neg}
use Rattle.isa.specs.declared.Mnemonic.{Mnemonic}
use Rattle.isa.specs.declared.Mnemonic.TheVariants.{Other, Carry, Mov, Not, TwoOperand, OneOperand, Jump, CountJump}
use Rattle.isa.specs.declared.Instruction.{Instruction}
use Rattle.isa.specs.Modelled.{modelled}
use Rattle.known.specs.Operations.{is_idiom}
use Rattle.machine.specs.declared.State.{State}
use Rattle.machine.specs.Registers.{read_of, operand_of}
use Rattle.machine.specs.Rules.{same_register, stepped}
use Rattle.phrase.specs.Causes.{stc_text, clc_text, value_text, values_text, itself_text, carry_text, overflow_text}
use Rattle.sentence_text.specs.Sentence.{turned}

-- A text for each flag. It means nothing where the flag is unknown.
pub record Why : Type 0 where
  pub cf : List ℕ
  pub pf : List ℕ
  pub zf : List ℕ
  pub sf : List ℕ
  pub of : List ℕ

-- one text for all five
abbrev pub every : List ℕ → Why
every text = record { cf = text; pf = text; zf = text; sf = text; of = text }

-- another one for CF
abbrev pub with_carry_text : Why → List ℕ → Why
with_carry_text w text = record { cf = text; pf = w.pf; zf = w.zf; sf = w.sf; of = w.of }

-- stc and clc give CF a text of their own, cmc adds to the one there is (W6, W7).
abbrev pub carry_why : Why → CarryChange → Why
carry_why w Stc = with_carry_text w stc_text
carry_why w Clc = with_carry_text w clc_text
carry_why w Cmc = with_carry_text w (w.cf ++ turned)

-- A register with itself, for all five flags: by sub and xor it is 0, by cmp it is compared with itself; by no other instruction is anything settled
-- so (W8).
abbrev pub itself_why : Binary → Register → List ℕ
itself_why Add d = []
itself_why Sub d = value_text d 0
itself_why Cmp d = itself_text d
itself_why And d = []
itself_why Or d = []
itself_why Xor d = value_text d 0
itself_why Test d = []

-- Two known operands: the second one is named where it is another register (W5).
abbrev pub operands_text : Register → ℕ → Operand → ℕ → List ℕ
operands_text d a Absent b = value_text d a
operands_text d a (Reg r) b = cond (same_register d (Reg r)) (value_text d a) (values_text d a r b)
operands_text d a (Imm x) b = value_text d a
operands_text d a Mem b = value_text d a

-- and, or, xor, test
abbrev pub is_logical : Binary → Bool
is_logical Add = false
is_logical Sub = false
is_logical Cmp = false
is_logical And = true
is_logical Or = true
is_logical Xor = true
is_logical Test = true

-- An unknown operand: and, or, xor, test clear CF and OF all the same, and say so (W9).
abbrev pub unknown_why : Why → Binary → Why
unknown_why w op =
    cond (is_logical op) (record { cf = carry_text op; pf = w.pf; zf = w.zf; sf = w.sf; of = overflow_text op }) w

abbrev pub on_values : Why → Binary → Register → Operand → Option ℕ → Option ℕ → Why
on_values w op d o (Some a) (Some b) = every (operands_text d a o b)
on_values w op d o (Some a) None = unknown_why w op
on_values w op d o None b = unknown_why w op

-- add to test, with a register first (W5, W8, W9).
unfoldable pub arith_why : State → Why → Binary → Register → Operand → Why
arith_why s w op d o =
    cond (is_idiom op && same_register d o) (every (itself_why op d)) (on_values w op d o (read_of s d) (operand_of s d.size o))

-- inc, dec, neg of a known value; inc and dec keep the text of CF (W10).
abbrev pub alone_why : Why → Unary → List ℕ → Why
alone_why w Inc text = with_carry_text (every text) w.cf
alone_why w Dec text = with_carry_text (every text) w.cf
alone_why w Neg text = every text

abbrev pub on_value : Why → Unary → Register → Option ℕ → Why
on_value w op d (Some a) = alone_why w op (value_text d a)
on_value w op d None = w

unfoldable pub unary_why : State → Why → Unary → Register → Why
unary_why s w op d = on_value w op d (read_of s d)

-- By the first operand; without a register nothing but stc, clc, cmc is modelled.
abbrev pub arith_first : State → Why → Binary → Operand → Operand → Why
arith_first s w op Absent o = w
arith_first s w op (Reg d) o = arith_why s w op d o
arith_first s w op (Imm x) o = w
arith_first s w op Mem o = w

abbrev pub unary_first : State → Why → Unary → Operand → Why
unary_first s w op Absent = w
unary_first s w op (Reg d) = unary_why s w op d
unary_first s w op (Imm x) = w
unary_first s w op Mem = w

-- A modelled instruction; mov and not set no flag (W5, W6).
unfoldable pub modelled_why : State → Why → Instruction → Mnemonic → Why
modelled_why s w i Other = w
modelled_why s w i (Carry c) = carry_why w c
modelled_why s w i Mov = w
modelled_why s w i Not = w
modelled_why s w i (TwoOperand op) = arith_first s w op i.first i.second
modelled_why s w i (OneOperand op) = unary_first s w op i.first
modelled_why s w i (Jump c) = w
modelled_why s w i (CountJump c) = w

-- An instruction, from what is known before it. One that is not modelled, a call-like one too, gives no flag a value, so no text (W11).
unfoldable pub why_stepped : State → Why → Instruction → Why
why_stepped s w i = cond (modelled i) (modelled_why s w i i.mnemonic) w

-- instructions in order, with what is known at each
unfoldable pub why_stepped_all : State → Why → List Instruction → Why
why_stepped_all s w [] = w
why_stepped_all s w (i ∷ is) = why_stepped_all (stepped s i) (why_stepped s w i) is

-- At a block's start no instruction has set a flag.
abbrev pub no_why : Why
no_why = every []
