-- What the code gives: the instructions that are the causes of the flags' values, what each of them says, and which of them tell of a jump.
use Rattle.std.specs.Prelude.{ℕ, ◌+◌, ◌≡◌, Bool, false, cond, ◌&&◌, List, [], Option, Some, None, unwrap_or}
use Rattle.std.specs.Option.{option_map}
use Rattle.alu.specs.declared.Flags.{Flags}
use Rattle.alu.specs.Flags.{either}
use Rattle.isa.specs.declared.Register.{Register}
use Rattle.isa.specs.declared.Operand.{Operand}
use Rattle.isa.specs.declared.Operand.TheVariants.{Absent, Reg, Imm, Mem}
use Rattle.isa.specs.declared.CarryChange.{CarryChange}
use Rattle.isa.specs.declared.CarryChange.TheVariants.{Stc, Clc, Cmc}
use Rattle.isa.specs.declared.Binary.{Binary}
use Rattle.isa.specs.declared.Unary.{Unary}
use Rattle.isa.specs.declared.Unary.TheVariants.{Inc, Dec, Neg}
use Rattle.isa.specs.declared.Condition.{Condition}
use Rattle.isa.specs.declared.Condition.TheVariants.{E, Ne, L, Ge, Le, G, B, Ae, Be, A, S, Ns, P, Np, O, No}
use Rattle.isa.specs.declared.Mnemonic.{Mnemonic}
use Rattle.isa.specs.declared.Mnemonic.TheVariants.{Other, Carry, Mov, Not, TwoOperand, OneOperand, Jump, CountJump}
use Rattle.isa.specs.declared.Instruction.{Instruction}
use Rattle.isa.specs.Modelled.{modelled}
use Rattle.known.specs.Operations.{is_idiom}
use Rattle.known.specs.Conditions.{flag_condition}
use Rattle.machine.specs.declared.State.{State}
use Rattle.machine.specs.Registers.{read_of, operand_of}
use Rattle.machine.specs.Conditions.{count_register}
use Rattle.machine.specs.Rules.{same_register}
use Rattle.phrase.specs.Causes.{stc_text, clc_text, value_text}
use Rattle.phrase.specs.declared.FlagGroup.{FlagGroup}
use Rattle.phrase.specs.Promises.{cleared_text}
use Rattle.sentence_text.specs.Sentence.{joined}
use Rattle.sentence.specs.declared.Setters.{Setters}
use Rattle.sentence.specs.declared.Telling.{Telling}
use Rattle.sentence.specs.declared.Telling.TheVariants as telling
use Rattle.sentence.specs.Why.{Why, itself_why, operands_text}
use Rattle.sentence.specs.Told.{flag_told}

-- ---- the instructions that are causes

-- which flags an instruction sets: none, CF, CF by turning it round, all but CF, or all
pub data Sets : Type 0 where
  sets-none : Sets
  sets-carry : Sets
  turns-carry : Sets
  sets-result : Sets
  sets-all : Sets

abbrev pub carry_sets : CarryChange → Sets
carry_sets Stc = sets-carry
carry_sets Clc = sets-carry
carry_sets Cmc = turns-carry

abbrev pub unary_sets : Unary → Sets
unary_sets Inc = sets-result
unary_sets Dec = sets-result
unary_sets Neg = sets-all

abbrev pub mnemonic_sets : Mnemonic → Sets
mnemonic_sets Other = sets-none
mnemonic_sets (Carry c) = carry_sets c
mnemonic_sets Mov = sets-none
mnemonic_sets Not = sets-none
mnemonic_sets (TwoOperand op) = sets-all
mnemonic_sets (OneOperand op) = unary_sets op
mnemonic_sets (Jump c) = sets-none
mnemonic_sets (CountJump c) = sets-none

unfoldable pub sets_of : Instruction → Sets
sets_of i = cond (modelled i) (mnemonic_sets i.mnemonic) sets-none

-- the causes with one more instruction, of that number
abbrev pub setters_by : Setters → ℕ → Sets → Setters
setters_by t number sets-none = t
setters_by t number sets-carry = record { result = t.result; carry = number; turns = 0 }
setters_by t number turns-carry = record { result = t.result; carry = t.carry; turns = t.turns + 1 }
setters_by t number sets-result = record { result = number; carry = t.carry; turns = t.turns }
setters_by t number sets-all = record { result = number; carry = number; turns = 0 }

-- ---- what an instruction says of CF, or of the other flags that it sets, where they are known after it

abbrev pub carry_own : CarryChange → List ℕ
carry_own Stc = stc_text
carry_own Clc = clc_text
carry_own Cmc = []

abbrev pub values_own : Binary → Register → Operand → Option ℕ → Option ℕ → FlagGroup → List ℕ
values_own op d o (Some a) (Some b) group = operands_text d a o b
values_own op d o (Some a) None group = cleared_text op group
values_own op d o None b group = cleared_text op group

unfoldable pub arith_own : State → Binary → Register → Operand → FlagGroup → List ℕ
arith_own s op d o group =
    cond (is_idiom op && same_register d o) (itself_why op d) (values_own op d o (read_of s d) (operand_of s d.size o) group)

abbrev pub arith_first_own : State → Binary → Operand → Operand → FlagGroup → List ℕ
arith_first_own s op Absent o group = []
arith_first_own s op (Reg d) o group = arith_own s op d o group
arith_first_own s op (Imm x) o group = []
arith_first_own s op Mem o group = []

abbrev pub value_own : Register → Option ℕ → List ℕ
value_own d (Some a) = value_text d a
value_own d None = []

abbrev pub value_first_own : State → Operand → List ℕ
value_first_own s Absent = []
value_first_own s (Reg d) = value_own d (read_of s d)
value_first_own s (Imm x) = []
value_first_own s Mem = []

unfoldable pub own_text : State → Mnemonic → (first second : Operand) → FlagGroup → List ℕ
own_text s Other first second group = []
own_text s (Carry c) first second group = carry_own c
own_text s Mov first second group = []
own_text s Not first second group = []
own_text s (TwoOperand op) first second group = arith_first_own s op first second group
own_text s (OneOperand op) first second group = value_first_own s first
own_text s (Jump c) first second group = []
own_text s (CountJump c) first second group = []

-- ---- the causes that tell of a jump

abbrev pub where_known : Option Bool → Telling → Option Telling
where_known f t = option_map (λ b. t) f

-- CF and ZF, where it is known whether one of them is set: the first that is; both where they are clear (W14)
abbrev pub below_telling : Option Bool → (carry : Bool) → Option Telling
below_telling f carry = option_map (λ b. cond carry telling.Carry (cond b telling.Result telling.Both)) f

-- a condition is told as its opposite (W13)
unfoldable pub flags_telling : Condition → Flags → Option Telling
flags_telling E f = where_known (flag_condition E f) telling.Result
flags_telling Ne f = where_known (flag_condition Ne f) telling.Result
flags_telling L f = where_known (flag_condition L f) telling.Result
flags_telling Ge f = where_known (flag_condition Ge f) telling.Result
flags_telling Le f = where_known (flag_condition Le f) telling.Result
flags_telling G f = where_known (flag_condition G f) telling.Result
flags_telling B f = where_known f.cf telling.Carry
flags_telling Ae f = where_known f.cf telling.Carry
flags_telling Be f = below_telling (either f.cf f.zf) (unwrap_or f.cf false)
flags_telling A f = below_telling (either f.cf f.zf) (unwrap_or f.cf false)
flags_telling S f = where_known (flag_condition S f) telling.Result
flags_telling Ns f = where_known (flag_condition Ns f) telling.Result
flags_telling P f = where_known (flag_condition P f) telling.Result
flags_telling Np f = where_known (flag_condition Np f) telling.Result
flags_telling O f = where_known (flag_condition O f) telling.Result
flags_telling No f = where_known (flag_condition No f) telling.Result

abbrev pub count_telling : Register → Option ℕ → Option Telling
count_telling r v = option_map (λ x. telling.Value r x) v

unfoldable pub telling_of : State → Mnemonic → Option Telling
telling_of s Other = None
telling_of s (Carry c) = None
telling_of s Mov = None
telling_of s Not = None
telling_of s (TwoOperand op) = None
telling_of s (OneOperand op) = None
telling_of s (Jump c) = flags_telling c s.flags
telling_of s (CountJump c) = count_telling (count_register c) (read_of s (count_register c))

-- the sentence, by the texts of the two causes (W12, W14, W15)
abbrev pub telling_text : Option Telling → (carry result : List ℕ) → List ℕ
telling_text None c r = []
telling_text (Some telling.Carry) c r = c
telling_text (Some telling.Result) c r = r
telling_text (Some telling.Both) c r = joined c r
telling_text (Some (telling.Value register x)) c r = value_text register x

-- the texts of the flags that are known: one for CF, and one that the others share
pub record Share (f : Flags) (w : Why) (carry result : List ℕ) : Type 0 where
  pub cf : flag_told f.cf w.cf ≡ flag_told f.cf carry
  pub pf : flag_told f.pf w.pf ≡ flag_told f.pf result
  pub zf : flag_told f.zf w.zf ≡ flag_told f.zf result
  pub sf : flag_told f.sf w.sf ≡ flag_told f.sf result
  pub of : flag_told f.of w.of ≡ flag_told f.of result
