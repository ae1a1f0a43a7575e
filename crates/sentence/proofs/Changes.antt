-- What an instruction does to each flag and its text. What a later statement needs of a step it has from `changed`, at the end.
use Prim.Native.Nat.{ℕ}
use mathlib.Core.Path.{◌≡◌, refl}
use mathlib.Core.Bool.{Bool, true, false, not, cond, false≢true, ◌&&◌}
use mathlib.Core.List.{List, ◌++◌}
use borrow.Author.Tests.{not-false}
use Rattle.isa.specs.declared.Register.{Register}
use Rattle.isa.specs.declared.Operand.{Operand}
use Rattle.isa.specs.declared.Operand.TheVariants.{Absent, Reg, Imm, Mem}
use Rattle.isa.specs.declared.CarryChange.{CarryChange}
use Rattle.isa.specs.declared.CarryChange.TheVariants.{Stc, Clc, Cmc}
use Rattle.isa.specs.declared.Binary.{Binary}
use Rattle.isa.specs.declared.Binary.TheVariants.{Add, Sub, Cmp, And, Or, Xor, Test}
use Rattle.isa.specs.declared.Unary.{Unary}
use Rattle.isa.specs.declared.Unary.TheVariants.{Inc, Dec, Neg}
use Rattle.isa.specs.declared.Mnemonic.{Mnemonic}
use Rattle.isa.specs.declared.Mnemonic.TheVariants.{Other, Carry, Mov, Not, TwoOperand, OneOperand, Jump, CountJump}
use Rattle.isa.specs.declared.Instruction.{Instruction}
use Rattle.isa.specs.FlagBits.{CF, PF, ZF, SF, OF, declares}
use Rattle.isa.specs.Modelled.{is_register, modelled, declares_result, declares_own, undeclared}
use Rattle.isa.proofs.First.{RegisterFirst, register-first}
use Rattle.machine.proofs.Declared.{DeclaresResult, result_parts}
use Rattle.alu.specs.declared.Width.{Width}
use Rattle.alu.specs.Width.{width_of}
use Rattle.alu.specs.declared.Flags.{Flags}
use Rattle.alu.specs.Flags as flags
use Rattle.known.specs.Operations.{carry_rule, with_carry, is_idiom, no_flags, of_unknown, on_operands, arith_effect, unary_effect, unknown_carry, forget_flag, forget_flags}
use Rattle.machine.specs.declared.State.{State}
use Rattle.machine.specs.Registers.{nothing_known, read_of, operand_of, written, forgotten}
use Rattle.machine.specs.Finish.{finished}
use Rattle.machine.specs.Rules.{same_register, carry_step, arith_step, unary_unknown, unary_on, unary_step, register_step, on_first, modelled_step, stepped}
use Rattle.machine.proofs.Kept.{written-flags, forgetting-flags}
use Rattle.laws.proofs.Booleans.{and_left, by_test}
use Rattle.std.specs.Prelude.{Option, Some, None}
use Rattle.phrase.specs.declared.FlagGroup.TheVariants as group
use Rattle.phrase.specs.Causes.{value_text, carry_text, overflow_text}
use Rattle.sentence_text.specs.Sentence.{turned}
use Rattle.sentence.specs.Why.{Why, every, carry_why, itself_why, operands_text, unknown_why, on_values, arith_why, alone_why, on_value, unary_why, arith_first, unary_first, modelled_why, why_stepped}
use Rattle.sentence.specs.Promises.{Sets, carry_sets, unary_sets, mnemonic_sets, sets_of, carry_own, values_own, arith_own, arith_first_own, value_own, value_first_own, own_text}
use Rattle.sentence.specs.Promises.Sets.{sets-none, sets-carry, turns-carry, sets-result, sets-all}
use Rattle.sentence.proofs.Texts.{NotEmpty, not-empty, value-some, carry-some, overflow-some, idiom-some, operands-some}

-- ---- one flag

-- it is set, or turned round, or left
pub data Way : Type 0 where
  sets : Way
  turns : Way
  keeps : Way

-- CF, and the other flags
abbrev pub carry_way : Sets → Way
carry_way sets-none = keeps
carry_way sets-carry = sets
carry_way turns-carry = turns
carry_way sets-result = keeps
carry_way sets-all = sets

abbrev pub result_way : Sets → Way
result_way sets-none = keeps
result_way sets-carry = keeps
result_way turns-carry = keeps
result_way sets-result = sets
result_way sets-all = sets

-- From a flag and its text to those after an instruction, with the text that it gives where it sets the flag. `lacks` is the fault of inc, dec, neg that do
-- not declare their flags, which may then stay.
pub data Change : Way → (own : List ℕ) (lacks : Bool) (f : Option Bool) (old : List ℕ) (g : Option Bool) (new : List ℕ) → Type 0 where
  unknown : {way : Way} {own : List ℕ} {lacks : Bool} {f : Option Bool} {old new : List ℕ} → Change way own lacks f old None new
  set : {own : List ℕ} {lacks : Bool} {f : Option Bool} {old : List ℕ} {g : Option Bool} → NotEmpty own → Change sets own lacks f old g own
  stays : {own : List ℕ} {f : Option Bool} {old : List ℕ} → Change sets own true f old f old
  kept : {own : List ℕ} {lacks : Bool} {f : Option Bool} {old : List ℕ} → Change keeps own lacks f old f old
  round : {own : List ℕ} {lacks : Bool} {f : Option Bool} {old : List ℕ} → Change turns own lacks f old (flags.opposite f) (old ++ turned)

forgot : (declared : Bool) {own : List ℕ} {lacks : Bool} {f : Option Bool} {old : List ℕ} → Change keeps own lacks f old (forget_flag declared f) old
forgot true = unknown
forgot false = kept

-- ---- all five

pub record Changes (k : Sets) (result carry : List ℕ) (lacks : Bool) (f : Flags) (w : Why) (g : Flags) (v : Why) : Type 0 where
  pub cf : Change (carry_way k) carry lacks f.cf w.cf g.cf v.cf
  pub pf : Change (result_way k) result lacks f.pf w.pf g.pf v.pf
  pub zf : Change (result_way k) result lacks f.zf w.zf g.zf v.zf
  pub sf : Change (result_way k) result lacks f.sf w.sf g.sf v.sf
  pub of : Change (result_way k) result lacks f.of w.of g.of v.of

module _ {lacks : Bool} {f : Flags} {w : Why} where
  none-known : {k : Sets} {result carry : List ℕ} {v : Why} → Changes k result carry lacks f w no_flags v
  none-known = record { cf = unknown; pf = unknown; zf = unknown; sf = unknown; of = unknown }

  same : {result carry : List ℕ} → Changes sets-none result carry lacks f w f w
  same = record { cf = kept; pf = kept; zf = kept; sf = kept; of = kept }

  all_set : (text : List ℕ) {g : Flags} → NotEmpty text → Changes sets-all text text lacks f w g (every text)
  all_set text some = record { cf = set some; pf = set some; zf = set some; sf = set some; of = set some }

  forgot-all : (d : ℕ) {result carry : List ℕ} → Changes sets-none result carry lacks f w (forget_flags d f) w
  unfolding forget_flags
  forgot-all d = record {
    cf = forgot (declares d CF);
    pf = forgot (declares d PF);
    zf = forgot (declares d ZF);
    sf = forgot (declares d SF);
    of = forgot (declares d OF);
  }

  -- ---- instructions

  carry-changes : (c : CarryChange) {result : List ℕ} → Changes (carry_sets c) result (carry_own c) lacks f w (with_carry f (carry_rule c f.cf)) (carry_why w c)
  carry-changes Stc = record { cf = set not-empty; pf = kept; zf = kept; sf = kept; of = kept }
  carry-changes Clc = record { cf = set not-empty; pf = kept; zf = kept; sf = kept; of = kept }
  carry-changes Cmc = record { cf = round; pf = kept; zf = kept; sf = kept; of = kept }

  unknown-changes : (op : Binary) → Changes sets-all (overflow_text op) (carry_text op) lacks f w (of_unknown op) (unknown_why w op)
  unknown-changes Add = none-known
  unknown-changes Sub = none-known
  unknown-changes Cmp = none-known
  unknown-changes And = record { cf = set (carry-some And); pf = unknown; zf = unknown; sf = unknown; of = set (overflow-some And) }
  unknown-changes Or = record { cf = set (carry-some Or); pf = unknown; zf = unknown; sf = unknown; of = set (overflow-some Or) }
  unknown-changes Xor = record { cf = set (carry-some Xor); pf = unknown; zf = unknown; sf = unknown; of = set (overflow-some Xor) }
  unknown-changes Test = record { cf = set (carry-some Test); pf = unknown; zf = unknown; sf = unknown; of = set (overflow-some Test) }

  operands-changes : (op : Binary) (width : Width) (d : Register) (o : Operand) (a b : Option ℕ)
      → Changes sets-all (values_own op d o a b group.Result) (values_own op d o a b group.Carry) lacks f w (on_operands op width a b).flags (on_values w op d o a b)
  operands-changes op width d o (Some a) (Some b) = all_set (operands_text d a o b) (operands-some d a o b)
  operands-changes op width d o (Some a) None = unknown-changes op
  operands-changes op width d o None b = unknown-changes op

  effect-changes : (op : Binary) (size : Option Width) (d : Register) (o : Operand) (a b : Option ℕ)
      → Changes sets-all (cond (is_idiom op && same_register d o) (itself_why op d) (values_own op d o a b group.Result))
      (cond (is_idiom op && same_register d o) (itself_why op d) (values_own op d o a b group.Carry)) lacks f w
      (arith_effect op size (same_register d o) a b).flags
      (cond (is_idiom op && same_register d o) (every (itself_why op d)) (on_values w op d o a b))
  unfolding arith_effect
  effect-changes op (Some width) d o a b =
      by_test (is_idiom op && same_register d o)
      (λ t. rw t (all_set (itself_why op d) (idiom-some op d (and_left (is_idiom op) _ t))))
      (λ t. rw t (operands-changes op width d o a b))
  effect-changes op None d o a b = none-known

  alone-changes : (op : Unary) (size : Option Width) (d : Register) (a : ℕ)
      → Changes (unary_sets op) (value_text d a) (value_text d a) lacks f w (unary_effect op size f.cf a).flags (alone_why w op (value_text d a))
  unfolding unary_effect
  alone-changes Inc (Some width) d a =
      let some = value-some d a in
      record { cf = kept; pf = set some; zf = set some; sf = set some; of = set some }
  alone-changes Dec (Some width) d a =
      let some = value-some d a in
      record { cf = kept; pf = set some; zf = set some; sf = set some; of = set some }
  alone-changes Neg (Some width) d a = all_set (value_text d a) (value-some d a)
  alone-changes op None d a = none-known

-- a flag that inc, dec, neg of an unknown register should declare
lost : (lacks declared : Bool) → (lacks ≡ false → declared ≡ true) → {own : List ℕ} {f : Option Bool} {old : List ℕ}
    → Change sets own lacks f old (forget_flag declared f) old
lost true true h = unknown
lost true false h = stays
lost false true h = unknown
lost false false h = absurd (false≢true (h refl))

own-declared : (op : Unary) (d : ℕ) → not (declares_own op d) ≡ false → declares_result d ≡ true
own-declared Inc d h = not-false (declares_result d) h
own-declared Dec d h = not-false (declares_result d) h
own-declared Neg d h = and_left (declares_result d) (declares d CF) (not-false (declares_own Neg d) h)

lost-result : (op : Unary) (d : ℕ) (k : Sets) {f : Flags} {w : Why} {text carry : List ℕ} {g : Option Bool} → result_way k ≡ sets
    → Change (carry_way k) carry (not (declares_own op d)) f.cf w.cf g w.cf
    → Changes k text carry (not (declares_own op d)) f w (with_carry (forget_flags d f) g) w
unfolding forget_flags
lost-result op d k way cf = record {
  cf = cf;
  pf = rw way (lost _ (declares d PF) (λ h. (each h).pf));
  zf = rw way (lost _ (declares d ZF) (λ h. (each h).zf));
  sf = rw way (lost _ (declares d SF) (λ h. (each h).sf));
  of = rw way (lost _ (declares d OF) (λ h. (each h).of));
}
  where
    each : not (declares_own op d) ≡ false → DeclaresResult d
    each h = result_parts d (own-declared op d h)

unknown-unary : (op : Unary) (d : ℕ) {f : Flags} {w : Why} {text : List ℕ}
    → Changes (unary_sets op) text text (not (declares_own op d)) f w (with_carry (forget_flags d f) (unknown_carry op f.cf)) w
unknown-unary Inc d = lost-result Inc d sets-result refl kept
unknown-unary Dec d = lost-result Dec d sets-result refl kept
unknown-unary Neg d = lost-result Neg d sets-all refl unknown

module _ (s : State) (w : Why) (i : Instruction) where
  -- by a mnemonic
  abbrev ByMnemonic : Mnemonic → State → Why → Type 0
  ByMnemonic m after v =
      Changes (mnemonic_sets m) (own_text s m i.first i.second group.Result) (own_text s m i.first i.second group.Carry) (undeclared m i.flags) s.flags w after.flags v

  forgotten-changes : {result carry : List ℕ} {lacks : Bool} → Changes sets-none result carry lacks s.flags w (forgotten s i).flags w
  unfolding forgotten
  forgotten-changes = rw forgetting-flags (forgot-all i.flags)

  written-changes : (d : Register) (v : Option ℕ) {result carry : List ℕ} {lacks : Bool} → Changes sets-none result carry lacks s.flags w (written s d v).flags w
  written-changes d v = rw written-flags same

  unary-changes : (op : Unary) (d : Register) (v : Option ℕ)
      → Changes (unary_sets op) (value_own d v) (value_own d v) (not (declares_own op i.flags)) s.flags w (unary_on s i op d v).flags (on_value w op d v)
  unfolding finished unary_unknown forgotten
  unary-changes op d (Some a) = alone-changes op (width_of d.size) d a
  unary-changes op d None = rw forgetting-flags (unknown-unary op i.flags)

  mov-changes : (o : Operand) {result carry : List ℕ} {lacks : Bool} → Changes sets-none result carry lacks s.flags w (on_first s i Mov o).flags w
  unfolding register_step
  mov-changes Absent = forgotten-changes
  mov-changes (Reg d) = written-changes d _
  mov-changes (Imm x) = forgotten-changes
  mov-changes Mem = forgotten-changes

  not-changes : (o : Operand) {result carry : List ℕ} {lacks : Bool} → Changes sets-none result carry lacks s.flags w (on_first s i Not o).flags w
  unfolding register_step
  not-changes Absent = forgotten-changes
  not-changes (Reg d) = written-changes d _
  not-changes (Imm x) = forgotten-changes
  not-changes Mem = forgotten-changes

  two-changes : (op : Binary) (o : Operand) → is_register o ≡ true
      → Changes sets-all (arith_first_own s op o i.second group.Result) (arith_first_own s op o i.second group.Carry) false s.flags w
      (on_first s i (TwoOperand op) o).flags (arith_first s w op o i.second)
  unfolding register_step arith_step finished arith_why arith_own
  two-changes op Absent h = absurd (false≢true h)
  two-changes op (Reg d) h = effect-changes op (width_of d.size) d i.second (read_of s d) (operand_of s d.size i.second)
  two-changes op (Imm x) h = absurd (false≢true h)
  two-changes op Mem h = absurd (false≢true h)

  one-changes : (op : Unary) (o : Operand) → is_register o ≡ true
      → Changes (unary_sets op) (value_first_own s o) (value_first_own s o) (not (declares_own op i.flags)) s.flags w
      (on_first s i (OneOperand op) o).flags (unary_first s w op o)
  unfolding register_step unary_step unary_why
  one-changes op Absent h = absurd (false≢true h)
  one-changes op (Reg d) h = unary-changes op d (read_of s d)
  one-changes op (Imm x) h = absurd (false≢true h)
  one-changes op Mem h = absurd (false≢true h)

  modelled-changes : (m : Mnemonic) → RegisterFirst m (is_register i.first) → ByMnemonic m (modelled_step s i m) (modelled_why s w i m)
  unfolding modelled_step modelled_why carry_step own_text
  modelled-changes Other h = absurd h
  modelled-changes (Carry c) h = carry-changes c
  modelled-changes Mov h = mov-changes i.first
  modelled-changes Not h = not-changes i.first
  modelled-changes (TwoOperand op) h = two-changes op i.first h
  modelled-changes (OneOperand op) h = one-changes op i.first h
  modelled-changes (Jump c) h = absurd h
  modelled-changes (CountJump c) h = absurd h

  -- What any instruction does.
  pub changed : Changes (sets_of i) (own_text s i.mnemonic i.first i.second group.Result) (own_text s i.mnemonic i.first i.second group.Carry)
      (modelled i && undeclared i.mnemonic i.flags) s.flags w (stepped s i).flags (why_stepped s w i)
  unfolding stepped why_stepped nothing_known sets_of
  changed = go i.call (modelled i) (register-first i)
    where
      go : (call does : Bool) → (does ≡ true → RegisterFirst i.mnemonic (is_register i.first))
          → Changes (cond does (mnemonic_sets i.mnemonic) sets-none) (own_text s i.mnemonic i.first i.second group.Result)
          (own_text s i.mnemonic i.first i.second group.Carry) (does && undeclared i.mnemonic i.flags) s.flags w
          (cond call nothing_known (cond does (modelled_step s i i.mnemonic) (forgotten s i))).flags
          (cond does (modelled_why s w i i.mnemonic) w)
      go true does h = none-known
      go false true h = modelled-changes i.mnemonic (h refl)
      go false false h = forgotten-changes
