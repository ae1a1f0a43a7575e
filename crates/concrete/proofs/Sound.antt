-- Step soundness: agreement of what is known with the concrete state is kept by every instruction that reading accepts,
-- whatever is chosen for what is free. The theorem is `step-sound`, at the end.
use Rattle.std.proofs.lemmas.Bool.Decides.{nat_tests}
use Rattle.std.proofs.Common.{None, Option, Some}
use Rattle.std.specs.Option.{option_map}
use Prim.{Unit, tt}
use Prim.Native.Nat.{ℕ, zero, suc, min, ◌-◌, ◌%◌, ◌^◌, ◌<◌}
use mathlib.Core.Path.{◌≡◌, refl, sym, ap, subst}
use mathlib.Core.Logic.{inr}
use mathlib.Core.Bool.{Bool, true, false, cond, not, ◌&&◌, ◌||◌}
use mathlib.Core.List.{List, [], ◌∷◌}
use native.Mathlib.Nat.{mod-lt}
use native.Mathlib.Omega.{arith}
use borrow.Author.Tests.{eqb-true, not-false}
use lib.Dec.{ltb, eqb}
use lib.ListN.{get_or, replicate}
use lib.Pow.{pow_pos, not_mod}
use Rattle.isa.specs.declared.Register.{Register}
use Rattle.isa.specs.declared.Operand.{Operand}
use Rattle.isa.specs.declared.Operand.TheVariants.{Absent, Reg, Imm, Mem}
use Rattle.isa.specs.declared.CarryChange.{CarryChange}
use Rattle.isa.specs.declared.CarryChange.TheVariants.{Stc, Clc, Cmc}
use Rattle.isa.specs.declared.Binary.{Binary}
use Rattle.isa.specs.declared.Unary.{Unary}
use Rattle.isa.specs.declared.Unary.TheVariants.{Inc, Dec, Neg}
use Rattle.isa.specs.declared.Mnemonic.{Mnemonic}
use Rattle.isa.specs.declared.Mnemonic.TheVariants.{Other, Carry, Mov, Not, TwoOperand, OneOperand, Jump, CountJump}
use Rattle.isa.specs.declared.Instruction.{Instruction}
use Rattle.isa.specs.FlagBits as bit
use Rattle.isa.specs.Register.{well_formed}
use Rattle.isa.specs.Modelled.{modelled, sizes_differ, outside, is_mov, declares_result, declares_own, undeclared}
use Rattle.machine.proofs.Declared.{result_parts}
use Rattle.alu.specs.declared.Flags.{Flags}
use Rattle.alu.specs.declared.Width.{Width}
use Rattle.alu.specs.Width.{bits, width_of}
use Rattle.alu.specs.Flags.{opposite}
use Rattle.machine.specs.declared.State.{State}
use Rattle.known.specs.declared.Effect.{Effect}
use Rattle.known.specs.Operations.{with_carry, forget_flag, forget_flags, unknown_carry, carry_rule, complement, arith_effect, unary_effect, alone as perform_alone}
use Rattle.known.specs.Registers.{unmarked, part_of}
use Rattle.machine.specs.Registers.{nothing_known, slot_at, whole_of, read_of, written, operand_of, forget_registers, forgotten}
use Rattle.machine.specs.Finish.{finished}
use Rattle.machine.specs.Rules.{writes as writes_result, same_register, carry_step, arith_step, unary_unknown, unary_on, unary_step, register_step, on_first, modelled_step, stepped, stepped_all}
use Rattle.concrete.specs.Concrete.{Status, Processor, Choice, value, part, assign, argument, computed, computed_alone, with_status, with_own_carry, carry_after, keeps, binary, alone, on_register, on_operand, by_manual, by_declaration, executed, executed_all}
use Rattle.concrete.specs.Agreement.{Allows, FlagsAgree, Agrees, operand_well_formed, Accepted, AllAccepted}
use Rattle.concrete.proofs.Outcome.{Matches}
use Rattle.concrete.proofs.Registers.{Form, low_byte, high_byte, word, double, quad, form, width_in, width-law, bits-law, reads, part-below, Stores, stores-known, writes}
use Rattle.concrete.proofs.Forget.{less-known, less_both, forgets, forgotten-agrees}
use Rattle.concrete.proofs.Effects.{right, alone-matches, alone-below, EffectAgrees, arith-agrees, kept-agrees}
use Rattle.laws.proofs.Booleans.{or_left, or_right, by_test}

-- ---- operands

-- a register of class 1 beside one of that size has that size
abbrev SizeFits : ℕ → Operand → Type 0
SizeFits size Absent = Unit {0}
SizeFits size (Reg r) = eqb r.class 1 ≡ true → r.size ≡ size
SizeFits size (Imm x) = Unit {0}
SizeFits size Mem = Unit {0}

read-outside : (s : State) (r : Register) → eqb r.class 1 ≡ false → read_of s r ≡ None
unfolding read_of
read-outside s r t = grind (arith, nat_tests)

operand_agrees : (s : State) (p : Processor) (free : Choice) {size offset : ℕ} → Form size offset → (o : Operand)
    → Agrees s p → operand_well_formed o ≡ true → Allows (operand_of s size o) (argument p free size o)
unfolding operand_of argument
operand_agrees s p free f Absent agrees ok = tt
operand_agrees s p free f (Reg r) agrees ok =
    by_test (eqb r.class 1)
    (λ t. rw t (reads s p r agrees ok))
    (λ t. rw (read-outside s r t) tt)
operand_agrees s p free f (Imm x) agrees ok = rw (width-law f, bits-law f)
operand_agrees s p free f Mem agrees ok = tt

argument-below : (p : Processor) (free : Choice) (size : ℕ) (o : Operand) → SizeFits size o → argument p free size o < 2 ^ size
unfolding argument
argument-below p free size Absent fits = mod-lt _ (pow_pos size)
argument-below p free size (Reg r) fits =
    by_test (eqb r.class 1)
    (λ t. rw t (subst (λ (n : ℕ). part p r < 2 ^ n) (fits t) (part-below p r)))
    (λ t. rw t (mod-lt _ (pow_pos size)))
argument-below p free size (Imm x) fits = mod-lt _ (pow_pos size)
argument-below p free size Mem fits = mod-lt _ (pow_pos size)

same-argument : (p : Processor) (free : Choice) (size : ℕ) (d : Register) (o : Operand) → eqb d.class 1 ≡ true
    → same_register d o ≡ true → argument p free size o ≡ part p d
unfolding argument part
same-argument p free size d o one h = grind (arith, nat_tests)

-- ---- the parts of a step

complement-law : {size offset : ℕ} → Form size offset → (x : ℕ) → x < 2 ^ size
    → (2 ^ 64 - 1 - x < 2 ^ 64) × ((2 ^ 64 - 1 - x) % 2 ^ size ≡ 2 ^ size - 1 - x)
complement-law low_byte x k = (omega arith, not_mod 56 8 k)
complement-law high_byte x k = (omega arith, not_mod 56 8 k)
complement-law word x k = (omega arith, not_mod 48 16 k)
complement-law double x k = (omega arith, not_mod 32 32 k)
complement-law quad x k = (omega arith, not_mod 0 64 k)

complement-stores : {size offset : ℕ} → Form size offset → (v : Option ℕ) (x : ℕ) → Allows v x → x < 2 ^ size
    → Stores size (complement v) (2 ^ size - 1 - x)
complement-stores f (Some y) x h k = rw h (complement-law f x k)
complement-stores f None x h k = tt

finish-agrees : (s : State) (p : Processor) (d : Register) (there : Bool) (e : Effect) (x : ℕ) (g : Status)
    → Agrees s p → well_formed d ≡ true → eqb d.class 1 ≡ true
    → Allows e.value x → x < 2 ^ d.size → FlagsAgree e.flags g
    → Agrees (finished s there d e) (with_status (cond there (assign p d x) p) g)
unfolding finished slot_at
finish-agrees s p d true e x g agrees ok one v below flags =
    record {
      registers = (writes s p d e.value x agrees ok (λ c. stores-known (form d ok one) e.value x v below)).registers;
      flags = flags;
    }
finish-agrees s p d false e x g agrees ok one v below flags = record { registers = agrees.registers; flags = flags }

-- a register of class 1 that reads as unknown is unknown
on-unknown : (f : ℕ → ℕ) (v : Option ℕ) → option_map f v ≡ None → v ≡ None
on-unknown f v h = grind (arith, nat_tests)

pub unread : (s : State) (r : Register) → well_formed r ≡ true → eqb r.class 1 ≡ true → read_of s r ≡ None → whole_of s r.index ≡ None
unfolding read_of part_of
unread s r ok one h = on-unknown _ (whole_of s r.index) (rw (one, width-law (form r ok one)) at h)

forgot-flag : (declared : Bool) (f : Option Bool) (b : Bool) → declared ≡ true → Allows (forget_flag declared f) b
forgot-flag declared f b h = rw h tt

-- all that inc, dec and neg set, but CF, is declared
result-declared : (op : Unary) (d : ℕ) → declares_own op d ≡ true → declares_result d ≡ true
result-declared op d h = grind (arith, nat_tests)

forgot-result : (d : ℕ) (f : Flags) (carry : Option Bool) (g : Status) → Allows carry g.cf → declares_result d ≡ true
    → FlagsAgree (with_carry (forget_flags d f) carry) g
unfolding forget_flags
forgot-result d f carry g h declared =
    let each = result_parts d declared in
    record {
      cf = h;
      pf = forgot-flag (bit.declares d bit.PF) f.pf g.pf each.pf;
      zf = forgot-flag (bit.declares d bit.ZF) f.zf g.zf each.zf;
      sf = forgot-flag (bit.declares d bit.SF) f.sf g.sf each.sf;
      of = forgot-flag (bit.declares d bit.OF) f.of g.of each.of;
    }

-- inc and dec keep CF, neg leaves it unknown
unknown-flags : (op : Unary) (d : ℕ) (cf : Option Bool) (c : Bool) (f : Flags) (g : Status) → declares_own op d ≡ true → Allows cf c
    → FlagsAgree (with_carry (forget_flags d f) (unknown_carry op cf)) (with_own_carry op g c)
unknown-flags Inc d cf c f g declared h = forgot-result d f cf (with_own_carry Inc g c) h (result-declared Inc d declared)
unknown-flags Dec d cf c f g declared h = forgot-result d f cf (with_own_carry Dec g c) h (result-declared Dec d declared)
unknown-flags Neg d cf c f g declared h = forgot-result d f None g tt (result-declared Neg d declared)

-- rules and manual agree on what is written
same_writes : (op : Binary) → writes_result op ≡ keeps op
same_writes op = grind (arith, nat_tests)

module _ (s : State) (p : Processor) (free : Choice) (agrees : Agrees s p) (d : Register) (ok : well_formed d ≡ true) where
  -- mov
  mov-agrees : (o : Operand) → operand_well_formed o ≡ true → (eqb d.class 1 ≡ true → SizeFits d.size o)
      → Agrees (written s d (operand_of s d.size o)) (assign p d (argument p free d.size o))
  mov-agrees o ok-o fits =
      writes s p d (operand_of s d.size o) (argument p free d.size o) agrees ok
      (λ one.
      stores-known (form d ok one) (operand_of s d.size o) (argument p free d.size o)
      (operand_agrees s p free (form d ok one) o agrees ok-o)
      (argument-below p free d.size o (fits one)))

  -- not
  not_agrees : Agrees (written s d (complement (read_of s d))) (assign p d (2 ^ d.size - 1 - part p d))
  not_agrees =
      writes s p d (complement (read_of s d)) (2 ^ d.size - 1 - part p d) agrees ok
      (λ one. complement-stores (form d ok one) (read_of s d) (part p d) (reads s p d agrees ok) (part-below p d))

  module _ (one : eqb d.class 1 ≡ true) where
    width : Width
    width = width_in (form d ok one)

    width_is : bits width ≡ d.size
    unfolding width
    width_is = bits-law (form d ok one)

    sized : width_of d.size ≡ Some width
    unfolding width
    sized = width-law (form d ok one)

    -- add to test
    binary-agrees : (op : Binary) (o : Operand) → operand_well_formed o ≡ true → SizeFits d.size o
        → Agrees (arith_step s op d o) (binary p free op d o)
    unfolding arith_step binary
    binary-agrees op o ok-o fits =
        let x = part p d in
        let y = argument p free d.size o in
        let hx : x < 2 ^ d.size = part-below p d in
        let hy : y < 2 ^ d.size = argument-below p free d.size o fits in
        let effect = arith-agrees op width (same_register d o) (read_of s d) (operand_of s d.size o) x y
        (rw width_is hx) (rw width_is hy) (reads s p d agrees ok) (operand_agrees s p free (form d ok one) o agrees ok-o)
        (same-argument p free d.size d o one) in
        let there : EffectAgrees (arith_effect op (width_of d.size) (same_register d o) (read_of s d) (operand_of s d.size o))
        d.size (computed op d.size x y) = rw sized (rw width_is at effect) in
        let below = (right op).below d.size x y hx hy in
        rw (same_writes op) (finish-agrees s p d (keeps op) _ _ _ agrees ok one there.value below there.flags)

    -- inc, dec, neg of a known value
    known-agrees : (op : Unary) (a : ℕ) → read_of s d ≡ Some a
        → Agrees (finished s true d (unary_effect op (width_of d.size) s.flags.cf a)) (alone p op d)
    unfolding unary_effect alone
    known-agrees op a read_is =
        let x = part p d in
        let e : a ≡ x = rw read_is at (reads s p d agrees ok) in
        let hx : x < 2 ^ d.size = part-below p d in
        let same = alone-matches op width x (rw width_is hx) in
        let there : Matches d.size (perform_alone op width x) (computed_alone op d.size x) = rw width_is at same in
        rw (e, sized)
        (finish-agrees s p d true _ _ _ agrees ok one there.value (alone-below op d.size x)
        (kept-agrees op s.flags.cf p.status.cf _ _ agrees.flags.cf there.flags))

    -- inc, dec, neg of an unknown register, with their flags declared
    unknown-register : (rs : List Register) (n k x : ℕ) → read_of s d ≡ None
        → Allows (whole_of (forget_registers s rs n) k) (value (assign p d x) k)
    unfolding assign
    unknown-register rs n k x read_is =
        by_test (eqb k d.index)
        (λ t. less-known _ None _ (less_both _ _ _ (forgets s rs n k) (inr (rw (eqb-true k d.index t) (unread s d ok one read_is)))) tt)
        (λ t. rw (one, t) (less-known _ (whole_of s k) _ (forgets s rs n k) (agrees.registers k)))

    unknown-agrees : (i : Instruction) (op : Unary) → declares_own op i.flags ≡ true → read_of s d ≡ None
        → Agrees (unary_unknown s i op) (alone p op d)
    unfolding unary_unknown forgotten alone slot_at
    unknown-agrees i op declared read_is =
        record {
          registers = λ k. unknown-register i.written (min i.count 8) k _ read_is;
          flags = unknown-flags op i.flags s.flags.cf p.status.cf _ _ declared agrees.flags.cf;
        }

-- ---- a modelled instruction

fits-law : (d : Register) (o : Operand) → sizes_differ (Reg d) o ≡ false → eqb d.class 1 ≡ true → SizeFits d.size o
fits-law d Absent h one = tt
fits-law d (Reg r) h one = λ c. sym (eqb-true d.size r.size (not-false _ (rw (one, c) at h)))
fits-law d (Imm x) h one = tt
fits-law d Mem h one = tt

pub opposite-allows : (f : Option Bool) (b : Bool) → Allows f b → Allows (opposite f) (not b)
opposite-allows (Some a) b h = ap not h
opposite-allows None b h = tt

carry-allows : (c : CarryChange) (f : Option Bool) (b : Bool) → Allows f b → Allows (carry_rule c f) (carry_after c b)
carry-allows Stc f b h = refl
carry-allows Clc f b h = refl
carry-allows Cmc f b h = opposite-allows f b h

and-false : (a b : Bool) → (a && b) ≡ false → a ≡ true → b ≡ false
and-false a b h t = grind (arith, nat_tests)

-- a register first that is not outside class 1
inside : (d : Register) (o : Operand) → (true && (outside (Reg d) || outside o)) ≡ false → eqb d.class 1 ≡ true
inside d o h = grind (arith, nat_tests)

-- the three faults that a modelled instruction does not have
record Faultless (m : Mnemonic) (a b : Operand) (flags : ℕ) : Type 0 where
  first : operand_well_formed a ≡ true
  second : operand_well_formed b ≡ true
  sizes : sizes_differ a b ≡ false
  classes : (not (is_mov m) && (outside a || outside b)) ≡ false
  declared : undeclared m flags ≡ false

module _ (s : State) (p : Processor) (free : Choice) (agrees : Agrees s p) (i : Instruction) where
  unary-agrees : (op : Unary) (d : Register) → well_formed d ≡ true → eqb d.class 1 ≡ true → declares_own op i.flags ≡ true
      → (v : Option ℕ) → read_of s d ≡ v → Agrees (unary_on s i op d v) (alone p op d)
  unary-agrees op d ok one declared (Some a) e = known-agrees s p free agrees d ok one op a e
  unary-agrees op d ok one declared None e = unknown-agrees s p free agrees d ok one i op declared e

  register-agrees : (m : Mnemonic) (d : Register) → Faultless m (Reg d) i.second i.flags → Agrees (register_step s i m d) (on_register p i free m d)
  unfolding register_step on_register unary_step
  register-agrees Other d f = forgotten-agrees s p i free agrees
  register-agrees (Carry c) d f = forgotten-agrees s p i free agrees
  register-agrees Mov d f = mov-agrees s p free agrees d f.first i.second f.second (fits-law d i.second f.sizes)
  register-agrees Not d f = not_agrees s p free agrees d f.first
  register-agrees (TwoOperand op) d f =
      let one = inside d i.second f.classes in
      binary-agrees s p free agrees d f.first one op i.second f.second (fits-law d i.second f.sizes one)
  register-agrees (OneOperand op) d f =
      unary-agrees op d f.first (inside d i.second f.classes) (not-false (declares_own op i.flags) f.declared) (read_of s d) refl
  register-agrees (Jump c) d f = forgotten-agrees s p i free agrees
  register-agrees (CountJump c) d f = forgotten-agrees s p i free agrees

  first-agrees : (m : Mnemonic) (o : Operand) → Faultless m o i.second i.flags → Agrees (on_first s i m o) (on_operand p i free m o)
  first-agrees m Absent f = forgotten-agrees s p i free agrees
  first-agrees m (Reg d) f = register-agrees m d f
  first-agrees m (Imm x) f = forgotten-agrees s p i free agrees
  first-agrees m Mem f = forgotten-agrees s p i free agrees

  carry-agrees : (c : CarryChange) → Agrees (carry_step s c) (by_manual p i free (Carry c))
  unfolding carry_step by_manual slot_at
  carry-agrees c =
      let f = agrees.flags in
      record {
        registers = agrees.registers;
        flags = record { cf = carry-allows c s.flags.cf p.status.cf f.cf; pf = f.pf; zf = f.zf; sf = f.sf; of = f.of };
      }

  by-mnemonic : (m : Mnemonic) → Faultless m i.first i.second i.flags → Agrees (modelled_step s i m) (by_manual p i free m)
  unfolding modelled_step by_manual
  by-mnemonic Other f = forgotten-agrees s p i free agrees
  by-mnemonic (Carry c) f = carry-agrees c
  by-mnemonic Mov f = first-agrees Mov i.first f
  by-mnemonic Not f = first-agrees Not i.first f
  by-mnemonic (TwoOperand op) f = first-agrees (TwoOperand op) i.first f
  by-mnemonic (OneOperand op) f = first-agrees (OneOperand op) i.first f
  by-mnemonic (Jump c) f = forgotten-agrees s p i free agrees
  by-mnemonic (CountJump c) f = forgotten-agrees s p i free agrees

  modelled-agrees : Accepted i → modelled i ≡ true → Agrees (modelled_step s i i.mnemonic) (by_manual p i free i.mnemonic)
  modelled-agrees accepted is =
      let differ : Bool = sizes_differ i.first i.second in
      let other : Bool = not (is_mov i.mnemonic) && (outside i.first || outside i.second) in
      let lacking : Bool = undeclared i.mnemonic i.flags in
      let none : (differ || other || lacking) ≡ false = and-false (modelled i) (differ || other || lacking) accepted.sound is in
      let both : (differ || other) ≡ false = or_left (differ || other) lacking none in
      by-mnemonic i.mnemonic
      (record {
        first = accepted.first;
        second = accepted.second;
        sizes = or_left differ other both;
        classes = or_right differ other both;
        declared = or_right (differ || other) lacking none;
      })

replicated : (n k : ℕ) → get_or (replicate n unmarked) k unmarked ≡ unmarked
replicated zero k = refl
replicated (suc n) zero = refl
replicated (suc n) (suc k) = replicated n k

-- nothing known agrees with every state
pub nothing_known_lem : (p : Processor) → Agrees nothing_known p
unfolding nothing_known slot_at
nothing_known_lem p =
    record {
      registers = λ k. by_test (ltb k 16) (λ t. rw (t, replicated 16 k) tt) (λ t. rw t tt);
      flags = record { cf = tt; pf = tt; zf = tt; sf = tt; of = tt };
    }

picked : (c m : Bool) (s₁ s₂ s₃ : State) (p₁ p₂ p₃ : Processor) → Agrees s₁ p₁ → (m ≡ true → Agrees s₂ p₂) → (m ≡ false → Agrees s₃ p₃)
    → Agrees (cond c s₁ (cond m s₂ s₃)) (cond c p₁ (cond m p₂ p₃))
picked true m s₁ s₂ s₃ p₁ p₂ p₃ h₁ h₂ h₃ = h₁
picked false true s₁ s₂ s₃ p₁ p₂ p₃ h₁ h₂ h₃ = h₂ refl
picked false false s₁ s₂ s₃ p₁ p₂ p₃ h₁ h₂ h₃ = h₃ refl

-- STEP SOUNDNESS. What is known after an accepted instruction agrees with the concrete state after it.
pub step-sound : (s : State) (p : Processor) (i : Instruction) (free : Choice) → Accepted i → Agrees s p → Agrees (stepped s i) (executed p i free)
unfolding stepped executed
step-sound s p i free accepted agrees =
    picked i.call (modelled i) nothing_known (modelled_step s i i.mnemonic) (forgotten s i) _ (by_manual p i free i.mnemonic) (by_declaration p i free)
    (nothing_known_lem _)
    (modelled-agrees s p free agrees i accepted)
    (λ u. forgotten-agrees s p i free agrees)

-- the same for instructions in order, each with its choice
pub steps-sound : (s : State) (p : Processor) (is : List Instruction) (free : ℕ → Choice) → AllAccepted is → Agrees s p
    → Agrees (stepped_all s is) (executed_all p is free)
unfolding stepped_all executed_all
steps-sound s p [] free accepted agrees = agrees
steps-sound s p (i ∷ is) free accepted agrees =
    steps-sound (stepped s i) (executed p i (free 0)) is (λ k. free (suc k)) accepted.1
    (step-sound s p i (free 0) accepted.0 agrees)
