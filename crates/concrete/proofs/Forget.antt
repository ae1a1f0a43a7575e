-- Forgetting what is declared keeps agreement with whatever the declared registers and flags become.
use native.Mathlib.Omega.{arith}
use Rattle.std.proofs.lemmas.Bool.Decides.{nat_tests}
use Rattle.std.proofs.Common.{None, Option}
use Prim.{tt}
use Prim.Native.Nat.{ℕ, zero, suc, min}
use mathlib.Core.Path.{◌≡◌, refl, ◌∙◌}
use mathlib.Core.Logic.{◌⊎◌, inl, inr, ◌≢◌}
use mathlib.Core.Bool.{Bool, true, false, ◌&&◌}
use mathlib.Core.List.{List}
use borrow.Author.Tests.{eqb-true, eqb-false}
use lib.Dec.{eqb}
use lib.ListN.{get_or}
use Rattle.isa.specs.declared.Register.{Register}
use Rattle.isa.specs.declared.Instruction.{Instruction}
use Rattle.alu.specs.declared.Flags.{Flags}
use Rattle.machine.specs.declared.State.{State}
use Rattle.known.specs.Operations.{forget_flag, forget_flags}
use Rattle.known.specs.Registers.{unmarked}
use Rattle.isa.specs.FlagBits as bit
use Rattle.machine.specs.States.{no_register}
use Rattle.machine.specs.Registers.{slot_at, whole_of, forget_register, forget_registers, forgotten}
use Rattle.concrete.specs.Concrete.{Status, Processor, Choice, declares, chosen, declared_status, by_declaration}
use Rattle.concrete.specs.Agreement.{Allows, FlagsAgree, Agrees}
use Rattle.concrete.proofs.Registers.{replaced-same, replaced-other, never}
use Rattle.machine.proofs.Kept.{forgetting-flags}
use Rattle.laws.proofs.Booleans.{and_left, and_right, by_test}

-- no more is known
abbrev pub Less : Option ℕ → Option ℕ → Type 0
Less v u = (v ≡ None) ⊎ (v ≡ u)

pub less-known : (v u : Option ℕ) (y : ℕ) → Less v u → Allows u y → Allows v y
less-known v u y (inl e) h = rw e tt
less-known v u y (inr e) h = rw e h

pub less_both : (v u w : Option ℕ) → Less v u → Less u w → Less v w
less_both v u w (inl e) k = inl e
less_both v u w (inr e) (inl k) = inl (e ∙ k)
less_both v u w (inr e) (inr k) = inr (e ∙ k)

less-unknown : (v u : Option ℕ) → Less v u → u ≡ None → v ≡ None
less-unknown v u l h = grind (arith, nat_tests)

-- what allows 0 and 1 is unknown
open-value : (v : Option ℕ) → Allows v 0 → Allows v 1 → v ≡ None
open-value v a b = grind (arith, nat_tests)

forget-here : (s : State) (r : Register) → eqb r.class 1 ≡ true → whole_of (forget_register s r) r.index ≡ None
unfolding forget_register
forget-here s r one =
    rw one (open-value _ (replaced-same s r.index unmarked 0 tt) (replaced-same s r.index unmarked 1 tt))

forget-elsewhere : (s : State) (r : Register) (k : ℕ) → k ≢ r.index → whole_of (forget_register s r) k ≡ whole_of s k
unfolding forget_register
forget-elsewhere s r k other = grind (arith, nat_tests, replaced-other)

forget-outside : (s : State) (r : Register) (k : ℕ) → eqb r.class 1 ≡ false → whole_of (forget_register s r) k ≡ whole_of s k
unfolding forget_register
forget-outside s r k other = grind (arith, nat_tests)

forget-there : (s : State) (r : Register) (k : ℕ) → Less (whole_of (forget_register s r) k) (whole_of s k)
forget-there s r k =
    by_test (eqb r.class 1)
    (λ one. by_test (eqb k r.index)
    (λ t. inl (rw (eqb-true k r.index t) (forget-here s r one)))
    (λ t. inr (forget-elsewhere s r k (eqb-false k r.index t))))
    (λ other. inr (forget-outside s r k other))

pub forgets : (s : State) (rs : List Register) (n k : ℕ) → Less (whole_of (forget_registers s rs n) k) (whole_of s k)
unfolding forget_registers
forgets s rs zero k = inr refl
forgets s rs (suc n) k =
    less_both _ _ _ (forget-there (forget_registers s rs n) (get_or rs n no_register) k) (forgets s rs n k)

pub forgot : (s : State) (rs : List Register) (n k : ℕ) → declares rs n k ≡ true → whole_of (forget_registers s rs n) k ≡ None
unfolding forget_registers declares
forgot s rs zero k h = never h
forgot s rs (suc n) k h =
    let r = get_or rs n no_register in
    by_test (eqb r.class 1 && eqb k r.index)
    (λ t.
    rw (eqb-true k r.index (and_right (eqb r.class 1) _ t))
    (forget-here (forget_registers s rs n) r (and_left (eqb r.class 1) _ t)))
    (λ t. less-unknown _ _ (forget-there (forget_registers s rs n) r k) (forgot s rs n k (rw t at h)))

flag-law : (declared : Bool) (f : Option Bool) (new old : Bool) → Allows f old → Allows (forget_flag declared f) (chosen declared new old)
flag-law true f new old h = tt
flag-law false f new old h = h

declared-flags : (d : ℕ) (f : Flags) (new old : Status) → FlagsAgree f old → FlagsAgree (forget_flags d f) (declared_status d new old)
unfolding forget_flags declared_status
declared-flags d f new old h =
    record {
      cf = flag-law (bit.declares d bit.CF) f.cf new.cf old.cf h.cf;
      pf = flag-law (bit.declares d bit.PF) f.pf new.pf old.pf h.pf;
      zf = flag-law (bit.declares d bit.ZF) f.zf new.zf old.zf h.zf;
      sf = flag-law (bit.declares d bit.SF) f.sf new.sf old.sf h.sf;
      of = flag-law (bit.declares d bit.OF) f.of new.of old.of h.of;
    }

-- all that is not modelled
pub forgotten-agrees : (s : State) (p : Processor) (i : Instruction) (free : Choice) → Agrees s p → Agrees (forgotten s i) (by_declaration p i free)
unfolding forgotten by_declaration slot_at
forgotten-agrees s p i free agrees =
    record {
      registers = λ k.
          by_test (declares i.written (min i.count 8) k)
          (λ t. less-known _ None _ (inl (forgot s i.written (min i.count 8) k t)) tt)
          (λ t. rw t (less-known _ (whole_of s k) _ (forgets s i.written (min i.count 8) k) (agrees.registers k)));
      flags =
          rw (forgetting-flags s i.written (min i.count 8))
          (declared-flags i.flags s.flags free.status p.status agrees.flags);
    }
