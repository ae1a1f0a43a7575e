-- The theorems about verdicts. `forced`: a branch is always (never) exactly when it is taken (not taken) in every state that
-- agrees with what is known. `whole-runs`: no run of a block goes against its verdict.
use Rattle.std.proofs.Common.{None, Option, Some}
use Prim.{tt}
use Prim.Native.Nat.{ℕ}
use mathlib.Core.Path.{◌≡◌, refl, sym, ap, ◌∙◌}
use mathlib.Core.Logic.{◌↔◌}
use mathlib.Core.Bool.{Bool, true, false, not}
use mathlib.Core.List.{List}
use Rattle.isa.specs.declared.Mnemonic.{Mnemonic}
use Rattle.isa.specs.declared.Mnemonic.TheVariants.{Other, Carry, Mov, Not, TwoOperand, OneOperand, Jump, CountJump}
use Rattle.isa.specs.declared.Instruction.{Instruction}
use Rattle.known.specs.Conditions.{flag_condition, is_zero}
use Rattle.machine.specs.declared.State.{State}
use Rattle.machine.specs.Registers.{nothing_known, read_of}
use Rattle.machine.specs.Rules.{stepped_all}
use Rattle.machine.specs.Conditions.{count_register, condition_of}
use Rattle.concrete.specs.Concrete.{Processor, Choice, executed_all, jumps_on, jumps_at, outcome}
use Rattle.concrete.specs.Agreement.{Allows, Agrees, AllAccepted}
use Rattle.concrete.proofs.Registers.{never}
use Rattle.concrete.proofs.Sound.{nothing_known_lem, steps-sound}
use Rattle.concrete.proofs.Jumps.{Exact, exact-jump, exact-count}

-- a flag that allows one setting alone is known
only : (t : Option Bool) (b : Bool) → ((c : Bool) → Allows t c → c ≡ b) → t ≡ Some b
only (Some a) b h = ap Some (h a refl)
only None true h = never (h false tt)
only None false h = never (sym (h true tt))

not_known : {X : Type 0} (b : Bool) → None ≡ Some b → X
not_known b h = let e : false ≡ true = cc in never e

not_itself : {X : Type 0} (b : Bool) → not b ≡ b → X
not_itself true h = never h
not_itself false h = never (sym h)

-- a branch of any other mnemonic goes as it is chosen
free-branch : (s : State) (p : Processor) → Agrees s p → (b : Bool)
    → (None ≡ Some b) ↔ ((q : Processor) (free : Bool) → Agrees s q → free ≡ b)
free-branch s p agrees b = ((λ h. not_known b h), (λ h. not_itself b (h p (not b) agrees)))

exact-branch : (s : State) (p : Processor) → Agrees s p → (t : Option Bool) (test : Processor → Bool) (b : Bool)
    → ((q : Processor) → Agrees s q → Exact s q t test)
    → (t ≡ Some b) ↔ ((q : Processor) (free : Bool) → Agrees s q → test q ≡ b)
exact-branch s p agrees t test b exact = (
  (λ h q free fits. sym (rw h at (exact q fits).sound)),
  (λ h. only t b (λ c k. let r = (exact p agrees).reached c k in sym r.is ∙ h r.state true r.agrees)),
)

-- FORCED. With p a state that agrees with what is known, it is known of a conditional branch of mnemonic m that it jumps
-- (b set) or that it does not (b clear) exactly when its outcome is b in every state that agrees, and with every free choice.
pub forced : (s : State) (p : Processor) → Agrees s p → (m : Mnemonic) (b : Bool)
    → (condition_of s m ≡ Some b) ↔ ((q : Processor) (free : Bool) → Agrees s q → outcome m q free ≡ b)
unfolding condition_of outcome
forced s p agrees Other b = free-branch s p agrees b
forced s p agrees (Carry c) b = free-branch s p agrees b
forced s p agrees Mov b = free-branch s p agrees b
forced s p agrees Not b = free-branch s p agrees b
forced s p agrees (TwoOperand op) b = free-branch s p agrees b
forced s p agrees (OneOperand op) b = free-branch s p agrees b
forced s p agrees (Jump c) b =
    exact-branch s p agrees (flag_condition c s.flags) (λ q. jumps_on c q.status) b (λ q fits. exact-jump s q fits c)
forced s p agrees (CountJump c) b =
    exact-branch s p agrees (is_zero (read_of s (count_register c))) (jumps_at c) b (λ q fits. exact-count s q fits c)

-- WHOLE RUNS. Whatever the start state and whatever is chosen, the outcome of a block's run, its body of accepted
-- instructions and then a conditional branch of mnemonic m, is what the verdict says, where there is one.
pub whole-runs : (body : List Instruction) (m : Mnemonic) → AllAccepted body → (b : Bool) → condition_of (stepped_all nothing_known body) m ≡ Some b
    → (start : Processor) (free : ℕ → Choice) (last : Bool) → outcome m (executed_all start body free) last ≡ b
whole-runs body m accepted b h start free last =
    let agrees = steps-sound nothing_known start body free accepted (nothing_known_lem start) in
    (forced (stepped_all nothing_known body) (executed_all start body free) agrees m b).0 h (executed_all start body free) last agrees

-- a state to start from
somewhere : Processor
somewhere = record { register = λ k. 0; status = record { cf = false; pf = false; zf = false; sf = false; of = false } }

-- FORCED, AT A BRANCH. After any body of accepted instructions there is such a state: the branch is always (never) exactly
-- where it jumps (does not jump) in each concrete state that agrees with what is known, whatever the rest is.
pub forced-at-branch : (body : List Instruction) → AllAccepted body → (m : Mnemonic) (b : Bool)
    → (condition_of (stepped_all nothing_known body) m ≡ Some b)
    ↔ ((q : Processor) (free : Bool) → Agrees (stepped_all nothing_known body) q → outcome m q free ≡ b)
forced-at-branch body accepted m b =
    let still : ℕ → Choice = λ k. record { memory = 0; other = 0; registers = λ r. 0; status = somewhere.status } in
    forced (stepped_all nothing_known body) (executed_all somewhere body still)
    (steps-sound nothing_known somewhere body still accepted (nothing_known_lem somewhere)) m b
