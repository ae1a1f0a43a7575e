-- Blocks, forced: the verdict on a flag branch is always, or never, exactly where what is known forces the branch that way.
use Rattle.std.proofs.Common.{arith, Option, Some}
use Prim.Native.Nat.{ℕ}
use mathlib.Core.Path.{◌≡◌, ap, ◌∙◌}
use mathlib.Core.List.{List}
use mathlib.Core.Logic.{◌↔◌}
use mathlib.Core.Bool.{Bool, true, false}
use Rattle.std.specs.Prelude.{Ok}
use Rattle.isa.specs.declared.Mnemonic.{Mnemonic}
use Rattle.machine.specs.declared.State.{State}
use Rattle.machine.specs.Registers.{nothing_known}
use Rattle.concrete.specs.Concrete.{Processor, Choice, executed_all}
use Rattle.concrete.specs.Agreement.{Agrees}
use Rattle.concrete.proofs.Sound.{nothing_known_lem, steps-sound}
use Rattle.concrete.proofs.Forced.{forced}
use Rattle.sheet.specs.declared.Sheet.{Sheet}
use Rattle.sheet.specs.Sheet.{reading_of}
use Rattle.verdict.specs.declared.Reason.TheVariants.{Flags}
use Rattle.verdict.specs.declared.Verdict.{Verdict}
use Rattle.verdict.specs.declared.Verdict.TheVariants.{Always, Never}
use Rattle.verdict_block.specs.Verdict.{code_of, Parts, apart, flag_verdict, end_at, end_from, end_on, verdict_on}
use Rattle.verdict_block.specs.Verdict.Parts.{none, ending}
use Rattle.theorems.specs.Runs.{Forced}
use Rattle.theorems.proofs.Sound.{all-of-block, Before, before_last}

-- always for a branch that jumps, never for one that does not
abbrev pub saying : Bool → Verdict
saying true = Always Flags
saying false = Never Flags

judged-is : (f : Option Bool) (b : Bool) → flag_verdict f ≡ saying b → f ≡ Some b
judged-is f b e = grind arith

is-judged : (b : Bool) → flag_verdict (Some b) ≡ saying b
is-judged b = grind arith

-- what is known at an end has a concrete state that agrees
record Possible (known : State) : Type 0 where
  state : Processor
  agrees : Agrees known state

some-choice : Choice
some-choice =
    record {
      memory = 0;
      other = 0;
      registers = λ k. 0;
      status = record { cf = false; pf = false; zf = false; sf = false; of = false };
    }

possible : (s : State) (p : Processor) (parts : Parts) → Before parts → Agrees s p → Possible (end_at s parts).known
possible s p none a agrees = record { state = p; agrees = agrees }
possible s p (ending before i) a agrees =
    record { state = executed_all p before (λ k. some-choice); agrees = steps-sound s p before (λ k. some-choice) a agrees }

-- The theorem: for every accepted sheet and every block of it that ends in a conditional branch.
pub blocks-forced : (s : List ℕ) (sheet : Sheet) → reading_of s ≡ Ok sheet → (number : ℕ) (known : State) (m : Mnemonic)
    → end_on s number nothing_known ≡ record { known = known; jump = Some m }
    → (b : Bool) → (verdict_on s number ≡ saying b) ↔ Forced known m b
unfolding verdict_on end_on end_from
blocks-forced s sheet read number known m e b =
    let start : Processor = record { register = λ k. 0; status = some-choice.status } in
    let code = code_of s number in
    let r = possible nothing_known start (apart code) (before_last code (all-of-block s sheet read number)) (nothing_known_lem start) in
    let f = forced known r.state (rw e at r.agrees) m b in
    ((λ v. f.0 (judged-is _ b (rw e at v))), (λ g. rw e (ap flag_verdict (f.1 g) ∙ is-judged b)))
