-- What the contracts of the operation's parts give.
use Rattle.std.specs.Prelude.{ℕ, ◌≤◌, List, ◌++◌, get_or}
use Rattle.std.proofs.Math.Seq.{slice}
use Rattle.isa.specs.declared.Instruction.{Instruction}
use Rattle.machine.specs.Registers.{nothing_known}
use Rattle.machine.specs.Rules.{stepped_all}
use Rattle.phrase.specs.declared.FlagGroup.{FlagGroup}
use Rattle.phrase.specs.declared.FlagGroup.TheVariants as group
use Rattle.sentence_text.specs.Sentence.{turned_times}
use Rattle.sentence.specs.declared.Setters.{Setters}
use Rattle.sentence.specs.Why.{no_why, why_stepped_all}
use Rattle.sentence.specs.Promises.{own_text, Share}

-- what the instruction of that number says of CF, or of the other flags, where the block starts at number `first`
abbrev pub own_at : List Instruction → (first : ℕ) → FlagGroup → (number : ℕ) → Instruction → List ℕ
own_at l first group number none =
    own_text (stepped_all nothing_known (slice first number l)) (get_or l number none).mnemonic (get_or l number none).first (get_or l number none).second group

-- what the causes say: that of CF, with what cmc adds, and that of the other flags
abbrev pub carry_at : List Instruction → (first : ℕ) → Setters → Instruction → List ℕ
carry_at l first t none = own_at l first group.Carry t.carry none ++ turned_times t.turns

abbrev pub result_at : List Instruction → (first : ℕ) → Setters → Instruction → List ℕ
result_at l first t none = own_at l first group.Result t.result none

-- the causes of the flags that are known after the instructions from number `first` up to `end`
pub record Traced (l : List Instruction) (first end : ℕ) (t : Setters) : Type 0 where
  pub share : (none : Instruction) → Share (stepped_all nothing_known (slice first end l)).flags (why_stepped_all nothing_known no_why (slice first end l)) (carry_at l first t none) (result_at l first t none)
  pub result : t.result ≤ end
  pub carry : t.carry ≤ end
  pub turns : t.turns ≤ end
