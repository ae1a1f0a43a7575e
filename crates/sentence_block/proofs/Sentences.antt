-- The sentence at the end of a range of instructions.
use Prim.Native.Nat.{ℕ, ◌+◌, ◌≤◌, ◌<◌}
use mathlib.Core.Path.{◌≡◌}
use mathlib.Core.List.{List, []}
use native.Mathlib.Omega.{arith}
use lib.ListN.{length, get_or}
use lib.Seq.{slice}
use Rattle.isa.specs.declared.Mnemonic.{Mnemonic}
use Rattle.isa.specs.declared.Instruction.{Instruction}
use Rattle.machine.specs.Registers.{nothing_known}
use Rattle.machine.specs.Rules.{stepped_all}
use Rattle.sheet.specs.Sheet.{sheet_at}
use Rattle.sheet.proofs.Fronts.{one}
use Rattle.verdict_block.specs.declared.Range.{Range}
use Rattle.std.specs.Prelude.{Option, Some, None}
use Rattle.verdict_block.specs.Verdict.{apart, jump_of}
use Rattle.verdict_block.specs.Promises.{RangeOf}
use Rattle.verdict_block.proofs.Between.{apart_none, apart-between}
use Rattle.sentence.specs.declared.Setters.{Setters}
use Rattle.sentence.specs.declared.Telling.{Telling}
use Rattle.sentence.specs.Why.{no_why}
use Rattle.sentence.specs.Promises.{telling_of, telling_text}
use Rattle.sentence.proofs.Tellings.{telling-text}
use Rattle.sentence_block.specs.Sentence.{sentence_at, sentence_on}
use Rattle.sentence_block.specs.Promises.{carry_at, result_at, Traced}

module _ (l : List Instruction) where
  -- there is no instruction
  pub sentence-none : (first end : ℕ) → end ≤ first → [] ≡ sentence_at nothing_known no_why (apart (slice first end l))
  sentence-none first end out = rw (apart_none l first end out)

  module _ (first last end : ℕ) (below : first < end) (last-is : last + 1 ≡ end) (fits : end ≤ length l) {jump : Option Mnemonic}
      (jump-is : (d : Instruction) → jump ≡ jump_of (get_or l last d)) where
    some : Instruction
    some = one l last (omega (arith, last-is, fits))

    -- the last one is no branch
    pub sentence-other : jump ≡ None → [] ≡ sentence_at nothing_known no_why (apart (slice first end l))
    sentence-other is = rw (apart-between l first last end some below last-is fits, ← jump-is some, is)

    -- it is one
    pub sentence-branch : {m : Mnemonic} {t : Setters} {telling : Option Telling} {said : List ℕ} → jump ≡ Some m → Traced l first last t
        → telling ≡ telling_of (stepped_all nothing_known (slice first last l)) m
        → ((d : Instruction) → said ≡ telling_text telling (carry_at l first t d) (result_at l first t d))
        → said ≡ sentence_at nothing_known no_why (apart (slice first end l))
    sentence-branch {m} is traced telling-is said-is =
        rw (apart-between l first last end some below last-is fits, ← jump-is some, is, said-is some, telling-is)
        (telling-text _ _ (traced.share some) m)

-- a block's sentence, from its range
pub on-range : (s : List ℕ) (number : ℕ) {range : Range} {sentence : List ℕ} → RangeOf s number range
    → sentence ≡ sentence_at nothing_known no_why (apart (slice range.first range.end (sheet_at s).instructions.list))
    → sentence ≡ sentence_on s number
unfolding sentence_on
on-range s number of is = rw of.code is
