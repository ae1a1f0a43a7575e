-- The sentence of a block's verdict.
use Rattle.std.specs.Prelude.{ℕ, List, [], Option, Some, None}
use Rattle.machine.specs.declared.State.{State}
use Rattle.machine.specs.Registers.{nothing_known}
use Rattle.machine.specs.Rules.{stepped_all}
use Rattle.isa.specs.declared.Mnemonic.{Mnemonic}
use Rattle.verdict_block.specs.Verdict.{code_of, Parts, apart, jump_of}
use Rattle.verdict_block.specs.Verdict.Parts.{none, ending}
use Rattle.sentence.specs.Why.{Why, no_why, why_stepped_all}
use Rattle.sentence.specs.Told.{told_of, sentence_of}

-- The sentence of a jump, by what is known at it; without a conditional branch there is none (W16).
abbrev pub jump_sentence : State → Why → Option Mnemonic → List ℕ
jump_sentence known why (Some m) = sentence_of (told_of known why m)
jump_sentence known why None = []

-- The sentence at the end of instructions, from what is known at their start and why (W11, W16).
abbrev pub sentence_at : State → Why → Parts → List ℕ
sentence_at start why none = []
sentence_at start why (ending before last) = jump_sentence (stepped_all start before) (why_stepped_all start why before) (jump_of last)

-- The sentence of the block of that number: nothing is known where it starts (W11).
unfoldable pub sentence_on : List ℕ → ℕ → List ℕ
sentence_on s number = sentence_at nothing_known no_why (apart (code_of s number))
