-- A block's end and the verdict there, by the rules of the machine.
use Rattle.std.specs.Prelude.{ℕ, List, [], ◌∷◌, cond, ◌&&◌, leb, ltb, get_or, Bool, true, false, Option, Some, None, is_some}
use Rattle.std.specs.Bool.{then_some}
use Rattle.isa.specs.declared.Mnemonic.{Mnemonic}
use Rattle.isa.specs.declared.Instruction.{Instruction}
use Rattle.machine.specs.declared.State.{State}
use Rattle.machine.specs.Registers.{nothing_known}
use Rattle.machine.specs.Rules.{stepped_all}
use Rattle.machine.specs.Conditions.{condition_of}
use Rattle.verdict.specs.declared.Reason.TheVariants.{Flags}
use Rattle.verdict.specs.declared.Verdict.{Verdict}
use Rattle.verdict.specs.declared.Verdict.TheVariants.{Always, Never, Undecided, NoBranch}
use Rattle.sheet.specs.Sheet.{no_block, sheet_at}

-- Of all instructions, those of a block: at or above its first address and below its second, in the sheet's order (S26).
unfoldable pub within : ℕ → ℕ → List Instruction → List Instruction
within from to [] = []
within from to (i ∷ l) = cond (leb from i.address && ltb i.address to) (i ∷ within from to l) (within from to l)

-- the instructions of the block of that number
unfoldable pub code_of : List ℕ → ℕ → List Instruction
code_of s number =
    let block = get_or (sheet_at s).blocks.list number no_block in
    within block.from block.to (sheet_at s).instructions.list

-- instructions taken apart: the last one with those before it
pub data Parts : Type 0 where
  none : Parts
  ending : (before : List Instruction) (last : Instruction) → Parts

abbrev pub preceded : Instruction → Parts → Parts
preceded i none = ending [] i
preceded i (ending before last) = ending (i ∷ before) last

unfoldable pub apart : List Instruction → Parts
apart [] = none
apart (i ∷ l) = preceded i (apart l)

-- Only a conditional branch is judged (M22).
abbrev pub jump_of : Instruction → Option Mnemonic
jump_of i = then_some (is_some i.target) i.mnemonic

-- A block's end: what is known at its last instruction, and that instruction.
pub record End : Type 0 where
  pub known : State
  pub jump : Option Mnemonic

-- What is known at the last instruction is what the rules yield from those before it; a block with no instruction has
-- nothing to judge (M22, M23).
abbrev pub end_at : State → Parts → End
end_at start none = record { known = start; jump = None }
end_at start (ending before last) = record { known = stepped_all start before; jump = jump_of last }

-- the end of instructions, from what is known at their start
unfoldable pub end_from : State → List Instruction → End
end_from start code = end_at start (apart code)

-- A condition known to hold is always, one known to fail never, each by flags.
abbrev pub flag_verdict : Option Bool → Verdict
flag_verdict (Some true) = Always Flags
flag_verdict (Some false) = Never Flags
flag_verdict None = Undecided

-- The verdict on a jump, by what is known at it.
abbrev pub judged : State → Option Mnemonic → Verdict
judged known (Some mnemonic) = flag_verdict (condition_of known mnemonic)
judged known None = NoBranch

-- the verdict at a block's end
abbrev pub verdict_at : End → Verdict
verdict_at end = judged end.known end.jump

-- the end of the block of that number, from what is known at its start
unfoldable pub end_on : List ℕ → ℕ → State → End
end_on s number start = end_from start (code_of s number)

-- The verdict on the block of that number: nothing is known where it starts (M4).
unfoldable pub verdict_on : List ℕ → ℕ → Verdict
verdict_on s number = verdict_at (end_on s number nothing_known)
