-- The text of a cause as the code has it.
use Rattle.std.specs.Prelude.{ℕ, List, []}
use Rattle.isa.specs.declared.Binary.{Binary}
use Rattle.phrase.specs.declared.FlagGroup.{FlagGroup}
use Rattle.phrase.specs.declared.FlagGroup.TheVariants as group
use Rattle.phrase.specs.declared.Cause.{Cause}
use Rattle.phrase.specs.declared.Cause.TheVariants.{Nothing, Stc, Clc, Value, Values, Itself, ClearsCarry, ClearsOverflow}
use Rattle.phrase.specs.Causes.{stc_text, clc_text, value_text, values_text, itself_text, carry_text, overflow_text}

-- the text of each cause; where no instruction has set the flag there is none
abbrev pub cause_text : Cause → List ℕ
cause_text Nothing = []
cause_text Stc = stc_text
cause_text Clc = clc_text
cause_text (Value r value) = value_text r value
cause_text (Values r value second other) = values_text r value second other
cause_text (Itself r) = itself_text r
cause_text (ClearsCarry op) = carry_text op
cause_text (ClearsOverflow op) = overflow_text op

-- what is said where an operand is unknown: of CF, or, of the other flags, of OF
abbrev pub cleared_text : Binary → FlagGroup → List ℕ
cleared_text op group.Carry = carry_text op
cleared_text op group.Result = overflow_text op
