-- What sentences give as the cause of a flag's value, as text.
use Rattle.std.specs.Prelude.{ℕ, List, ◌++◌, codes}
use Rattle.isa.specs.declared.Register.{Register}
use Rattle.isa.specs.declared.Binary.{Binary}
use Rattle.wording.specs.Names.{register_name, instruction_name}
use Rattle.wording.specs.Values.{is_text}

-- stc and clc (W6).
abbrev pub stc_text : List ℕ
stc_text = codes "stc sets the carry"

abbrev pub clc_text : List ℕ
clc_text = codes "clc clears the carry"

-- The value that a register had before the instruction (W5).
unfoldable pub value_text : Register → ℕ → List ℕ
value_text r value = is_text r r.size value ++ codes " here"

-- The values of two registers, both at the first one's size (W5).
unfoldable pub values_text : Register → ℕ → Register → ℕ → List ℕ
values_text r value second other = is_text r r.size value ++ codes " and " ++ is_text second r.size other ++ codes " here"

-- cmp of a register with itself (W8).
unfoldable pub itself_text : Register → List ℕ
itself_text r = register_name r ++ codes " is compared with itself"

-- A logical instruction whose result is not known (W9).
unfoldable pub carry_text : Binary → List ℕ
carry_text op = instruction_name op ++ codes " clears the carry"

unfoldable pub overflow_text : Binary → List ℕ
overflow_text op = instruction_name op ++ codes " clears the overflow"
