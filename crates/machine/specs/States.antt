-- States with a part replaced: shorthands of the rules, which say nothing by themselves.
use Rattle.std.specs.Prelude.{ℕ, cond, set, ltb}
use Rattle.isa.specs.declared.Register.{Register}
use Rattle.alu.specs.declared.Flags.{Flags}
use Rattle.known.specs.declared.Slot.{Slot}
use Rattle.machine.specs.declared.State.{State}

-- how many registers there are (M2)
abbrev pub register_count : ℕ
register_count = 16

-- the state with something else known of a register
unfoldable pub replaced : State → ℕ → Slot → State
replaced s index slot =
    cond (ltb index register_count)
    (record s { registers = set s.registers index slot })
    s

-- the state with other flags
abbrev pub with_flags : State → Flags → State
with_flags s f = record s { flags = f }

-- past the end of a list
abbrev pub no_register : Register
no_register = record { class = 0; index = 0; size = 0; offset = 0 }
