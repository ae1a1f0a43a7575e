-- What is known of a register, and of its parts.
use Rattle.std.specs.Prelude.{ℕ, ◌-◌, ◌^◌, cond, eqb, Option, Some, None}
use Rattle.std.specs.Option.{option_map}
use Rattle.alu.specs.declared.Width.{Width}
use Rattle.known.specs.declared.Slot.{Slot}
use Rattle.known.specs.Values.{extracted, merged}

-- a register that is not known; it holds 0 (M2)
abbrev pub unmarked : Slot
unmarked = record { known = 0; value = 0 }

-- all marks of a register: 255 for each of its eight bytes
abbrev pub all_marks : ℕ
all_marks = 2 ^ 64 - 1

-- a register is known whole, by its marks, or not at all (M2)
abbrev pub contents : Slot → Option ℕ
contents s = cond (eqb s.known all_marks) (Some s.value) None

abbrev pub slot_of : Option ℕ → Slot
slot_of (Some x) = record { known = all_marks; value = x }
slot_of None = unmarked

-- a read: a part is known where the whole is; of a part that has no width nothing is known (M2)
unfoldable pub part_of : Option Width → ℕ → Slot → Option ℕ
part_of (Some w) offset s = option_map (extracted w offset) (contents s)
part_of None offset s = None

-- a write to a part; one to a part that has no width leaves nothing known (M7, M8, M9)
unfoldable pub with_part : Option Width → ℕ → Slot → Option ℕ → Slot
with_part (Some w) offset s v = slot_of (merged w offset (contents s) v)
with_part None offset s v = unmarked
