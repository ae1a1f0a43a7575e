-- What the readers of a record's parts give, at plain offsets.
use Rattle.std.specs.Prelude.{ℕ, ◌+◌, List, Bool, cond}
use Rattle.sheet_field.specs.Field.{Place, little}
use Rattle.sheet_instruction.specs.Instruction.{tail_at}
use Rattle.sheet_accepted.specs.declared.Content.{Content}

-- the number of n bytes at an offset, or 0 where it is not there
abbrev pub number_if : Bool → ℕ → List ℕ → ℕ → ℕ
number_if there n s at = cond there (little s at n) 0

-- the offset after it
abbrev pub behind_if : Bool → ℕ → ℕ → ℕ
behind_if there n at = cond there (at + n) at

-- a tail without the offset after it
abbrev pub content_at : ℕ → List ℕ → Place → Content
content_at map s p =
    let t = tail_at map s p in
    record { first = t.first; second = t.second; written = t.written; count = t.count; flags = t.flags }
