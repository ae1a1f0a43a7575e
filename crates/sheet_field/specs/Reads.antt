-- What the methods of a reader promise of the reader.
use Rattle.std.specs.Prelude.{ℕ, ◌≡◌, Result, Ok, Err}
use Rattle.refusal.specs.declared.Refusal.{Refusal}
use Rattle.sheet_field.specs.declared.Reader.{Reader}
use Rattle.sheet_field.specs.Field.{Place}

-- where reading has come to: the reader's offset, unless a method returned a refusal
abbrev pub come_to : {A : Type 0} → Result A Refusal → ℕ → Place
come_to (Ok x) at = Ok at
come_to (Err r) at = Err r

-- a method that returned this has brought the reader to a place in the same bytes
pub record Reads {A : Type 0} (old new : Reader) (result : Result A Refusal) (next : Place) : Type 0 where
  pub same : new.bytes.now ≡ old.bytes.now
  pub place : come_to result new.at ≡ next
