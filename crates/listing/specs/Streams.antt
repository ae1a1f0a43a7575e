-- What the program does to the bytes that its input has left and its output holds, where these are known.
use Rattle.std.specs.Prelude.{ℕ, ◌<◌, List, length, take, Option, Result, Ok, Err}
use Rattle.std.specs.Io.KnownBytes.{Appends, Consumes, IsAtEnd, Keeps}
use Rattle.listing.specs.declared.Failure.{Failure}
use Rattle.listing.specs.declared.Failure.TheVariants.{Unread, Unwritten}
use Rattle.listing.specs.Program.{printed}

-- what is read is taken from the input, up to its end or as much as the buffer holds
abbrev pub Takes : {E : Type 0} → Result ℕ E → Option (List ℕ) → Option (List ℕ) → List ℕ → Type 0
Takes (Ok n) old new room = Consumes old new (take n room) × (n < length room → IsAtEnd new)
Takes (Err e) old new room = Unit {0}

-- The input is read to its end, or as many bytes of it as that, and the text for the bytes that were read is appended to the output (L10, L11, S5).
pub record Lists (most : ℕ) (input new_input output new_output : Option (List ℕ)) : Type 0 where
  pub read : List ℕ
  pub taken : Consumes input new_input read
  pub whole : length read < most → IsAtEnd new_input
  pub put : Appends output new_output (printed read)

-- by how the program ends; nothing is said of an output that could not be written
abbrev pub Answers : Result (Unit {0}) Failure → ℕ → Option (List ℕ) → Option (List ℕ) → Option (List ℕ) → Option (List ℕ) → Type 0
Answers (Ok u) most input new_input output new_output = Lists most input new_input output new_output
Answers (Err Unread) most input new_input output new_output = Keeps output new_output
Answers (Err Unwritten) most input new_input output new_output = Unit {0}
