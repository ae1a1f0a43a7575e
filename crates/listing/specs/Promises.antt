-- What the program's parts promise.
use Rattle.std.specs.Prelude.{ℕ, ◌≤◌, ◌≡◌, List, length, take, Result, Ok, Err}
use Rattle.text.specs.Promises.{Written}
use Rattle.listing.specs.declared.Failure.{Failure}
use Rattle.listing.specs.declared.Failure.TheVariants.{Unread, Unwritten}
use Rattle.listing.specs.Program.{printed}

-- the exit status: 0 where the text was written, and nowhere else
abbrev pub status_of : Result (Unit {0}) Failure → ℕ
status_of (Ok u) = 0
status_of (Err Unread) = 1
status_of (Err Unwritten) = 2

-- The text for the first bytes of the input's buffer, as many as were read, stands at the start of the text's buffer (L10, L11).
pub record Prepared (input old new : List ℕ) : Type 0 where
  pub count : ℕ
  pub within : count ≤ length input
  pub text : Written old new (length (printed (take count input))) (printed (take count input))

-- how the program leaves its buffers: with the text, unless the input could not be read
pub record Ended (end : Result (Unit {0}) Failure) (input old new : List ℕ) : Type 0 where
  pub prepared : (end ≡ Err Unread → ⊥) → Prepared input old new
