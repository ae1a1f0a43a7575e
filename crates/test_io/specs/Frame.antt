-- What a test program's input is to be.
use Rattle.std.specs.Prelude.{ℕ, ◌≤◌, Option, Some, None, Result, Ok, Err}
use Rattle.test_io.specs.declared.Early.{Early}

-- a frame that was read lies within the buffer
abbrev pub Fits : Result (Option ℕ) Early → ℕ → Type 0
Fits (Ok (Some n)) room = n ≤ room
Fits (Ok None) room = Unit {0}
Fits (Err e) room = Unit {0}
