-- What the functions that put text into a borrowed buffer promise.
use Rattle.std.specs.Prelude.{ℕ, ◌+◌, ◌≤◌, ◌≡◌, List, ◌++◌, length, drop}
use Rattle.std.proofs.lemmas.List.Edits.{sets}
use Rattle.text.specs.declared.Writer.{Writer}

-- a text stands in the buffer from an offset on, and next is the offset after it; all else is as it was
pub record Put (old new : List ℕ) (at next : ℕ) (text : List ℕ) : Type 0 where
  pub is : new ≡ sets old at text
  pub end : next ≡ at + length text
  pub long : length new ≡ length old
  pub inside : next ≤ length new

-- a writer puts a text, and stays on its buffer
pub record Puts (old new : Writer) (text : List ℕ) : Type 0 where
  pub same : new.out.ghost_name ≡ old.out.ghost_name
  pub put : Put old.out.now new.out.now old.at new.at text

-- a text of that many bytes stands at the buffer's start, and behind it what stood there
pub record Written (old new : List ℕ) (count : ℕ) (text : List ℕ) : Type 0 where
  pub is : new ≡ text ++ drop (length text) old
  pub long : count ≡ length text
