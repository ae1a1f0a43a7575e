-- What a sentence is made of, and what the functions that write it promise.
use Rattle.std.specs.Prelude.{ℕ, ◌≤◌, ◌<◌, ◌≡◌, List, [], ◌++◌, length, take, Option, Some, None, Result, Ok, Err}
use Rattle.std.proofs.Math.Seq.{slice}
use Rattle.text.specs.Promises.{Written}
use Rattle.phrase.specs.Promises.{cause_text}
use Rattle.sentence_text.specs.declared.Said.{Said}
use Rattle.sentence_text.specs.declared.Said.TheVariants.{One, Joined}
use Rattle.sentence_text.specs.declared.Composed.{Composed}
use Rattle.sentence_text.specs.declared.TooShort.{TooShort}
use Rattle.sentence_text.specs.Sentence.{joined, turned_times}

-- the sentence that is said, if one is (W7, W12)
unfoldable pub said_text : Option Said → List ℕ
said_text None = []
said_text (Some (One cause turns)) = cause_text cause ++ turned_times turns
said_text (Some (Joined cause turns second)) = joined (cause_text cause ++ turned_times turns) (cause_text second)

-- how many cmc it tells of
abbrev pub turns_of : Option Said → ℕ
turns_of None = 0
turns_of (Some (One cause turns)) = turns
turns_of (Some (Joined cause turns second)) = turns

-- two parts of a buffer, one behind the other, with what cmc adds between them
abbrev pub in_parts : List ℕ → (head turns end : ℕ) → List ℕ
in_parts buffer head turns end = take head buffer ++ turned_times turns ++ slice head end buffer

-- a sentence by such parts
pub record Composes (text : List ℕ) (turns : ℕ) (new : List ℕ) (c : Composed) : Type 0 where
  pub is : text ≡ in_parts new c.head c.turns c.end
  pub few : c.turns ≤ turns
  pub order : c.head ≤ c.end
  pub within : c.end ≤ length new

-- What writing a text to a buffer's start gives: it is written, and its length is the answer; or the buffer is shorter than the text, and as it was,
-- and the error has the length needed.
abbrev pub Fits : Result ℕ TooShort → (text old new : List ℕ) → Type 0
Fits (Ok n) text old new = (length text ≤ length old) × Written old new n text
Fits (Err e) text old new = (e.needed ≡ length text) × (length old < length text) × (new ≡ old)
