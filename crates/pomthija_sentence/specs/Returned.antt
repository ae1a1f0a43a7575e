-- What a C host is given: the number that the function returns, and what it writes to `out`.
use Rattle.std.specs.Prelude.{ℕ, ◌≡◌}
use Rattle.answer_sentence.specs.Sentence.{ToldNumbers}
use Rattle.answer_sentence.specs.Sentence.ToldNumbers.{long, refused}

-- The sentence: 0 and its length, or the refusal's number and offset (R1, D3, W18).
abbrev pub ReturnedSentence : ℕ → ℕ → ToldNumbers → Type 0
ReturnedSentence r out (long length) = (r ≡ 0) × (out ≡ length)
ReturnedSentence r out (refused number place) = (r ≡ number) × (out ≡ place)
