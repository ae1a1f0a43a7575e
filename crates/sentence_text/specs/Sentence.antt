-- How the texts of causes make a sentence.
use Rattle.std.specs.Prelude.{ℕ, zero, suc, cond, List, [], ◌++◌, codes}
use Rattle.laws.specs.Words.{same_words}

-- between two texts (W12)
abbrev pub conjunction : List ℕ
conjunction = codes ", and "

-- Two texts as one: once where they are the same (W12).
unfoldable pub joined : List ℕ → List ℕ → List ℕ
joined a b = cond (same_words a b) a (a ++ conjunction ++ b)

-- what cmc adds (W7)
abbrev pub turned : List ℕ
turned = codes ", and cmc turns it round"

-- what several cmc add (W7)
unfoldable pub turned_times : ℕ → List ℕ
turned_times zero = []
turned_times (suc n) = turned_times n ++ turned
