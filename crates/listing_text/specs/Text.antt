-- The text of the listing program, as its bytes.
use Rattle.std.specs.Prelude.{ℕ, zero, suc, ◌+◌, List, [], ◌∷◌, ◌++◌, cond, eqb, get_or}
use Rattle.sheet_field.specs.Field.{little}
use Rattle.text.specs.Digits.{digits, decimal}

-- The words of the text, in ASCII: a space, the end of a line, "branches", "always", "never", "refused", and "at" between spaces.
abbrev pub space : List ℕ
space = 32 ∷ []

abbrev pub line_feed : List ℕ
line_feed = 10 ∷ []

abbrev pub branches : List ℕ
branches = 98 ∷ 114 ∷ 97 ∷ 110 ∷ 99 ∷ 104 ∷ 101 ∷ 115 ∷ []

abbrev pub always : List ℕ
always = 97 ∷ 108 ∷ 119 ∷ 97 ∷ 121 ∷ 115 ∷ []

abbrev pub never : List ℕ
never = 110 ∷ 101 ∷ 118 ∷ 101 ∷ 114 ∷ []

abbrev pub refused : List ℕ
refused = 114 ∷ 101 ∷ 102 ∷ 117 ∷ 115 ∷ 101 ∷ 100 ∷ []

abbrev pub at_word : List ℕ
at_word = 32 ∷ 97 ∷ 116 ∷ 32 ∷ []

-- 1 is always, 0 never; no other number has a word
abbrev pub verdict_word : ℕ → List ℕ
verdict_word value = cond (eqb value 1) always (cond (eqb value 0) never [])

-- A branch's line: site and target in sixteen hexadecimal digits, the verdict's word, the reason in base ten (L10).
unfoldable pub line_text : ℕ → ℕ → ℕ → ℕ → List ℕ
line_text site target value reason =
    digits 16 16 site ++ space ++ digits 16 16 target ++ space ++ verdict_word value ++ space ++ decimal reason ++ line_feed

-- The line of an entry of 18 bytes that starts at an offset of a list (L1, L10).
unfoldable pub entry_text : List ℕ → ℕ → List ℕ
entry_text list from =
    line_text (little list from 8) (little list (from + 8) 8) (get_or list (from + 16) 0) (get_or list (from + 17) 0)

-- the lines of so many entries, from an offset of a list on
unfoldable pub entries_text : List ℕ → ℕ → ℕ → List ℕ
entries_text list from zero = []
entries_text list from (suc count) = entry_text list from ++ entries_text list (from + 18) count

-- The number of branches on a line of its own, then their lines (L10).
unfoldable pub branches_text : ℕ → List ℕ → List ℕ
branches_text count lines = branches ++ space ++ decimal count ++ line_feed ++ lines

-- A refusal's line, with its number and its offset (L11).
unfoldable pub refusal_text : ℕ → ℕ → List ℕ
refusal_text number place = refused ++ space ++ decimal number ++ at_word ++ decimal place ++ line_feed
