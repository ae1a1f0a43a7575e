-- What the listing program writes, said a second time: the text of a listing's answer and of the lines in its list, and whole inputs with their
-- texts, worked out by hand. `codes` of std gives a text's characters by number, which in ASCII are its bytes.
use Rattle.std.specs.Prelude.{ℕ, zero, suc, ◌/◌, ◌%◌, List, [], ◌∷◌, ◌++◌, get_or}
use Prim.Native.String.{String}
use Rattle.verdict_lines.specs.Lines.{Line}
use Rattle.answer_listing.specs.Listing.{ListedNumbers}
use Rattle.answer_listing.specs.Listing.ListedNumbers.{lines, refused}
use Rattle.text.specs.Digits.{places_of}
use Rattle.std.specs.Prelude.{codes}
use Rattle.theorems.specs.Lines.{line_at}

-- the last k digits of n in a base up to 16, the highest first
unfoldable pub numeral : (base k n : ℕ) → List ℕ
numeral base zero n = []
numeral base (suc k) n = numeral base k (n / base) ++ (get_or (codes "0123456789abcdef") (n % base) 0 ∷ [])

-- n in base ten, without leading zeros
abbrev pub in_ten : ℕ → List ℕ
in_ten n = numeral 10 (places_of 10 n) n

-- the word of a verdict, 1 or 0; no other number has one
abbrev pub word : ℕ → List ℕ
word zero = codes "never"
word (suc zero) = codes "always"
word (suc (suc n)) = []

-- A line: site and target in sixteen hexadecimal digits, the verdict's word, the reason's number (L10).
abbrev pub line_text : Line → List ℕ
line_text l =
    numeral 16 16 l.site ++ codes " " ++ numeral 16 16 l.target ++ codes " " ++ word l.value ++ codes " " ++ in_ten l.reason ++ codes "\n"

-- so many lines of a list, from the line of number k on
unfoldable pub lines_from : List ℕ → (k count : ℕ) → List ℕ
lines_from list k zero = []
lines_from list k (suc count) = line_text (line_at list k) ++ lines_from list (suc k) count

-- The number of lines and the lines of the list; or the refusal with its number and its offset (L10, L11).
abbrev pub text_of : ListedNumbers → List ℕ → List ℕ
text_of (lines count) list = codes "branches " ++ in_ten count ++ codes "\n" ++ lines_from list 0 count
text_of (refused number place) list = codes "refused " ++ in_ten number ++ codes " at " ++ in_ten place ++ codes "\n"

-- ---- whole inputs

pub record Sample : Type 0 where
  pub bytes : List ℕ
  pub text : String

-- a number below 256 in 8 bytes
abbrev wide : ℕ → List ℕ
wide n = n ∷ 0 ∷ 0 ∷ 0 ∷ 0 ∷ 0 ∷ 0 ∷ 0 ∷ []

-- two instructions, an operation of a register with itself at 16 and a jump at 18, and one block, from 16 to 20
abbrev block : (operation register size jump : ℕ) → List ℕ → List ℕ
block operation register size jump target =
    (2 ∷ 0 ∷ 12 ∷ []) ++ wide 16 ++ (operation ∷ 0 ∷ 1 ∷ register ∷ size ∷ 0 ∷ 0 ∷ 1 ∷ register ∷ size ∷ 0 ∷ 1 ∷ []) ++ wide 18 ++ (jump ∷ [])
    ++ target ++ (1 ∷ 0 ∷ []) ++ wide 16 ++ wide 20 ++ (0 ∷ 0 ∷ [])

-- a jump at 0 to 99, no block, and a node of it whose condition is one record of that kind
abbrev node : ℕ → List ℕ
node kind =
    (1 ∷ 0 ∷ 1 ∷ []) ++ wide 0 ++ (16 ∷ []) ++ wide 99 ++ (0 ∷ 0 ∷ 1 ∷ 0 ∷ 0 ∷ 0 ∷ 0 ∷ 0 ∷ 1 ∷ 0 ∷ kind ∷ 1 ∷ 0 ∷ []) ++ wide 0

unfoldable pub samples : List Sample
-- xor eax,eax; je to 0x20: the scope document's sample
samples =
    record { bytes = block 11 0 32 16 (wide 32); text = "branches 1\n0000000000000012 0000000000000020 always 1\n" }
    -- cmp cx,cx; jl to 0xfedcba9876543210
    ∷ record {
      bytes = block 8 1 16 18 (16 ∷ 50 ∷ 84 ∷ 118 ∷ 152 ∷ 186 ∷ 220 ∷ 254 ∷ []);
      text = "branches 1\n0000000000000012 fedcba9876543210 never 1\n";
    }
    -- nodes of the conditions true and false
    ∷ record { bytes = node 2; text = "branches 1\n0000000000000000 0000000000000063 always 3\n" }
    ∷ record { bytes = node 3; text = "branches 1\n0000000000000000 0000000000000063 never 3\n" }
    -- nothing, an empty sheet, and one with a byte too many
    ∷ record { bytes = []; text = "refused 1 at 0\n" }
    ∷ record { bytes = 0 ∷ 0 ∷ 0 ∷ 0 ∷ 0 ∷ 0 ∷ []; text = "branches 0\n" }
    ∷ record { bytes = 0 ∷ 0 ∷ 0 ∷ 0 ∷ 0 ∷ 0 ∷ 0 ∷ []; text = "refused 1 at 6\n" }
    ∷ []
