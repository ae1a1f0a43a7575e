-- The sentence of a block's verdict, from any bytes and any borrowed text.
use Rattle.std.specs.Prelude.{ℕ, ◌≡◌, cond, List, ◌++◌, leb, ltb, length, drop, Result, Ok, Err}
use Rattle.refusal.specs.declared.Fault.TheVariants.{Number, Text}
use Rattle.refusal.specs.declared.Refusal.{Refusal}
use Rattle.refusal.specs.Numbers.{number_of, refused as refusal}
use Rattle.sheet.specs.Sheet.{Reading, reading_of}
use Rattle.sentence_block.specs.Sentence.{sentence_on}

-- An answer in numbers: the sentence's length; a refusal has a number and an offset.
pub data ToldNumbers : Type 0 where
  long : (length : ℕ) → ToldNumbers
  refused : (number place : ℕ) → ToldNumbers

abbrev pub told_numbers : Result ℕ Refusal → ToldNumbers
told_numbers (Ok n) = long n
told_numbers (Err r) = refused (number_of r.fault) r.at

-- what the operation gives: its answer, and the borrowed text as it is then
pub record Answered : Type 0 where
  pub answer : ToldNumbers
  pub text : List ℕ

-- A refusal leaves the borrowed text as it was (R1, W18).
abbrev pub turned_back : Refusal → List ℕ → Answered
turned_back r text = record { answer = refused (number_of r.fault) r.at; text = text }

-- The length, and the sentence over the start of the borrowed text, whose other bytes stay; 17, with the length needed, exactly where the text is
-- shorter than the sentence (W17, W18).
abbrev pub written : List ℕ → List ℕ → Answered
written sentence text =
    cond (leb (length sentence) (length text))
    (record { answer = long (length sentence); text = sentence ++ drop (length sentence) text })
    (turned_back (refusal Text (length sentence)) text)

-- Reading's refusals first; 13, at offset 0, where there is no block of that number; then 17 (R5, M31, W17).
abbrev pub on_reading : Reading → List ℕ → ℕ → List ℕ → Answered
on_reading (Err r) s block text = turned_back r text
on_reading (Ok sheet) s block text =
    cond (ltb block sheet.blocks.count) (written (sentence_on s block) text) (turned_back (refusal Number 0) text)

-- The answer for any bytes, any number and any borrowed text (R1, R5, D3).
unfoldable pub sentence_answer : List ℕ → ℕ → List ℕ → Answered
sentence_answer s block text = on_reading (reading_of s) s block text

-- what the code gives of it: the answer, and the text as it leaves it
abbrev pub Gives : Result ℕ Refusal → List ℕ → Answered → Type 0
Gives r text answered = (told_numbers r ≡ answered.answer) × (text ≡ answered.text)
