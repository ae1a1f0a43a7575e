-- The sentence of a block in a borrowed text: how it stands there, and when there is none; and sheets as bytes with their sentences, worked out by hand
-- from docs/SHEET.md and the Rust's text.
use Rattle.std.specs.Prelude.{ℕ, ◌≤◌, ◌<◌, ◌≡◌, List, [], ◌∷◌, length, get_or, take, replicate, Ok, Err}
use Prim.Native.String.{String}
use Rattle.refusal.specs.Numbers.{number_of}
use Rattle.refusal.specs.declared.Refusal.{Refusal}
use Rattle.sheet.specs.declared.Sheet.{Sheet}
use Rattle.sheet.specs.Sheet.{reading_of}
use Rattle.std.specs.Prelude.{codes}
use Rattle.sentence_block.specs.Sentence.{sentence_on}
use Rattle.answer_sentence.specs.Sentence.{Answered, sentence_answer}
use Rattle.answer_sentence.specs.Sentence.ToldNumbers.{long}
use Rattle.worked_sheets.specs.Sheets.{Placed, sheet, imm, bit16, al, rax, rcx, ecx, cx, jump, call, stc, clc, cmc, mov, add, sub, cmp, and, or, xor, test, inc, dec, neg, je, jb, jo, jrcxz, jecxz, jcxz}

-- A text, as it was borrowed and as it is after a sentence of that many bytes was written to it: the sentence is its prefix, and what is beyond it
-- stays (W17, W18).
pub record Holds (sentence : List ℕ) (count : ℕ) (before after : List ℕ) : Type 0 where
  pub counted : count ≡ length sentence
  pub room : count ≤ length before
  pub first : take count after ≡ sentence
  pub long : length after ≡ length before
  pub beyond : (i : ℕ) → count ≤ i → get_or after i 0 ≡ get_or before i 0

-- Why a sentence is refused: reading refuses; or there is no block of that number, which is 13 at 0; or the text is shorter than that block's
-- sentence, which is 17 at the sentence's length (R5, M31, W17).
pub data RefusesSentence (s : List ℕ) (block : ℕ) (text : List ℕ) : ℕ → ℕ → Type 0 where
  by_reading : (r : Refusal) → reading_of s ≡ Err r → RefusesSentence s block text (number_of r.fault) r.at
  no_block : (sheet : Sheet) → reading_of s ≡ Ok sheet → sheet.blocks.count ≤ block → RefusesSentence s block text 13 0
  no_room : (sheet : Sheet) → reading_of s ≡ Ok sheet → block < sheet.blocks.count → length text < length (sentence_on s block)
      → RefusesSentence s block text 17 (length (sentence_on s block))

-- ---- worked sentences

-- registers by index, size and offset (S18)
abbrev register : (index size offset : ℕ) → List ℕ
register index size offset = 0 ∷ 1 ∷ index ∷ size ∷ offset ∷ []

abbrev eax : List ℕ
eax = register 0 32 0

abbrev ah : List ℕ
ah = register 0 8 8

abbrev r10d : List ℕ
r10d = register 10 32 0

-- memory, and the immediate 0xfffffff6 (S17)
abbrev memory : List ℕ
memory = 2 ∷ []

abbrev minus_ten : List ℕ
minus_ten = 1 ∷ 0xf6 ∷ 0xff ∷ 0xff ∷ 0xff ∷ 0 ∷ 0 ∷ 0 ∷ 0 ∷ []

-- jumps by their numbers (S23)
abbrev jl : Placed
jl = jump 18

abbrev jg : Placed
jg = jump 21

abbrev jbe : Placed
jbe = jump 24

abbrev ja : Placed
ja = jump 25

-- A row: instructions, and the sentence of the block over all of them.
pub record SentenceRow : Type 0 where
  pub code : List Placed
  pub sentence : String

abbrev says : List Placed → String → SentenceRow
says code sentence = record { code = code; sentence = sentence }

-- the answer for a row's block, into a text that has just the length of the row's sentence, all of it 0
abbrev pub answer_to : SentenceRow → Answered
answer_to r = sentence_answer (sheet r.code) 0 (replicate (length (codes r.sentence)) 0)

-- that length, and the sentence
abbrev pub said_by : SentenceRow → Answered
said_by r = record { answer = long (length (codes r.sentence)); text = codes r.sentence }

-- rows with values of few digits
unfoldable pub few_digits : List SentenceRow
few_digits =
    -- the carry: cmc adds, stc starts anew, inc keeps, neg has its own (W6, W7, W10)
    says (stc ∷ cmc ∷ cmc ∷ jb ∷ []) "stc sets the carry, and cmc turns it round, and cmc turns it round"
    ∷ says (clc ∷ cmc ∷ stc ∷ jb ∷ []) "stc sets the carry"
    ∷ says (stc ∷ mov eax (imm 5) ∷ inc eax ∷ jb ∷ []) "stc sets the carry"
    ∷ says (stc ∷ mov eax (imm 5) ∷ neg eax ∷ jb ∷ []) "eax is 5 here"
    -- the first flag that is set is told alone; two that are clear are joined, the same text once (W12, W13, W14)
    ∷ says (clc ∷ mov eax (imm 5) ∷ inc eax ∷ jbe ∷ []) "clc clears the carry, and eax is 5 here"
    ∷ says (clc ∷ mov eax (imm 5) ∷ inc eax ∷ ja ∷ []) "clc clears the carry, and eax is 5 here"
    ∷ says (stc ∷ mov eax (imm 5) ∷ inc eax ∷ jbe ∷ []) "stc sets the carry"
    ∷ says (stc ∷ mov eax (imm 1) ∷ dec eax ∷ jbe ∷ []) "stc sets the carry"
    ∷ says (clc ∷ mov eax (imm 1) ∷ dec eax ∷ jbe ∷ []) "eax is 1 here"
    ∷ says (xor eax eax ∷ inc eax ∷ jbe ∷ []) "eax is 0 here"
    ∷ says (mov eax (imm 3) ∷ cmp eax (imm 5) ∷ cmc ∷ jbe ∷ []) "eax is 3 here, and cmc turns it round, and eax is 3 here"
    ∷ says (mov eax (imm 5) ∷ cmp eax (imm 3) ∷ jg ∷ []) "eax is 5 here"
    -- operands (W5)
    ∷ says (mov eax (imm 5) ∷ mov ecx (imm 10) ∷ sub eax ecx ∷ jb ∷ []) "eax is 5 and ecx is 0xa here"
    ∷ says (mov eax (imm 5) ∷ add eax eax ∷ jb ∷ []) "eax is 5 here"
    ∷ says (mov rax (imm 0xf7) ∷ cmp ah al ∷ jb ∷ []) "ah is 0 and al is -9 here"
    -- values at 8 bits (W4)
    ∷ says (mov rax (imm 0xf7) ∷ cmp al (imm 0) ∷ jb ∷ []) "al is -9 here"
    ∷ says (mov rax (imm 0xf6) ∷ cmp al (imm 0) ∷ jb ∷ []) "al is 0xf6 here"
    ∷ says (mov rax (imm 9) ∷ cmp al (imm 0) ∷ jb ∷ []) "al is 9 here"
    ∷ says (mov rax (imm 10) ∷ cmp al (imm 0) ∷ jb ∷ []) "al is 0xa here"
    -- a register with itself, and names from each table (W1, W2, W3, W8)
    ∷ says (cmp cx cx ∷ jl ∷ []) "cx is compared with itself"
    ∷ says (cmp (register 4 8 0) (register 4 8 0) ∷ je ∷ []) "spl is compared with itself"
    ∷ says (cmp (register 9 8 0) (register 9 8 0) ∷ je ∷ []) "r9b is compared with itself"
    ∷ says (cmp (register 15 16 0) (register 15 16 0) ∷ je ∷ []) "r15w is compared with itself"
    ∷ says (cmp (register 8 64 0) (register 8 64 0) ∷ je ∷ []) "r8 is compared with itself"
    ∷ says (sub (register 3 8 8) (register 3 8 8) ∷ je ∷ []) "bh is 0 here"
    ∷ says (sub (register 7 32 0) (register 7 32 0) ∷ je ∷ []) "edi is 0 here"
    -- an unknown operand (W9)
    ∷ says (and ecx memory ∷ jb ∷ []) "and clears the carry"
    ∷ says (or ecx memory ∷ jb ∷ []) "or clears the carry"
    ∷ says (xor ecx memory ∷ jo ∷ []) "xor clears the overflow"
    ∷ says (test ecx memory ∷ jo ∷ []) "test clears the overflow"
    -- the count-register jumps (W15)
    ∷ says (mov rcx bit16 ∷ jcxz ∷ []) "cx is 0 here"
    ∷ says (mov rcx (imm 0) ∷ jrcxz ∷ []) "rcx is 0 here"
    -- nothing is known, nothing is left known, no jump's mnemonic, no branch (W11, W16)
    ∷ says (jb ∷ []) ""
    ∷ says (stc ∷ call ∷ jb ∷ []) ""
    ∷ says (stc ∷ jump 0 ∷ []) ""
    ∷ says (stc ∷ []) ""
    ∷ []

-- the rows together, those with long values first (W4, W15)
unfoldable pub sentence_rows : List SentenceRow
sentence_rows =
    says (mov r10d minus_ten ∷ add r10d (imm 1) ∷ jo ∷ []) "r10d is 0xfffffff6 here"
    ∷ says (mov rcx bit16 ∷ jecxz ∷ []) "ecx is 0x10000 here"
    ∷ few_digits
