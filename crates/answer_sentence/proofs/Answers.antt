-- The cases of the operation, over plain values.
use Prim.Native.Nat.{ℕ, ◌<◌}
use mathlib.Core.Path.{◌≡◌, refl}
use mathlib.Core.Bool.{Bool, true, false, cond}
use mathlib.Core.List.{List}
use lib.Dec.{ltb}
use borrow.Author.Tests.{lt-ltb, le-leb, lt-leb}
use Rattle.std.specs.Prelude.{Ok, Err, Result}
use Rattle.std.specs.Result.{MatchResult, IsErrAnd}
use Rattle.refusal.specs.declared.Fault.TheVariants.{Number, Text}
use Rattle.refusal.specs.declared.Refusal.{Refusal}
use Rattle.refusal.specs.Numbers.{refused}
use Rattle.sheet.specs.declared.Sheet.{Sheet}
use Rattle.sheet.specs.Sheet.{Reading, reading_of}
use Rattle.sheet.specs.Promises.{having_block}
use Rattle.sentence_text.specs.declared.TooShort.{TooShort}
use Rattle.sentence_text.specs.Promises.{Fits}
use Rattle.sentence_block.specs.Sentence.{sentence_on}
use Rattle.answer_sentence.specs.Sentence.{written, turned_back, on_reading, sentence_answer, Gives}

-- the code's answer: the length of a sentence that fits, else an error of which Q
abbrev pub Told : (TooShort → Refusal → Type 0) → Result ℕ TooShort → Result ℕ Refusal → Type 0
Told Q fit told = MatchResult fit (λ n. told ≡ Ok n) (λ short. IsErrAnd told (Q short))

-- a sentence that fits is written; one that does not is refused
gives : (Q : TooShort → Refusal → Type 0) → ((short : TooShort) (r : Refusal) → Q short r → r ≡ refused Text short.needed)
    → (sentence old new : List ℕ) (fit : Result ℕ TooShort) (told : Result ℕ Refusal) → Fits fit sentence old new → Told Q fit told
    → Gives told new (written sentence old)
gives Q say sentence old new (Ok n) told (fits, is) e = rw (e, le-leb _ _ fits, is.is, is.long) (refl, refl)
gives Q say sentence old new (Err short) (Err r) (long, below, kept) e = rw (say short r e, lt-leb _ _ below, long, kept) (refl, refl)
gives Q say sentence old new (Err short) (Ok n) fits e = absurd e

module _ (s : List ℕ) (number : ℕ) (text : List ℕ) where
  pub sentence_refused : {r : Refusal} → Err r ≡ having_block (reading_of s) number → Gives (Err r) text (sentence_answer s number text)
  unfolding sentence_answer
  sentence_refused {r} is = by (reading_of s) is
    where
      by : (x : Reading) → Err r ≡ having_block x number → Gives (Err r) text (on_reading x s number text)
      by (Err q) e = let same : r ≡ q = cc in rw same (refl, refl)
      by (Ok sheet) e = go (ltb number sheet.blocks.count) e
        where
          go : (b : Bool) → Err r ≡ cond b (Ok sheet) (Err (refused Number 0))
              → Gives (Err r) text (cond b (written (sentence_on s number) text) (turned_back (refused Number 0) text))
          go true e = absurd cc
          go false e = let same : r ≡ refused Number 0 = cc in rw same (refl, refl)

  pub sentence-given : (fit : Result ℕ TooShort) (told : Result ℕ Refusal) (new : List ℕ) {sheet : Sheet} → reading_of s ≡ Ok sheet
      → number < sheet.blocks.count → Fits fit (sentence_on s number) text new
      → (Q : TooShort → Refusal → Type 0) → ((short : TooShort) (r : Refusal) → Q short r → r ≡ refused Text short.needed) → Told Q fit told
      → Gives told new (sentence_answer s number text)
  unfolding sentence_answer
  sentence-given fit told new is there fits Q say e = rw (is, lt-ltb _ _ there) (gives Q say (sentence_on s number) text new fit told fits e)
