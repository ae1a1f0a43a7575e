-- Text put into a buffer piece by piece.
use Prim.Native.Nat.{ℕ, zero, suc, ◌+◌, ◌-◌, ◌/◌, ◌%◌, ◌≤◌, ◌<◌}
use mathlib.Core.Path.{◌≡◌, refl, sym, ap, ◌∙◌}
use mathlib.Core.List.{List, [], ◌∷◌, ◌++◌}
use native.Mathlib.Numerals.{add-one, sub-one}
use native.Mathlib.Nat.{add-zero, zero-add, add-suc, suc-add}
use native.Mathlib.Omega.{arith}
use lib.ListN.{length, take, drop, set, get_or, length-append, length-set}
use lib.Seq.{slice, sets, sets-eq, set_comm, drop-cons, drop-length, drop_at, take-add, length-take-le}
use Rattle.text.specs.Digits.{digit, digits}
use Rattle.text.specs.declared.Writer.{Writer}
use Rattle.text.specs.Promises.{Put, Puts, Written}
use Rattle.text.proofs.Lengths.{digits_long}

-- one text after the other
pub sets-append : (l : List ℕ) (at : ℕ) (a b : List ℕ) → sets (sets l at a) (at + length a) b ≡ sets l at (a ++ b)
sets-append l at [] b = rw add-zero
sets-append l at (x ∷ a) b = rw (add-suc, ← suc-add) (sets-append (set l at x) (suc at) a b)

-- the last byte of a text may be stored first
pub sets_last : (l : List ℕ) (at : ℕ) (a : List ℕ) (x : ℕ) → sets l at (a ++ (x ∷ [])) ≡ sets (set l (at + length a) x) at a
sets_last l at [] x = rw add-zero
sets_last l at (y ∷ a) x =
    sets_last (set l at y) (suc at) a x
    ∙ ap (λ (m : List ℕ). sets m (suc at) a) (set_comm l at (suc at + length a) y x (λ e. omega arith))
    ∙ rw (suc-add, add-suc)

pub put_then : {old mid new : List ℕ} {at m n : ℕ} {a b : List ℕ} → Put old mid at m a → Put mid new m n b → Put old new at n (a ++ b)
put_then {old} {mid} {new} {at} {m} {n} {a} {b} p q = record {
  is = q.is ∙ rw (p.is, p.end) (sets-append old at a b);
  end = omega (arith, p.end, q.end, length-append a b);
  long = q.long ∙ p.long;
  inside = q.inside;
}

pub puts_then : {old mid new : Writer} {a b : List ℕ} → Puts old mid a → Puts mid new b → Puts old new (a ++ b)
puts_then p q = record { same = q.same ∙ p.same; put = put_then p.put q.put }

-- nothing put
pub put-none : (l : List ℕ) (at : ℕ) → at ≤ length l → Put l l at at []
put-none l at h = record { is = refl; end = sym (add-zero at); long = refl; inside = h }

-- a text from the buffer's start on
pub written : {old new : List ℕ} {count : ℕ} {text : List ℕ} → Put old new 0 count text → Written old new count text
written {old} {new} {count} {text} p =
    let fits : 0 + length text ≤ length old = omega (arith, p.end, p.inside, p.long) in
    record {
      is = p.is ∙ sets-eq text old 0 fits ∙ rw (zero-add (length text));
      long = omega (arith, p.end);
    }

-- what a writer has put since it was made is the text at its buffer's start
pub puts_written : {start end : Writer} {old new text : List ℕ} → start.out.now ≡ old → start.at ≡ 0 → Puts start end text → new ≡ end.out.now
    → Written old new end.at text
puts_written {start} {end} {old} {new} {text} before none p after = rw after (written (rw (before, none) at p.put))

-- what is left of the buffer, after a text of at most so many bytes
pub room : {old new : List ℕ} {at next : ℕ} {text : List ℕ} (most more : ℕ) → Put old new at next text → length text ≤ most
    → at + (most + more) ≤ length old → next + more ≤ length new
room most more p short fits = omega (arith, p.end, p.long)

-- digits stored from the last to the first: with those that are left the text is whole
pub record DigitsLeft (n base width at : ℕ) (old new : List ℕ) (i rest : ℕ) : Type 0 where
  pub within : i ≤ width
  pub long : length new ≡ length old
  pub left : sets new at (digits base i rest) ≡ sets old at (digits base width n)

digits_step : (base at j rest : ℕ) (new : List ℕ)
    → sets new at (digits base (suc j) rest) ≡ sets (set new (at + j) (digit (rest % base))) at (digits base j (rest / base))
unfolding digits
digits_step base at j rest new =
    sets_last new at (digits base j (rest / base)) (digit (rest % base)) ∙ rw digits_long

pub digits-next : {n base width at : ℕ} {old new : List ℕ} {rest x : ℕ} (i : ℕ)
    → DigitsLeft n base width at old new i rest → 0 < i → x ≡ digit (rest % base)
    → DigitsLeft n base width at old (set new (at + (i - 1)) x) (i - 1) (rest / base)
digits-next zero d some x-is = absurd (omega arith)
digits-next {n} {base} {width} {at} {old} {new} {rest} {x} (suc j) d some x-is = rw (sub-one, x-is) (record {
  within = omega (arith, d.within);
  long = length-set new (at + j) (digit (rest % base)) ∙ d.long;
  left = sym (digits_step base at j rest new) ∙ d.left;
})

pub digits-done : {n base width at : ℕ} {old new : List ℕ} {rest : ℕ} (i : ℕ) → DigitsLeft n base width at old new i rest → i ≤ 0
    → at + width ≤ length old → Put old new at (at + width) (digits base width n)
unfolding digits
digits-done {n} {base} {width} {at} {old} {new} {rest} zero d none fits = record { is = d.left; end = rw digits_long; long = d.long; inside = omega (arith, d.long) }
digits-done (suc j) d none fits = absurd (omega arith)

-- a word stored byte by byte
pub record WordLeft (word : List ℕ) (at : ℕ) (old new : List ℕ) (i : ℕ) : Type 0 where
  pub within : i ≤ length word
  pub long : length new ≡ length old
  pub left : sets new (at + i) (drop i word) ≡ sets old at word

pub word-start : (word : List ℕ) (at : ℕ) (old : List ℕ) → WordLeft word at old old 0
word-start word at old = record { within = omega arith; long = refl; left = rw add-zero }

pub word_next : {word : List ℕ} {at : ℕ} {old new : List ℕ} {i : ℕ} → WordLeft word at old new i → i < length word
    → WordLeft word at old (set new (at + i) (get_or word i 0)) (i + 1)
word_next {word} {at} {old} {new} {i} w less = record {
  within = omega arith;
  long = length-set new (at + i) (get_or word i 0) ∙ w.long;
  left = rw (add-one, add-suc) (sym (rw (drop-cons word i 0 less) at (sym w.left)));
}

pub word-done : {word : List ℕ} {at : ℕ} {old new : List ℕ} {i : ℕ} → WordLeft word at old new i → length word ≤ i
    → at + length word ≤ length old → Put old new at (at + length word) word
word-done {word} {at} {old} {new} {i} w end fits =
    let all : i ≡ length word = omega (arith, w.within) in
    record { is = rw (all, drop-length) at w.left; end = refl; long = w.long; inside = omega (arith, w.long) }

-- a part of a word, as it is lent
pub part-is : (l : List ℕ) (from to : ℕ) → from ≤ to → to ≤ length l → take (to - from) (drop from l) ≡ slice from to l
part-is l from to order within =
    let sum : from + (to - from) ≡ to = omega arith in
    sym (drop_at (take from l) (take (to - from) (drop from l)) from (length-take-le from l (omega arith)))
    ∙ ap (drop from) (sym (take-add from (to - from) l) ∙ ap (λ (k : ℕ). take k l) sum)
