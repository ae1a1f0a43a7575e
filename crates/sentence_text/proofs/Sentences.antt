-- Sentences by two parts of a buffer.
use Prim.Native.Nat.{ℕ, zero, suc, ◌+◌, ◌*◌, ◌≤◌}
use mathlib.Core.Path.{◌≡◌, refl, sym, ap, ap₂, ◌∙◌}
use mathlib.Core.Bool.{true, false, cond, ◌&&◌}
use mathlib.Core.List.{List, [], ◌++◌, append-nil, append_assoc}
use native.Mathlib.Omega.{arith}
use borrow.Author.Tests.{eqb-true}
use lib.Dec.{eqb}
use lib.ListN.{length, take, drop, length-append}
use lib.Seq.{slice, slice_empty, length-take-le, take_at, drop_at, take-take}
use Rattle.std.specs.Prelude.{Some}
use Rattle.laws.specs.Words.{same_words}
use Rattle.laws.proofs.Booleans.{and_left, and_right, by_test}
use Rattle.laws.proofs.SameWords.{words-true}
use Rattle.text.specs.Promises.{Put, Written}
use Rattle.text.proofs.Puts.{put_then, written}
use Rattle.phrase.specs.declared.Cause.{Cause}
use Rattle.phrase.specs.Promises.{cause_text}
use Rattle.sentence_text.specs.declared.Composed.{Composed}
use Rattle.sentence_text.specs.declared.Said.TheVariants.{Joined}
use Rattle.sentence_text.specs.declared.Said.{Said}
use Rattle.sentence_text.specs.Sentence.{conjunction, joined, turned, turned_times}
use Rattle.sentence_text.proofs.Turns.{turns_long}
use Rattle.sentence_text.specs.Promises.{Composes, said_text, turns_of}

-- two texts as one
joined_once : (a b : List ℕ) → same_words a b ≡ true → joined a b ≡ a
unfolding joined
joined_once a b h = rw h

joined-both : (a b : List ℕ) → same_words a b ≡ false → joined a b ≡ a ++ conjunction ++ b
unfolding joined
joined-both a b h = rw h

-- a text with what cmc adds is not one that ends otherwise
turned-unlike : (a b : List ℕ) (n : ℕ) → ((x : List ℕ) → b ≡ x ++ turned → ⊥) → (eqb n 0 && same_words a b) ≡ false
    → same_words (a ++ turned_times n) b ≡ false
unfolding turned_times
turned-unlike a b zero ends h = rw append-nil h
turned-unlike a b (suc n) ends h =
    by_test (same_words (a ++ turned_times (suc n)) b)
    (λ same. absurd (ends (a ++ turned_times n) (sym (words-true (a ++ turned_times (suc n)) b same) ∙ sym (append_assoc a (turned_times n) turned))))
    (λ unlike. unlike)

-- a text that stands at the start of a buffer
front : {old new : List ℕ} {end : ℕ} {text : List ℕ} → Put old new 0 end text → take end new ≡ text
front {old} {new} {end} {text} p =
    let w : Written old new end text = written p in
    ap (take end) w.is ∙ take_at text (drop (length text) old) end (sym w.long)

-- its halves
module _ (x y new : List ℕ) (k end : ℕ) (is : take end new ≡ x ++ y) (within : end ≤ length new) (k-is : k ≡ length x) where
  half-order : k ≤ end
  half-order = omega (arith, length-take-le end new within, ap length is, length-append x y)

  first-half : take k new ≡ x
  first-half = sym (take-take k end new half-order) ∙ ap (take k) is ∙ take_at x y k (sym k-is)

  second-half : slice k end new ≡ y
  second-half = ap (drop k) is ∙ drop_at x y k (sym k-is)

-- the sentences: nothing
pub composes-nothing : (new : List ℕ) → Composes [] 0 new (record { head = 0; turns = 0; end = 0 })
unfolding turned_times
composes-nothing new = record { is = refl; few = omega arith; order = omega arith; within = omega arith }

-- no second part
alone : (text new : List ℕ) (end n : ℕ) → text ≡ take end new ++ turned_times n → end ≤ length new
    → Composes text n new (record { head = end; turns = n; end = end })
alone text new end n e within = record {
  is = e ∙ sym (ap (λ (l : List ℕ). take end new ++ turned_times n ++ l) (slice_empty end new) ∙ append-nil (take end new ++ turned_times n));
  few = omega arith;
  order = omega arith;
  within = within;
}

-- one cause
pub composes-one : {old new : List ℕ} {end : ℕ} {a : List ℕ} (n : ℕ) → Put old new 0 end a
    → Composes (a ++ turned_times n) n new (record { head = end; turns = n; end = end })
composes-one {old} {new} {end} {a} n p = alone (a ++ turned_times n) new end n (ap (λ (l : List ℕ). l ++ turned_times n) (sym (front p))) p.inside

-- two causes
module _ {old m₁ m₂ new : List ℕ} {head next end : ℕ} {a b : List ℕ} (n : ℕ) (p : Put old m₁ 0 head a) (q : Put m₁ m₂ head next conjunction)
    (r : Put m₂ new next end b) where
  two : Put old m₂ 0 next (a ++ conjunction)
  two = put_then p q

  whole : take end new ≡ a ++ conjunction ++ b
  whole = front (put_then two r)

  apart : take end new ≡ a ++ (conjunction ++ b)
  apart = whole ∙ append_assoc a conjunction b

  head-is : head ≡ length a
  head-is = omega (arith, p.end)

  head-order : head ≤ end
  head-order = half-order a (conjunction ++ b) new head end apart r.inside head-is

  first-is : take head new ≡ a
  first-is = first-half a (conjunction ++ b) new head end apart r.inside head-is

  same-is : same_words (take head new) (slice next end new) ≡ same_words a b
  same-is = ap₂ same_words first-is (second-half (a ++ conjunction) b new next end whole r.inside (omega (arith, two.end)))

  both-once : (eqb n 0 && same_words a b) ≡ true → Composes (joined (a ++ turned_times n) b) n new (record { head = head; turns = n; end = head })
  unfolding turned_times
  both-once h =
      let no-turns : n ≡ 0 = eqb-true n 0 (and_left (eqb n 0) (same_words a b) h) in
      alone (joined (a ++ turned_times n) b) new head n
      (joined_once (a ++ turned_times n) b (rw (no-turns, append-nil) (and_right (eqb n 0) (same_words a b) h))
      ∙ ap (λ (l : List ℕ). l ++ turned_times n) (sym first-is))
      (omega (arith, head-order, r.inside))

  both-apart : ((x : List ℕ) → b ≡ x ++ turned → ⊥) → (eqb n 0 && same_words a b) ≡ false
      → Composes (joined (a ++ turned_times n) b) n new (record { head = head; turns = n; end = end })
  both-apart ends h = record {
    is =
        joined-both (a ++ turned_times n) b (turned-unlike a b n ends h)
        ∙ append_assoc (a ++ turned_times n) conjunction b
        ∙ ap₂ (λ (x y : List ℕ). x ++ turned_times n ++ y) (sym first-is)
        (sym (second-half a (conjunction ++ b) new head end apart r.inside head-is));
    few = omega arith;
    order = head-order;
    within = r.inside;
  }

  -- the second text counts where it says something else
  both : ((x : List ℕ) → b ≡ x ++ turned → ⊥) → {last : ℕ} → last ≡ cond (eqb n 0 && same_words (take head new) (slice next end new)) head end
      → Composes (joined (a ++ turned_times n) b) n new (record { head = head; turns = n; end = last })
  both ends {last} e =
      by_test (eqb n 0 && same_words a b)
      (λ once. rw (e, same-is, once) (both-once once))
      (λ apart'. rw (e, same-is, apart') (both-apart ends apart'))

  pub both_in : ((x : List ℕ) → b ≡ x ++ turned → ⊥) → {buffer : List ℕ} {last : ℕ}
      → last ≡ cond (eqb n 0 && same_words (take head buffer) (slice next end buffer)) head end → buffer ≡ new
      → Composes (joined (a ++ turned_times n) b) n buffer (record { head = head; turns = n; end = last })
  both_in ends e same = rw same (both ends (rw same at e))

-- in a buffer that stays as it is
pub composes_in : {text m new : List ℕ} {n : ℕ} {c : Composed} → Composes text n m c → new ≡ m → Composes text n new c
composes_in is same = rw same is

-- how long two texts are with what cmc adds between them
pub parts-long : (first : List ℕ) (turns : ℕ) (rest : List ℕ) → length (first ++ turned_times turns ++ rest) ≡ length first + 24 * turns + length rest
parts-long first turns rest = rw (length-append, length-append, turns_long turns)

-- the sentence of two causes
pub said-both : {said : Said} {cause second : Cause} {n : ℕ} {new : List ℕ} {c : Composed} → said ≡ Joined cause n second
    → Composes (joined (cause_text cause ++ turned_times n) (cause_text second)) n new c → Composes (said_text (Some said)) (turns_of (Some said)) new c
unfolding said_text
said-both e is = rw e is
