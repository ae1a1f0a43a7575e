-- Lists that are compared word for word: they are the same where they are equal, and a comparison goes from the start on. Assumes nothing.
use mathlib.Core.Path.{◌≡◌, refl, sym, ap, ap₂, ◌∙◌}
use mathlib.Core.Bool.{Bool, true, false, ◌&&◌, true≢false}
use mathlib.Core.List.{List, [], ◌∷◌}
use Prim.Native.Nat.{ℕ, ◌+◌, ◌≤◌, ◌<◌}
use native.Mathlib.Numerals.{add-one}
use borrow.Author.Tests.{eqb-true, eq-eqb, ne_eqb}
use lib.Dec.{eqb}
use lib.ListN.{length, get_or, drop, drop_of_length-le}
use lib.Seq.{drop-cons}
use Rattle.laws.specs.Words.{same_words}
use Rattle.laws.proofs.Booleans.{by_test, and_left, and_right}

pub words-true : (a b : List ℕ) → same_words a b ≡ true → a ≡ b
unfolding same_words
words-true [] [] h = refl
words-true [] (y ∷ b) h = absurd (true≢false (sym h))
words-true (x ∷ a) [] h = absurd (true≢false (sym h))
words-true (x ∷ a) (y ∷ b) h =
    ap₂ (λ (z : ℕ) (l : List ℕ). z ∷ l) (eqb-true x y (and_left (eqb x y) (same_words a b) h)) (words-true a b (and_right (eqb x y) (same_words a b) h))

pub words-refl : (a : List ℕ) → same_words a a ≡ true
unfolding same_words
words-refl [] = refl
words-refl (x ∷ a) = ap₂ (λ (p q : Bool). p && q) (eq-eqb x x refl) (words-refl a)

-- the steps of a comparison from the start
pub words-unlike : (a b : List ℕ) → (length a ≡ length b → ⊥) → same_words a b ≡ false
words-unlike a b h = by_test (same_words a b) (λ t. absurd (h (ap length (words-true a b t)))) (λ t. t)

words-next : (a b : List ℕ) (i : ℕ) → i < length a → i < length b
    → same_words (drop i a) (drop i b) ≡ (eqb (get_or a i 0) (get_or b i 0) && same_words (drop (i + 1) a) (drop (i + 1) b))
unfolding same_words
words-next a b i h k = rw add-one (ap₂ same_words (drop-cons a i 0 h) (drop-cons b i 0 k))

pub words-on : (a b : List ℕ) (i : ℕ) → i < length a → i < length b → get_or a i 0 ≡ get_or b i 0
    → same_words (drop i a) (drop i b) ≡ same_words (drop (i + 1) a) (drop (i + 1) b)
words-on a b i h k e = words-next a b i h k ∙ ap (λ (p : Bool). p && same_words (drop (i + 1) a) (drop (i + 1) b)) (eq-eqb _ _ e)

pub words-stop : (a b : List ℕ) (i : ℕ) → i < length a → i < length b → (get_or a i 0 ≡ get_or b i 0 → ⊥) → same_words (drop i a) (drop i b) ≡ false
words-stop a b i h k e = words-next a b i h k ∙ ap (λ (p : Bool). p && same_words (drop (i + 1) a) (drop (i + 1) b)) (ne_eqb _ _ e)

pub words-end : (a b : List ℕ) (i : ℕ) → length a ≤ i → length b ≤ i → same_words (drop i a) (drop i b) ≡ true
unfolding same_words
words-end a b i h k = ap₂ same_words (drop_of_length-le a h) (drop_of_length-le b k)
