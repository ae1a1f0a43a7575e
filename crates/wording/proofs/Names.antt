-- Names in tables: by cases on the index, each computed.
use Prim.Native.Nat.{ℕ, zero, suc, ◌≤◌, ◌<◌}
use mathlib.Core.Path.{◌≡◌, sym, ◌∙◌}
use mathlib.Core.Bool.{Bool, true, ◌&&◌}
use mathlib.Core.List.{List, []}
use native.Mathlib.Omega.{arith}
use borrow.Author.Tests.{leb-true, leb-false, le-ltb}
use lib.Dec.{leb}
use lib.ListN.{length, get_or, get_or-eq_default}
use Rattle.laws.specs.Words.{same_words}
use Rattle.laws.proofs.Booleans.{and_left, and_right, by_test}
use Rattle.laws.proofs.SameWords.{words-true}
use Rattle.alu.specs.declared.Width.{Width}
use Rattle.wording.specs.Names.{name_in, high_bytes, low_name}

-- a test of each of the first numbers
unfoldable pub every : ℕ → (ℕ → Bool) → Bool
every zero p = true
every (suc n) p = p 0 && every n (λ k. p (suc k))

pub every-below : (n : ℕ) (p : ℕ → Bool) → every n p ≡ true → (k : ℕ) → k < n → p k ≡ true
unfolding every
every-below zero p h k less = absurd (omega arith)
every-below (suc n) p h zero less = and_left (p 0) (every n (λ i. p (suc i))) h
every-below (suc n) p h (suc k) less = every-below n (λ i. p (suc i)) (and_right (p 0) (every n (λ i. p (suc i))) h) k (omega arith)

-- a table has the names of the first registers, and those past it have none
pub table_name : (names : List (List ℕ)) {x : List ℕ} {k : ℕ} (text : ℕ → List ℕ) → x ≡ name_in names k
    → every (length names) (λ i. same_words (get_or names i []) (text i)) ≡ true → ((i : ℕ) → length names ≤ i → text i ≡ []) → x ≡ text k
unfolding name_in
table_name names {k = k} text is tests past =
    by_test (leb (length names) k) (λ t. is ∙ get_or-eq_default names [] (leb-true _ _ t) ∙ sym (past k (leb-true _ _ t)))
    (λ t. is ∙ words-true _ _ (every-below (length names) (λ i. same_words (get_or names i []) (text i)) tests k (leb-false _ _ t)))

-- there is no register past the tables
pub past_names : (w : Width) (index : ℕ) → 16 ≤ index → low_name w index ≡ []
unfolding low_name
past_names w index h = rw (le-ltb index 8 (omega arith), le-ltb index 16 h)

pub past-high_names : (index : ℕ) → 4 ≤ index → get_or high_bytes index [] ≡ []
unfolding high_bytes
past-high_names index h = get_or-eq_default high_bytes [] h
