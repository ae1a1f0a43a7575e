-- Sameness of trees: it is equality, and over words a comparison word by word. Assumes nothing.
use mathlib.Core.Path.{◌≡◌, refl, sym, ap, ap₂, ◌∙◌}
use mathlib.Core.Bool.{Bool, true, false, ◌&&◌, true≢false}
use mathlib.Core.List.{List, [], ◌∷◌}
use Prim.Native.Nat.{ℕ}
use lib.Dec.{eqb}
use lib.Pointwise.{pointwise}
use Rattle.laws.specs.Words.{same_words}
use Rattle.laws.proofs.SameWords.{words-true, words-refl}
use Rattle.expr.specs.Tree.{Expr, flat, tree_of, Wf}
use Rattle.expr.specs.Scan.{same_tree}
use Rattle.expr.proofs.Laws.{flat-injective}

-- trees are the same exactly where they are equal
pub same_tree-true : (d e : Expr) → same_tree d e ≡ true → d ≡ e
unfolding same_tree
same_tree-true d e h = flat-injective d e (words-true (flat d) (flat e) h)

pub same_tree-refl : (e : Expr) → same_tree e e ≡ true
unfolding same_tree
same_tree-refl e = words-refl (flat e)

pub same_tree-equal : (d e : Expr) → d ≡ e → same_tree d e ≡ true
same_tree-equal d e h = ap (same_tree d) (sym h) ∙ same_tree-refl d

pub same_tree-false : (d e : Expr) → same_tree d e ≡ false → d ≡ e → ⊥
same_tree-false d e h k = true≢false (sym (same_tree-equal d e k) ∙ h)

-- Wf words hold the same tree where they are the same words
pub same-words : (a b : List ℕ) → Wf a → Wf b → same_tree (tree_of a) (tree_of b) ≡ same_words a b
unfolding same_tree
same-words a b h k = ap₂ same_words h k

-- what `==` says of two slices
pointwise-words : (a b : List ℕ) → pointwise eqb a b ≡ same_words a b
unfolding same_words
pointwise-words [] [] = refl
pointwise-words [] (y ∷ b) = refl
pointwise-words (x ∷ a) [] = refl
pointwise-words (x ∷ a) (y ∷ b) = ap (λ (p : Bool). eqb x y && p) (pointwise-words a b)

pub equal_words : (a b : List ℕ) → Wf a → Wf b → pointwise eqb a b ≡ same_tree (tree_of a) (tree_of b)
equal_words a b h k = pointwise-words a b ∙ sym (same-words a b h k)
