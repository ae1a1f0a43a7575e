-- The table of atoms: the trees that it holds, in order.
use Rattle.std.proofs.Common.{◌≡◌, ℕ, suc, ◌+◌, ◌≤◌, ◌<◌, Bool, true, false, cond, List, [], ◌∷◌, ◌++◌, Option, Some, None, length, take, slice_set, refl, sym, ap, ◌∙◌, arith}
use lib.Dec.{ltb}
use lib.Seq.{length-take-le, take-suc-set}
use native.Mathlib.Numerals.{add-one}
use borrow.Author.Tests.{lt-ltb, le-ltb, ltb-false}
use Rattle.std.specs.List.{position_or_len}
use Rattle.std.specs.Option.{unwrap_or}
use Rattle.std.proofs.lemmas.List.Recursion.{is_position_or_len}
use Rattle.expr.specs.Tree.{Expr, tree_of}
use Rattle.expr.specs.declared.Tree.{Tree}
use Rattle.expr.specs.Scan.{same_tree}
use Rattle.parity.specs.Parity.{place, number_in, noted}
use Rattle.parity.specs.Lent.{exprs}
use Rattle.parity.proofs.Numbers.{place-upto, number-upto}

pub length-exprs : (l : List Tree) → length (exprs l) ≡ length l
unfolding exprs
length-exprs [] = refl
length-exprs (t ∷ l) = ap suc (length-exprs l)

exprs-more : (l : List Tree) (t : Tree) → exprs (l ++ (t ∷ [])) ≡ exprs l ++ (tree_of t.words.now ∷ [])
unfolding exprs
exprs-more [] t = refl
exprs-more (u ∷ l) t = ap (λ (es : List Expr). tree_of u.words.now ∷ es) (exprs-more l t)

-- a tree of the table is the expression e
abbrev pub is_tree : Expr → Tree → Bool
is_tree e t = same_tree (tree_of t.words.now) e

place-position : (e : Expr) (l : List Tree) → place (exprs l) e ≡ position_or_len (is_tree e) l
unfolding exprs place
place-position e = is_position_or_len (λ l. place (exprs l) e) (is_tree e) refl (λ t l. let next : suc (place (exprs l) e) ≡ 1 + place (exprs l) e = omega arith in ap (cond (is_tree e t) 0) next)

-- the first tree that is e, or how many there are
pub placed : (e : Expr) (l : List Tree) {r : Option ℕ} {n : ℕ} → length l ≡ n
    → r ≡ cond (ltb (position_or_len (is_tree e) l) (length l)) (Some (position_or_len (is_tree e) l)) None → unwrap_or r n ≡ place (exprs l) e
placed e l {r} {n} size is =
    rw is (go (ltb (position_or_len (is_tree e) l) (length l)) refl)
  where
    same : position_or_len (is_tree e) l ≡ place (exprs l) e
    same = sym (place-position e l)

    go : (b : Bool) → ltb (position_or_len (is_tree e) l) (length l) ≡ b → unwrap_or (cond b (Some (position_or_len (is_tree e) l)) None) n ≡ place (exprs l) e
    go true t = same
    go false t =
        omega (arith, size, same, place-upto (exprs l) e, length-exprs l, ltb-false (position_or_len (is_tree e) l) (length l) t)

module _ (l : List Tree) {n : ℕ} (room : n ≤ length l) where
  pub count-exprs : length (exprs (take n l)) ≡ n
  count-exprs = length-exprs (take n l) ∙ length-take-le n l room

  -- an atom that has a number, and a new one
  pub noted-known : (e : Expr) {k : ℕ} → k ≡ number_in (exprs (take n l)) e → (k ≡ n → ⊥) → exprs (take n l) ≡ noted (exprs (take n l)) e
  noted-known e is other =
      rw (lt-ltb (number_in (exprs (take n l)) e) (length (exprs (take n l))) (omega (arith, number-upto (exprs (take n l)) e, count-exprs)))

  pub noted-new : (t : Tree) {k : ℕ} → n < length l → k ≡ number_in (exprs (take n l)) (tree_of t.words.now) → k ≡ n
      → exprs (take (n + 1) (slice_set l k t)) ≡ noted (exprs (take n l)) (tree_of t.words.now)
  noted-new t space is here =
      rw (here, add-one, take-suc-set l n t space, exprs-more (take n l) t, le-ltb (number_in (exprs (take n l)) (tree_of t.words.now)) (length (exprs (take n l))) (omega (arith, count-exprs)))
