-- Atoms by number: the list grows at its end, and a number stays the number of its atom.
use Prim.Native.Nat.{suc, ◌<◌, ◌≤◌}
use mathlib.Core.Path.{◌≡◌, refl, sym, ap, ◌∙◌}
use mathlib.Core.Bool.{Bool, true, false, cond}
use mathlib.Core.List.{List, [], ◌∷◌, ◌++◌, append_assoc}
use native.Mathlib.Omega.{arith}
use lib.Dec.{eqb, ltb}
use lib.ListN.{length, get_or}
use borrow.Author.Tests.{ltb-true, ltb-false}
use Rattle.expr.specs.Tree.{Expr}
use Rattle.expr.specs.Tree.Expr.{variable, constant, condition_true, condition_false, effect, load, cast, binary, ternary}
use Rattle.expr.specs.Scan.{has_own_value, same_tree}
use Rattle.expr.proofs.Sameness.{same_tree-true, same_tree-refl}
use Rattle.parity.specs.Parity.{entered, place, number_in, noted, atom_low, low_of, parity}
use Rattle.parity.specs.declared.Entry.{Entry}
use Rattle.parity.specs.declared.Entry.TheVariants.{Both, Keeps, Clears, Atom}
use Rattle.parity.specs.declared.Pair.TheVariants.{Sum, Product, Or}

-- a list that has another one at its start
pub record Extends (l F : List Expr) : Type 0 where
  pub rest : List Expr
  pub is : F ≡ l ++ rest

pub extends-refl : (l : List Expr) → Extends l l
extends-refl l = record { rest = []; is = sym (append-none l) }
  where
    append-none : (l : List Expr) → l ++ [] ≡ l
    append-none [] = refl
    append-none (x ∷ l) = ap (λ (t : List Expr). x ∷ t) (append-none l)

pub extends-trans : {a b c : List Expr} → Extends a b → Extends b c → Extends a c
extends-trans {a} {b} {c} p q = record { rest = p.rest ++ q.rest; is = q.is ∙ ap (λ (t : List Expr). t ++ q.rest) p.is ∙ append_assoc a p.rest q.rest }

pub place-upto : (l : List Expr) (e : Expr) → place l e ≤ length l
unfolding place
place-upto [] e = omega arith
place-upto (x ∷ l) e = go (same_tree x e) (place-upto l e)
  where
    go : (b : Bool) → place l e ≤ length l → cond b 0 (suc (place l e)) ≤ length (x ∷ l)
    go true h = omega arith
    go false h = omega arith

pub place_found : (l : List Expr) (e d : Expr) → place l e < length l → get_or l (place l e) d ≡ e
unfolding place
place_found [] e d h = absurd (omega arith)
place_found (x ∷ l) e d h = go (same_tree x e) refl h (place_found l e d)
  where
    go : (b : Bool) → same_tree x e ≡ b → cond b 0 (suc (place l e)) < length (x ∷ l) → (place l e < length l → get_or l (place l e) d ≡ e)
        → get_or (x ∷ l) (cond b 0 (suc (place l e))) d ≡ e
    go true same h rest = same_tree-true x e same
    go false same h rest = rest (omega arith)

-- in a longer list a tree that is there has the same index, and the first one after the end has the length as its index
pub place-stays : (l r : List Expr) (e : Expr) → place l e < length l → place (l ++ r) e ≡ place l e
unfolding place
place-stays [] r e h = absurd (omega arith)
place-stays (x ∷ l) r e h = go (same_tree x e) h (place-stays l r e)
  where
    go : (b : Bool) → cond b 0 (suc (place l e)) < length (x ∷ l) → (place l e < length l → place (l ++ r) e ≡ place l e)
        → cond b 0 (suc (place (l ++ r) e)) ≡ cond b 0 (suc (place l e))
    go true h rest = refl
    go false h rest = ap suc (rest (omega arith))

pub place-new : (l r : List Expr) (e : Expr) → length l ≤ place l e → place (l ++ (e ∷ r)) e ≡ length l
unfolding place
place-new [] r e h = rw (same_tree-refl e)
place-new (x ∷ l) r e h = go (same_tree x e) h (place-new l r e)
  where
    go : (b : Bool) → length (x ∷ l) ≤ cond b 0 (suc (place l e)) → (length l ≤ place l e → place (l ++ (e ∷ r)) e ≡ length l)
        → cond b 0 (suc (place (l ++ (e ∷ r)) e)) ≡ length (x ∷ l)
    go true h rest = absurd (omega arith)
    go false h rest = ap suc (rest (omega arith))

pub number-upto : (l : List Expr) (e : Expr) → number_in l e ≤ length l
number-upto l e = go (has_own_value e) refl
  where
    go : (b : Bool) → has_own_value e ≡ b → number_in l e ≤ length l
    go true test = rw test (omega arith)
    go false test = rw test (place-upto l e)

-- A number below the length is that of an equal atom, which has no effect in it.
pub record Before (l : List Expr) (e : Expr) : Type 0 where
  pub plain : has_own_value e ≡ false
  pub equal : (d : Expr) → get_or l (number_in l e) d ≡ e

pub before : (l : List Expr) (e : Expr) → number_in l e < length l → Before l e
before l e h = go (has_own_value e) refl
  where
    go : (b : Bool) → has_own_value e ≡ b → Before l e
    go true test = absurd (omega (arith, rw test at h))
    go false test = record { plain = test; equal = λ d. rw test (place_found l e d (rw test at h)) }

-- the atoms after one more: as they were, or with it at the end
pub data Noting (l : List Expr) (e : Expr) : Type 0 where
  known : number_in l e < length l → noted l e ≡ l → Noting l e
  new : number_in l e ≡ length l → noted l e ≡ l ++ (e ∷ []) → Noting l e

pub noting : (l : List Expr) (e : Expr) → Noting l e
noting l e = go (ltb (number_in l e) (length l)) refl
  where
    go : (b : Bool) → ltb (number_in l e) (length l) ≡ b → Noting l e
    go true test = known (ltb-true (number_in l e) (length l) test) (rw test)
    go false test = let h = ltb-false (number_in l e) (length l) test in let u = number-upto l e in new (omega arith) (rw test)

pub noted-extends : (l : List Expr) (e : Expr) → Extends l (noted l e)
noted-extends l e = go (noting l e)
  where
    go : Noting l e → Extends l (noted l e)
    go (known h is) = rw is (extends-refl l)
    go (new h is) = record { rest = e ∷ []; is = is }

-- a part numbers its atoms at the end of the list
pub atoms-grow : (l : List Expr) (e : Expr) → Extends l (parity l e).atoms
unfolding parity atom_low
atoms-grow l (variable n) = noted-extends l (variable n)
atoms-grow l (constant w x) = extends-refl l
atoms-grow l condition_true = noted-extends l condition_true
atoms-grow l condition_false = noted-extends l condition_false
atoms-grow l (effect t) = noted-extends l (effect t)
atoms-grow l (load t a) = noted-extends l (load t a)
atoms-grow l (cast t a) = go (eqb t 9) (atoms-grow l a)
  where
    go : (b : Bool) → Extends l (parity l a).atoms → Extends l (cond b (atom_low l (cast t a)) (parity l a)).atoms
    go true h = noted-extends l (cast t a)
    go false h = h
atoms-grow l (binary o a b) = go (entered o b) (atoms-grow l a) (atoms-grow (parity l a).atoms b)
  where
    go : (k : Entry) → Extends l (parity l a).atoms → Extends (parity l a).atoms (parity (parity l a).atoms b).atoms
        → Extends l (low_of k (parity l a) (parity (parity l a).atoms b) (atom_low l (binary o a b)) l).atoms
    go (Both Sum) p q = extends-trans p q
    go (Both Product) p q = extends-trans p q
    go (Both Or) p q = extends-trans p q
    go Keeps p q = p
    go Clears p q = extends-refl l
    go Atom p q = noted-extends l (binary o a b)
atoms-grow l (ternary c a b) = noted-extends l (ternary c a b)
