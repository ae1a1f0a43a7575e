-- Laws of `parity`'s result: the polynomial is in order; within the limits it has at most 256 terms; and a part numbers no more new
-- atoms than it can hold, four words for each but the first.
use Prim.Native.Nat.{ℕ, ◌+◌, ◌*◌, ◌%◌, ◌^◌, ◌≤◌}
use mathlib.Core.Path.{◌≡◌, ◌∙◌}
use mathlib.Core.Bool.{Bool, true, false, cond, ◌&&◌}
use mathlib.Core.List.{List, [], ◌∷◌, ◌++◌}
use native.Mathlib.Omega.{arith}
use lib.Dec.{eqb}
use lib.ListN.{length, length-append}
use borrow.Author.Tests.{leb-true}
use Rattle.expr.specs.Tree.{Expr, flat, own}
use Rattle.expr.specs.Tree.Expr.{variable, constant, condition_true, condition_false, effect, load, cast, binary, ternary}
use Rattle.expr.proofs.Laws.{flat-two}
use Rattle.search.specs.Ascending.{Ascending}
use Rattle.search.proofs.Laws.{ascending-none}
use Rattle.poly.specs.Terms.{sum, product, toggle}
use Rattle.poly.proofs.Values.{ascending-toggle, ascending-sum, ascending-product}
use Rattle.parity.specs.Parity.{Low, entered, number_in, noted, few, few_pairs, joined, atom_low, low_of, parity}
use Rattle.parity.specs.declared.Entry.{Entry}
use Rattle.parity.specs.declared.Entry.TheVariants.{Both, Keeps, Clears, Atom}
use Rattle.parity.specs.declared.Pair.TheVariants.{Sum, Product, Or}
use Rattle.parity.proofs.Numbers.{Noting, known, new, noting}

-- one term is in order
one-term : (m : ℕ) → Ascending (m ∷ [])
unfolding toggle
one-term m = ascending-toggle m [] ascending-none

entry-ascending : (k : Entry) (x y own : Low) (l : List Expr) → Ascending x.poly → Ascending own.poly
    → Ascending (low_of k x y own l).poly
entry-ascending (Both Sum) x y own l p q = ascending-sum x.poly y.poly p
entry-ascending (Both Product) x y own l p q = ascending-product x.poly y.poly
entry-ascending (Both Or) x y own l p q = ascending-sum (sum x.poly y.poly) (product x.poly y.poly) (ascending-sum x.poly y.poly p)
entry-ascending Keeps x y own l p q = p
entry-ascending Clears x y own l p q = ascending-none
entry-ascending Atom x y own l p q = q

-- every polynomial of a part is in order
pub parity-ascending : (l : List Expr) (e : Expr) → Ascending (parity l e).poly
unfolding parity atom_low
parity-ascending l (variable n) = one-term (2 ^ number_in l (variable n))
parity-ascending l (constant w x) = go (eqb (x % 2) 1)
  where
    go : (b : Bool) → Ascending (cond b (0 ∷ []) [])
    go true = one-term 0
    go false = ascending-none
parity-ascending l condition_true = one-term (2 ^ number_in l condition_true)
parity-ascending l condition_false = one-term (2 ^ number_in l condition_false)
parity-ascending l (effect t) = one-term (2 ^ number_in l (effect t))
parity-ascending l (load t a) = one-term (2 ^ number_in l (load t a))
parity-ascending l (cast t a) = go (eqb t 9) (parity-ascending l a)
  where
    go : (b : Bool) → Ascending (parity l a).poly → Ascending (cond b (atom_low l (cast t a)) (parity l a)).poly
    go true h = one-term (2 ^ number_in l (cast t a))
    go false h = h
parity-ascending l (binary o a b) =
    entry-ascending (entered o b) (parity l a) (parity (parity l a).atoms b) (atom_low l (binary o a b)) l (parity-ascending l a)
    (one-term (2 ^ number_in l (binary o a b)))
parity-ascending l (ternary c a b) = one-term (2 ^ number_in l (ternary c a b))

last : (a b : Bool) → (a && b) ≡ true → b ≡ true
last true b h = h
last false b h = cc

entry-few : (k : Entry) (x y own : Low) (l : List Expr) → (x.fits ≡ true → length x.poly ≤ 256) → length own.poly ≤ 256
    → (low_of k x y own l).fits ≡ true → length (low_of k x y own l).poly ≤ 256
entry-few (Both Sum) x y own l p q h =
    leb-true (length (sum x.poly y.poly)) 256 (last y.fits (few (sum x.poly y.poly)) (last x.fits (y.fits && few (sum x.poly y.poly)) h))
entry-few (Both Product) x y own l p q h =
    let f = few (product x.poly y.poly) in
    let g = few_pairs x.poly y.poly in
    leb-true (length (product x.poly y.poly)) 256 (last g f (last y.fits (g && f) (last x.fits (y.fits && (g && f)) h)))
entry-few (Both Or) x y own l p q h =
    let e = few (joined x.poly y.poly) in
    let f = few (product x.poly y.poly) in
    let g = few_pairs x.poly y.poly in
    leb-true (length (joined x.poly y.poly)) 256 (last f e (last g (f && e) (last y.fits (g && (f && e)) (last x.fits (y.fits && (g && (f && e))) h))))
entry-few Keeps x y own l p q h = p h
entry-few Clears x y own l p q h = omega arith
entry-few Atom x y own l p q h = q

-- Within the limits a part has at most 256 terms.
pub parity-few : (l : List Expr) (e : Expr) → (parity l e).fits ≡ true → length (parity l e).poly ≤ 256
unfolding parity atom_low
parity-few l (variable n) h = omega arith
parity-few l (constant w x) h = go (eqb (x % 2) 1)
  where
    go : (b : Bool) → length {A = ℕ} (cond b (0 ∷ []) []) ≤ 256
    go true = omega arith
    go false = omega arith
parity-few l condition_true h = omega arith
parity-few l condition_false h = omega arith
parity-few l (effect t) h = omega arith
parity-few l (load t a) h = omega arith
parity-few l (cast t a) h = go (eqb t 9) h (parity-few l a)
  where
    go : (b : Bool) → (cond b (atom_low l (cast t a)) (parity l a)).fits ≡ true → ((parity l a).fits ≡ true → length (parity l a).poly ≤ 256)
        → length (cond b (atom_low l (cast t a)) (parity l a)).poly ≤ 256
    go true h rest = omega arith
    go false h rest = rest h
parity-few l (binary o a b) h =
    entry-few (entered o b) (parity l a) (parity (parity l a).atoms b) (atom_low l (binary o a b)) l (parity-few l a) (omega arith) h
parity-few l (ternary c a b) h = omega arith

noted-few : (l : List Expr) (e : Expr) → 4 * length (noted l e) ≤ 4 * length l + length (flat e) + 2
noted-few l e = go (noting l e)
  where
    go : Noting l e → 4 * length (noted l e) ≤ 4 * length l + length (flat e) + 2
    go (known h is) = rw is (omega arith)
    go (new h is) = rw (is, length-append l (e ∷ [])) (omega (arith, flat-two e))

pub flat-binary : (o : ℕ) (a b : Expr) → length (flat (binary o a b)) ≡ length (flat a) + length (flat b) + 2
unfolding flat
flat-binary o a b = length-append (flat a) (flat b ++ own (binary o a b)) ∙ omega (arith, length-append (flat b) (own (binary o a b)))

pub flat-cast : (t : ℕ) (a : Expr) → length (flat (cast t a)) ≡ length (flat a) + 2
unfolding flat
flat-cast t a = length-append (flat a) (own (cast t a))

-- A part's new atoms: with four words for each there are two left over.
pub atoms-few : (l : List Expr) (e : Expr) → 4 * length (parity l e).atoms ≤ 4 * length l + length (flat e) + 2
unfolding parity atom_low
atoms-few l (variable n) = noted-few l (variable n)
atoms-few l (constant w x) = omega arith
atoms-few l condition_true = noted-few l condition_true
atoms-few l condition_false = noted-few l condition_false
atoms-few l (effect t) = noted-few l (effect t)
atoms-few l (load t a) = noted-few l (load t a)
atoms-few l (cast t a) = go (eqb t 9) (atoms-few l a)
  where
    go : (b : Bool) → 4 * length (parity l a).atoms ≤ 4 * length l + length (flat a) + 2
        → 4 * length (cond b (atom_low l (cast t a)) (parity l a)).atoms ≤ 4 * length l + length (flat (cast t a)) + 2
    go true h = noted-few l (cast t a)
    go false h = omega (arith, flat-cast t a)
atoms-few l (binary o a b) = go (entered o b) (atoms-few l a) (atoms-few (parity l a).atoms b)
  where
    go : (k : Entry) → 4 * length (parity l a).atoms ≤ 4 * length l + length (flat a) + 2
        → 4 * length (parity (parity l a).atoms b).atoms ≤ 4 * length (parity l a).atoms + length (flat b) + 2
        → 4 * length (low_of k (parity l a) (parity (parity l a).atoms b) (atom_low l (binary o a b)) l).atoms ≤ 4 * length l + length (flat (binary o a b)) + 2
    go (Both Sum) p q = omega (arith, flat-binary o a b)
    go (Both Product) p q = omega (arith, flat-binary o a b)
    go (Both Or) p q = omega (arith, flat-binary o a b)
    go Keeps p q = omega (arith, flat-binary o a b)
    go Clears p q = omega arith
    go Atom p q = noted-few l (binary o a b)
atoms-few l (ternary c a b) = noted-few l (ternary c a b)
