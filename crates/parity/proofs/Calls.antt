-- The laws of the calls by which `parity` goes through a part: what a child borrows, and what a part's polynomial is by its root.
use Prim.Native.Nat.{ℕ, ◌+◌, ◌*◌, ◌-◌, ◌≤◌, ◌<◌}
use mathlib.Core.Path.{◌≡◌, refl, sym, ap, subst, ◌∙◌}
use mathlib.Core.Bool.{Bool, true, false}
use mathlib.Core.List.{List, ◌++◌}
use native.Mathlib.Omega.{arith}
use lib.ListN.{length, take, drop, length-append, length-drop}
use lib.Seq.{length-take-le, take_at, drop_at, take-append-le}
use borrow.Author.Tests.{eq-eqb, ne_eqb}
use Rattle.expr.specs.Tree.{Expr, Wf, tree_of, value_of, flat}
use Rattle.expr.specs.Tree.Expr.{variable, constant, condition_true, condition_false, effect, load, cast, binary, ternary}
use Rattle.expr.specs.Root.{root_of, root_argument}
use Rattle.expr.specs.declared.Root.TheVariants.{Constant, Cast, Binary}
use Rattle.expr.proofs.Laws.{wf-two}
use Rattle.expr.proofs.Views.{constant-root}
use Rattle.parity.specs.Parity.{Low, constant_poly, entered, atom_low, pair_poly, pair_fits, low_of, parity}
use Rattle.parity.specs.declared.Pair.{Pair}
use Rattle.parity.specs.declared.Entry.{Entry}
use Rattle.parity.specs.declared.TooMany.{TooMany}
use Rattle.std.specs.Prelude.{Result, Ok, Err}
use Rattle.parity.specs.Lent.{too_many, pair_of, Lent, Sides, Made, Given}
use Rattle.parity.proofs.Ordered.{parity-ascending, parity-few, atoms-few}
use Rattle.parity.proofs.Rooms.{leaves, parity-terms, eight-each, pairs-room, products-lent}
use Rattle.parity.proofs.Steps.{Told, told, made_none, told-within}

pub wf-length : (ws : List ℕ) → Wf ws → length (flat (tree_of ws)) ≡ length ws
wf-length ws w = ap length w

-- how many terms a part has, by its words
side-terms : (l : List Expr) (ws : List ℕ) → Wf ws → {n : ℕ} → n ≡ length (parity l (tree_of ws)).poly → n < leaves (length ws)
side-terms l ws w e = rw (e, ← wf-length ws w) (parity-terms l (tree_of ws))

-- what serves a part serves a smaller one
pub lent-smaller : {w u count : ℕ} {terms scratch : List ℕ} → Lent w count terms scratch → u ≤ w → Lent u count terms scratch
lent-smaller lent h = record { room = omega (arith, lent.room); space = omega (arith, lent.space); products = products-lent lent.products h refl }

-- a part without new atoms
pub given-same : {low : Low} {l : List Expr} {terms : List ℕ} {r : Result ℕ TooMany} → low.fits ≡ true → l ≡ low.atoms → Made true low.poly terms r → Given low l terms r
given-same f a m = record { made = rw f m; numbered = λ _. a }

-- what is given of one result is given of an equal one
pub given-as : {low low' : Low} {l : List Expr} {terms : List ℕ} {r : Result ℕ TooMany} → low ≡ low' → Given low' l terms r → Given low l terms r
given-as {l = l} {terms = terms} {r = r} e g = subst (λ (x : Low). Given x l terms r) (sym e) g

-- a part that passes the limits
pub given-none : {low : Low} (l : List Expr) (terms : List ℕ) → low.fits ≡ false → Given low l terms (Err too_many)
given-none {low} l terms h = record {
  made = made_none low.poly terms h;
  numbered = λ k. let z : ◌≡◌ {A = Bool} false true = sym h ∙ k in cc;
}

-- a part's polynomial by its root
module _ (l : List Expr) (e : Expr) where
  pub low-constant : root_of e ≡ Constant → parity l e ≡ record { poly = constant_poly (value_of e); atoms = l; fits = true }
  unfolding parity
  low-constant h = ap (parity l) (constant-root e h)

  pub low-cast : {a : Expr} → e ≡ cast (root_argument e) a → (root_argument e ≡ 9 → ⊥) → parity l e ≡ parity l a
  unfolding parity
  low-cast {a} k h = ap (parity l) k ∙ rw (ne_eqb (root_argument e) 9 h)

  parity-binary : (o : ℕ) (a b : Expr) {k : Entry} → entered o b ≡ k → parity l (binary o a b) ≡ low_of k (parity l a) (parity (parity l a).atoms b) (atom_low l (binary o a b)) l
  unfolding parity
  parity-binary o a b is = rw is

  pub low-binary : {a b : Expr} {o : ℕ} {r k : Entry} → e ≡ binary (root_argument e) a b → r ≡ entered o b → o ≡ root_argument e → r ≡ k
      → parity l e ≡ low_of k (parity l a) (parity (parity l a).atoms b) (atom_low l e) l
  low-binary {a} {b} {k = k} s g p h =
      ap (parity l) s
      ∙ parity-binary (root_argument e) a b (rw p at (sym g ∙ h))
      ∙ ap (λ (x : Expr). low_of k (parity l a) (parity (parity l a).atoms b) (atom_low l x) l) (sym s)

pub low-other : (l : List Expr) (e : Expr) → (root_of e ≡ Constant → ⊥) → (root_of e ≡ Cast → root_argument e ≡ 9) → (root_of e ≡ Binary → ⊥) → parity l e ≡ atom_low l e
unfolding parity root_of root_argument
low-other l (variable n) h c b = refl
low-other l (constant w x) h c b = absurd (h refl)
low-other l condition_true h c b = refl
low-other l condition_false h c b = refl
low-other l (effect t) h c b = refl
low-other l (load t a) h c b = refl
low-other l (cast t a) h c b = rw (eq-eqb t 9 (c refl))
low-other l (binary o a b) h c d = absurd (d refl)
low-other l (ternary c a b) h d e = refl

-- both sides, where the left one's polynomial is made
module _ (left right : List ℕ) (l : List Expr) {terms scratch : List ℕ} (left_wf : Wf left) (right_wf : Wf right) (two : Lent (length left + length right + 2) (length l) terms scratch) where
  module _ {l₁ : List Expr} {terms₁ : List ℕ} {r₁ : Result ℕ TooMany} {n : ℕ} (g : Given (parity l (tree_of left)) l₁ terms₁ r₁) (e : r₁ ≡ Ok n) where
    x-told : Told (parity l (tree_of left)).fits (parity l (tree_of left)).poly terms₁ n
    x-told = told g.made e

    pub left-few : n ≤ 256
    left-few = omega (arith, x-told.count, parity-few l (tree_of left) x-told.fit)

    left-terms : n < leaves (length left)
    left-terms = side-terms l left left_wf x-told.count

    left-each : n ≤ 8 * (length left + 2)
    left-each = eight-each n (length left) (wf-two left left_wf) left-few left-terms

    pub left-within : n ≤ length terms₁
    left-within = told-within x-told

    left-atoms : l₁ ≡ (parity l (tree_of left)).atoms
    left-atoms = g.numbered x-told.fit

    -- the terms behind the left side's
    rest-length : length (take (length terms₁ - n) (drop n terms₁)) + n ≡ length terms₁
    rest-length =
        omega (arith, left-within, length-take-le (length terms₁ - n) (drop n terms₁) (omega (arith, length-drop n terms₁)))

    pub two-right : {scratch₁ : List ℕ} → length terms₁ ≡ length terms → length scratch₁ ≡ length scratch
        → Lent (length right) (length l₁) (take (length terms₁ - n) (drop n terms₁)) scratch₁
    two-right ls lc = record {
      room = omega (arith, two.room, ap length left-atoms, atoms-few l (tree_of left), wf-length left left_wf);
      space = omega (arith, two.space, left-each, rest-length);
      products = products-lent two.products (omega arith) lc;
    }

    module _ {l₂ : List Expr} {rest₂ : List ℕ} {r₂ : Result ℕ TooMany} (h : Given (parity l₁ (tree_of right)) l₂ rest₂ r₂) where
      h' : Given (parity (parity l (tree_of left)).atoms (tree_of right)) l₂ rest₂ r₂
      h' = rw left-atoms at h

      module _ {k : ℕ} (f : r₂ ≡ Ok k) where
        y-told : Told (parity (parity l (tree_of left)).atoms (tree_of right)).fits (parity (parity l (tree_of left)).atoms (tree_of right)).poly rest₂ k
        y-told = told h'.made f

        right-few : k ≤ 256
        right-few = omega (arith, y-told.count, parity-few (parity l (tree_of left)).atoms (tree_of right) y-told.fit)

        right-terms : k < leaves (length right)
        right-terms = side-terms (parity l (tree_of left)).atoms right right_wf y-told.count

        module _ (tail : List ℕ) where
          first : take n (take n terms₁ ++ (rest₂ ++ tail)) ≡ (parity l (tree_of left)).poly
          first = take_at (take n terms₁) (rest₂ ++ tail) n (length-take-le n terms₁ left-within) ∙ x-told.stands

          second : take k (drop n (take n terms₁ ++ (rest₂ ++ tail))) ≡ (parity (parity l (tree_of left)).atoms (tree_of right)).poly
          second =
              ap (take k) (drop_at (take n terms₁) (rest₂ ++ tail) n (length-take-le n terms₁ left-within))
              ∙ take-append-le k rest₂ tail (told-within y-told)
              ∙ y-told.stands

          pub two-sides : length terms₁ ≡ length terms → length rest₂ ≡ length (take (length terms₁ - n) (drop n terms₁))
              → {scratch₂ : List ℕ} → length scratch₂ ≡ length scratch → Sides (take n terms₁ ++ (rest₂ ++ tail)) n k scratch₂
          two-sides ls lr lc = record {
            left = left-few;
            right = right-few;
            ordered = rw first (parity-ascending l (tree_of left));
            space =
                omega (
                  arith,
                  two.space,
                  left-each,
                  eight-each k (length right) (wf-two right right_wf) right-few right-terms,
                  rest-length,
                  left-within,
                  length-append (take n terms₁) (rest₂ ++ tail),
                  length-append rest₂ tail,
                  length-take-le n terms₁ left-within,
                );
            copies = omega (arith, two.products.least);
            products = pairs-room (length left) (length right) n k _ (products-lent two.products (omega arith) lc) left-terms right-terms;
          }

          pub two-given : (pair : Pair) (new : List ℕ) (r : Result ℕ TooMany)
              → Made (pair_fits pair (take n (take n terms₁ ++ (rest₂ ++ tail))) (take k (drop n (take n terms₁ ++ (rest₂ ++ tail)))))
              (pair_poly pair (take n (take n terms₁ ++ (rest₂ ++ tail))) (take k (drop n (take n terms₁ ++ (rest₂ ++ tail))))) new r
              → Given (pair_of pair l (tree_of left) (tree_of right)) l₂ new r
          two-given pair new r m = record {
            made = rw (x-told.fit, y-told.fit) (rw (first, second) at m);
            numbered = λ _. h'.numbered y-told.fit;
          }
