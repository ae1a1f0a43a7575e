-- The laws that the code's steps cite: a constant, how an operator enters, the index of an atom, and two polynomials that stand
-- one behind the other and are put together at the start.
use Prim.Native.Nat.{ℕ, ◌+◌, ◌*◌, ◌-◌, ◌%◌, ◌^◌, ◌≤◌, ◌<◌}
use mathlib.Core.Path.{◌≡◌, refl, sym, ap, ◌∙◌}
use mathlib.Core.Bool.{Bool, true, false, cond, ◌&&◌}
use mathlib.Core.List.{List, [], ◌∷◌, ◌++◌, append_assoc}
use Rattle.std.specs.Prelude.{Some, None, Result, Ok, Err}
use native.Mathlib.Nat.{mod-eq_of_lt, pow-le-pow_right, lt_of_le_of_lt}
use native.Mathlib.Omega.{arith}
use lib.Dec.{leb, lit<}
use lib.ListN.{length, take, drop, set, length-take, length-drop}
use lib.Seq.{length-take-le, take_at, drop_at, take-length, paste}
use borrow.Author.Tests.{leb-true}
use Rattle.search.specs.Ascending.{Ascending}
use Rattle.expr.specs.Tree.{Expr, Wf, value_of}
use Rattle.expr.specs.Tree.Expr.{variable, constant, condition_true, condition_false, effect, load, cast, binary, ternary}
use Rattle.expr.proofs.Laws.{wf-two}
use Rattle.expr.specs.Root.{root_of}
use Rattle.expr.specs.declared.Root.TheVariants.{Constant}
use Rattle.expr.proofs.Views.{constant-root}
use Rattle.poly.specs.Terms.{Written, sum, product}
use Rattle.poly.proofs.Running.{length-times, times_one, written-ordered}
use Rattle.poly.proofs.Values.{ascending-sum}
use Rattle.parity.specs.Parity.{constant_of, few, few_pairs, joined, constant_poly, number_in, noted, atom_low}
use Rattle.parity.specs.declared.TooMany.{TooMany}
use Rattle.parity.specs.Lent.{too_many, within, Lent, Sides, Made, Given}
use Rattle.parity.proofs.Numbers.{number-upto}

-- a constant's value, by its root
pub constant_told : (e : Expr) → root_of e ≡ Constant → Some (value_of e) ≡ constant_of e
constant_told e h = sym (ap constant_of (constant-root e h))

pub constant_other : (e : Expr) → (root_of e ≡ Constant → ⊥) → None ≡ constant_of e
unfolding root_of
constant_other (variable n) h = refl
constant_other (constant w x) h = absurd (h refl)
constant_other condition_true h = refl
constant_other condition_false h = refl
constant_other (effect t) h = refl
constant_other (load t a) h = refl
constant_other (cast t a) h = refl
constant_other (binary o a b) h = refl
constant_other (ternary c a b) h = refl

-- one term at the start
pub front : (terms : List ℕ) (t : ℕ) → 1 ≤ length terms → take 1 (set terms 0 t) ≡ t ∷ []
front [] t h = absurd (omega arith)
front (x ∷ terms) t h = refl

-- the polynomial of a constant
pub constant-made : {x y n : ℕ} {terms : List ℕ} → x ≡ y → n ≡ length (constant_poly x) → take n terms ≡ constant_poly x → Made true (constant_poly y) terms (Ok n)
constant-made same size stands = record { size = rw (size, same) refl; stands = λ _. rw (← same, ← size) stands }

-- what is told of a polynomial within the limits, and past them
pub record Told (fits : Bool) (poly terms : List ℕ) (n : ℕ) : Type 0 where
  pub fit : fits ≡ true
  pub count : n ≡ length poly
  pub stands : take n terms ≡ poly

pub told : {fits : Bool} {poly terms : List ℕ} {r : Result ℕ TooMany} {n : ℕ} → Made fits poly terms r → r ≡ Ok n → Told fits poly terms n
told {fits} {poly} {terms} {r} {n} m e = go fits refl (sym m.size ∙ e)
  where
    go : (b : Bool) → fits ≡ b → cond {A = Result ℕ TooMany} b (Ok (length poly)) (Err too_many) ≡ Ok n → Told fits poly terms n
    go true f h =
        let size : n ≡ length poly = cc in
        record { fit = f; count = size; stands = rw size (m.stands f) }
    go false f h = cc

pub passed : {fits : Bool} {poly terms : List ℕ} {r : Result ℕ TooMany} {x : TooMany} → Made fits poly terms r → r ≡ Err x → fits ≡ false
passed {fits} {poly} {terms} {r} {x} m e = go fits refl (sym m.size ∙ e)
  where
    go : (b : Bool) → fits ≡ b → cond {A = Result ℕ TooMany} b (Ok (length poly)) (Err too_many) ≡ Err x → fits ≡ false
    go true f h = cc
    go false f h = f

pub made_none : {fits : Bool} (poly terms : List ℕ) → fits ≡ false → Made fits poly terms (Err too_many)
made_none poly terms h = record { size = rw h; stands = λ k. let z : ◌≡◌ {A = Bool} false true = sym h ∙ k in cc }

-- a list copied into another stands there, and what is before it is as it was
pub copied-part : (l q : List ℕ) (at k : ℕ) → length q ≡ k → at + k ≤ length l → take k (drop at (paste l at q (length q))) ≡ q
copied-part l q at k e h =
    ap (λ (a : List ℕ). take k (drop at a)) (append_assoc (take at l) (take (length q) q) (drop (at + length q) l))
    ∙ ap (take k) (drop_at (take at l) (take (length q) q ++ drop (at + length q) l) at (length-take-le at l (omega arith)))
    ∙ ap (λ (a : List ℕ). take k (a ++ drop (at + length q) l)) (take-length q)
    ∙ take_at q (drop (at + length q) l) k e

pub copied-before : (l q : List ℕ) (at : ℕ) → at ≤ length l → take at (paste l at q (length q)) ≡ take at l
copied-before l q at h =
    ap (take at) (append_assoc (take at l) (take (length q) q) (drop (at + length q) l))
    ∙ take_at (take at l) (take (length q) q ++ drop (at + length q) l) at (length-take-le at l h)

-- the terms from n up to n + k
pub behind : (terms : List ℕ) (n k end : ℕ) → end ≡ n + k → take (end - n) (drop n terms) ≡ take k (drop n terms)
behind terms n k end e = let s : end - n ≡ k = omega arith in rw s

pub length-behind : (terms : List ℕ) (n k : ℕ) → n + k ≤ length terms → length (take k (drop n terms)) ≡ k
length-behind terms n k h = length-take-le k (drop n terms) (omega (arith, length-drop n terms))

-- a sum has no more terms than its two parts
pub length-sum : (p q : List ℕ) → length (sum p q) ≤ length p + length q
length-sum p q = rw (sym (times_one p q)) (length-times p 0 q)

-- a polynomial at the start, its count held to the limit
pub limited-made : {poly old new : List ℕ} {count room : ℕ} {r : Result ℕ TooMany} → Written poly count room old new
    → r ≡ within (leb count 256) count → Made (few poly) poly new r
limited-made w e = record { size = rw w.count at e; stands = λ _. rw w.count at w.terms }

pub told-within : {fits : Bool} {poly terms : List ℕ} {n : ℕ} → Told fits poly terms n → n ≤ length terms
told-within {terms = terms} {n = n} t = omega (arith, t.count, ap length t.stands, length-take n terms)

pub told-length : {fits : Bool} {poly terms : List ℕ} {n : ℕ} → Told fits poly terms n → length (take n terms) ≡ n
told-length {terms = terms} {n = n} t = length-take-le n terms (told-within t)

-- a polynomial moved from the start of one list to that of another
pub moved_made : {fits : Bool} {poly from : List ℕ} {n : ℕ} (terms : List ℕ) → Told fits poly from n → n ≤ length terms
    → Made fits poly (paste terms 0 (take n from) (length (take n from))) (Ok n)
moved_made {from = from} {n = n} terms t h = record {
  size = rw (t.fit, t.count);
  stands = λ _. ap (λ (j : ℕ). take j (paste terms 0 (take n from) (length (take n from)))) (sym t.count) ∙ copied-part terms (take n from) 0 n (told-length t) (omega arith) ∙ t.stands;
}

-- a product within the limits has few terms
pub product-few : (pairs : Bool) (poly : List ℕ) → (pairs && few poly) ≡ true → length poly ≤ 256
product-few true poly h = leb-true (length poly) 256 h
product-few false poly h = cc

no_join : (a b c : Bool) → (a && b) ≡ false → (a && (b && c)) ≡ false
no_join true true c h = cc
no_join true false c h = refl
no_join false b c h = refl

-- an or whose product passes the limits passes them
pub join-past : (p q : List ℕ) → (few_pairs p q && few (product p q)) ≡ false → (few_pairs p q && (few (product p q) && few (joined p q))) ≡ false
join-past p q h = no_join (few_pairs p q) (few (product p q)) (few (joined p q)) h

module _ (terms : List ℕ) (n k : ℕ) (scratch : List ℕ) (s : Sides terms n k scratch) where
  left-count : length (take n terms) ≡ n
  left-count = length-take-le n terms (omega (arith, s.left, s.space))

  right-count : length (take k (drop n terms)) ≡ k
  right-count = length-behind terms n k (omega (arith, s.left, s.right, s.space))

module _ {terms : List ℕ} {n k : ℕ} {scratch : List ℕ} (s : Sides terms n k scratch) where
  -- the or: the product stands at the start of one list, and the right side is copied behind it
  module _ {from copy mid : List ℕ} {count sums room : ℕ}
      (t : Told (few_pairs (take n terms) (take k (drop n terms)) && few (product (take n terms) (take k (drop n terms)))) (product (take n terms) (take k (drop n terms))) from count)
      (long : length from ≡ length scratch)
      (e : copy ≡ paste from count (take (n + k - n) (drop n terms)) (length (take (n + k - n) (drop n terms))))
      (w : Written (sum (take n terms) (take (count + k - count) (drop count copy))) sums room terms mid) where
    join-count : count ≤ 256
    join-count = omega (arith, t.count, product-few (few_pairs (take n terms) (take k (drop n terms))) (product (take n terms) (take k (drop n terms))) t.fit)

    join-right : take (count + k - count) (drop count copy) ≡ take k (drop n terms)
    join-right =
        behind copy count k (count + k) refl
        ∙ rw (behind terms n k (n + k) refl) at (ap (λ (l : List ℕ). take k (drop count l)) e)
        ∙ copied-part from (take k (drop n terms)) count k (right-count terms n k scratch s) (omega (arith, join-count, s.right, s.copies))

    join-sum : Written (sum (take n terms) (take k (drop n terms))) sums room terms mid
    join-sum = rw join-right at w

    -- the sum on the way has no more terms than the sides, in order
    pub join-few : sums ≤ n + k
    join-few =
        omega (arith, join-sum.count, length-sum (take n terms) (take k (drop n terms)), left-count terms n k scratch s, right-count terms n k scratch s)

    pub join-ordered : Ascending (take sums mid)
    join-ordered = written-ordered join-sum (ascending-sum (take n terms) (take k (drop n terms)) s.ordered)

    join-product : take count copy ≡ product (take n terms) (take k (drop n terms))
    join-product = ap (take count) e ∙ copied-before from (take (n + k - n) (drop n terms)) count (told-within t) ∙ t.stands

    pub join-taken : length (take count copy) ≤ 256
    join-taken = omega (arith, ap length join-product, t.count, join-count)

pub pow_small : (n : ℕ) → n < 64 → (1 * 2 ^ n) % 2 ^ 64 ≡ 2 ^ n
pow_small n h =
    let most : 2 ^ n ≤ 2 ^ 63 = pow-le-pow_right (lit< tt) {i = n} {j = 63} (omega arith) in
    let one : 1 * 2 ^ n ≡ 2 ^ n = omega arith in
    rw one (mod-eq_of_lt (lt_of_le_of_lt most (lit< tt)))

module _ (l : List Expr) (e : Expr) (few : length l < 64) {n : ℕ} (is : n ≡ number_in l e) where
  pub number_small : n < 64
  number_small = omega (arith, number-upto l e)

  -- an atom's polynomial, where it is noted
  pub atom-made : (new : List Expr) → new ≡ noted l e → (terms : List ℕ) → 1 ≤ length terms → Given (atom_low l e) new (set terms 0 ((1 * 2 ^ n) % 2 ^ 64)) (Ok 1)
  unfolding atom_low
  atom-made new more terms space = record {
    made = record { size = refl; stands = λ _. front terms ((1 * 2 ^ n) % 2 ^ 64) space ∙ ap (λ (t : ℕ). t ∷ []) (pow_small n number_small ∙ ap (λ (i : ℕ). 2 ^ i) is) };
    numbered = λ _. more;
  }

-- the table can hold one more atom
pub lent-count : {part terms scratch : List ℕ} {count : ℕ} → Wf part → Lent (length part) count terms scratch → count < 64
lent-count {part} wf lent = omega (arith, lent.room, wf-two part wf)
