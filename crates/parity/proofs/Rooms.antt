-- How many terms a part has by its words: fewer than two to the number of its leaves, of which each takes four words but the first.
use Prim.Native.Nat.{ℕ, suc, ◌+◌, ◌*◌, ◌/◌, ◌%◌, ◌^◌, ◌≤◌, ◌<◌}
use mathlib.Core.Path.{◌≡◌, refl}
use mathlib.Core.Bool.{Bool, true, false, cond}
use mathlib.Core.List.{List, [], ◌∷◌}
use native.Mathlib.Nat.{mul-le-mul, mul-suc, suc-mul, pow-le-pow_right}
use native.Mathlib.Omega.{arith}
use lib.Dec.{eqb, ltb, lit<}
use lib.ListN.{length}
use lib.Pow.{pow-add}
use borrow.Author.Tests.{ltb-true, ltb-false}
use Rattle.expr.specs.Tree.{Expr, flat}
use Rattle.expr.specs.Tree.Expr.{variable, constant, condition_true, condition_false, effect, load, cast, binary, ternary}
use Rattle.expr.proofs.Laws.{flat-two}
use Rattle.poly.specs.Terms.{sum, product, sum_times, sum_product}
use Rattle.poly.proofs.Running.{length-times}
use Rattle.parity.specs.Parity.{Low, entered, atom_low, low_of, parity}
use Rattle.parity.specs.declared.Entry.{Entry}
use Rattle.parity.specs.declared.Entry.TheVariants.{Both, Keeps, Clears, Atom}
use Rattle.parity.specs.declared.Pair.TheVariants.{Sum, Product, Or}
use Rattle.parity.specs.Lent.{ProductsRoom}
use Rattle.parity.proofs.Ordered.{flat-binary, flat-cast}
use Rattle.parity.proofs.Steps.{length-sum}

-- two to the number of leaves that w words can hold
abbrev pub leaves : ℕ → ℕ
leaves w = 2 ^ ((w + 2) / 4)

leaves-more : (u w : ℕ) → u ≤ w → leaves u ≤ leaves w
leaves-more u w h = pow-le-pow_right (lit< tt) {i = (u + 2) / 4} {j = (w + 2) / 4} (omega arith)

leaves-two : (u v : ℕ) → leaves u * leaves v ≤ leaves (u + v + 2)
leaves-two u v =
    rw (← pow-add 2 ((u + 2) / 4) ((v + 2) / 4))
    (pow-le-pow_right (lit< tt) {i = (u + 2) / 4 + (v + 2) / 4} {j = (u + v + 2 + 2) / 4} (omega arith))

leaves-one : (w : ℕ) → 2 ≤ w → 1 < leaves w
leaves-one w h = pow-le-pow_right (lit< tt) {i = 1} {j = (w + 2) / 4} (omega arith)

-- no more terms than pairs
length-products : (l a b : List ℕ) → length (sum_product l a b) ≤ length l + length a * length b
unfolding sum_product
length-products l [] b = omega arith
length-products l (x ∷ a) b = omega (arith, length-products (sum_times l x b) a b, length-times l x b, suc-mul (length a) (length b))

-- two sides put together
grown : {a b p q : ℕ} → a < p → b < q → a + b + a * b < p * q
grown {a} {b} {p} {q} h k = omega (arith, mul-le-mul h k, suc-mul a (suc b), mul-suc a b)

entry-terms : (k : Entry) (x y own : Low) (l : List Expr) {p q w : ℕ} → length x.poly < p → length y.poly < q → length own.poly < w
    → p * q ≤ w → p ≤ w → length (low_of k x y own l).poly < w
entry-terms (Both Sum) x y own l h k o both left = omega (arith, length-sum x.poly y.poly, grown h k)
entry-terms (Both Product) x y own l h k o both left = omega (arith, length-products [] x.poly y.poly, grown h k)
entry-terms (Both Or) x y own l h k o both left =
    omega (arith, length-sum (sum x.poly y.poly) (product x.poly y.poly), length-sum x.poly y.poly, length-products [] x.poly y.poly, grown h k)
entry-terms Keeps x y own l h k o both left = omega arith
entry-terms Clears x y own l h k o both left = omega arith
entry-terms Atom x y own l h k o both left = o

-- a part has fewer terms than that
pub parity-terms : (l : List Expr) (e : Expr) → length (parity l e).poly < leaves (length (flat e))
unfolding parity atom_low
parity-terms l (variable n) = leaves-one (length (flat (variable n))) (flat-two (variable n))
parity-terms l (constant w x) = go (eqb (x % 2) 1)
  where
    go : (b : Bool) → length {A = ℕ} (cond b (0 ∷ []) []) < leaves (length (flat (constant w x)))
    go true = leaves-one (length (flat (constant w x))) (flat-two (constant w x))
    go false = omega (arith, leaves-one (length (flat (constant w x))) (flat-two (constant w x)))
parity-terms l condition_true = leaves-one (length (flat condition_true)) (flat-two condition_true)
parity-terms l condition_false = leaves-one (length (flat condition_false)) (flat-two condition_false)
parity-terms l (effect t) = leaves-one (length (flat (effect t))) (flat-two (effect t))
parity-terms l (load t a) = leaves-one (length (flat (load t a))) (flat-two (load t a))
parity-terms l (cast t a) = go (eqb t 9) (parity-terms l a)
  where
    go : (b : Bool) → length (parity l a).poly < leaves (length (flat a)) → length (cond b (atom_low l (cast t a)) (parity l a)).poly < leaves (length (flat (cast t a)))
    go true h = leaves-one (length (flat (cast t a))) (flat-two (cast t a))
    go false h = omega (arith, leaves-more (length (flat a)) (length (flat (cast t a))) (omega (arith, flat-cast t a)))
parity-terms l (binary o a b) =
    entry-terms (entered o b) (parity l a) (parity (parity l a).atoms b) (atom_low l (binary o a b)) l (parity-terms l a) (parity-terms (parity l a).atoms b)
    (leaves-one (length (flat (binary o a b))) (flat-two (binary o a b)))
    (rw (flat-binary o a b) (leaves-two (length (flat a)) (length (flat b))))
    (leaves-more (length (flat a)) (length (flat (binary o a b))) (omega (arith, flat-binary o a b)))
parity-terms l (ternary c a b) = leaves-one (length (flat (ternary c a b))) (flat-two (ternary c a b))

-- Eight for each word, and for each of two more, are no fewer than a part's terms within the limits.
pub eight-each : (n w : ℕ) → 2 ≤ w → n ≤ 256 → n < leaves w → n ≤ 8 * (w + 2)
eight-each n w two few h = go (ltb ((w + 2) / 4) 6) refl (ltb ((w + 2) / 4) 8) refl
  where
    go : (b : Bool) → ltb ((w + 2) / 4) 6 ≡ b → (c : Bool) → ltb ((w + 2) / 4) 8 ≡ c → n ≤ 8 * (w + 2)
    go true e c f =
        let small : leaves w ≤ 32 = pow-le-pow_right (lit< tt) {i = (w + 2) / 4} {j = 5} (omega (arith, ltb-true ((w + 2) / 4) 6 e)) in
        omega (arith, h, two)
    go false e true f =
        let middle : leaves w ≤ 128 = pow-le-pow_right (lit< tt) {i = (w + 2) / 4} {j = 7} (omega (arith, ltb-true ((w + 2) / 4) 8 f)) in
        omega (arith, h, ltb-false ((w + 2) / 4) 6 e)
    go false e false f = omega (arith, few, ltb-false ((w + 2) / 4) 8 f)

-- the pairs of two sides fit
pub pairs-room : (u v n k : ℕ) (scratch : List ℕ) → ProductsRoom (u + v + 2) scratch → n < leaves u → k < leaves v → n * k ≤ 4096 → n * k ≤ length scratch
pairs-room u v n k scratch room h j within = go (ltb 36 (u + v + 2)) refl
  where
    go : (b : Bool) → ltb 36 (u + v + 2) ≡ b → n * k ≤ length scratch
    go true e = omega (arith, within, room.most (ltb-true 36 (u + v + 2) e))
    go false e =
        let most : leaves (u + v + 2) ≤ 512 =
        pow-le-pow_right (lit< tt) {i = (u + v + 2 + 2) / 4} {j = 9} (omega (arith, ltb-false 36 (u + v + 2) e)) in
        omega (arith, room.least, grown h j, leaves-two u v)

-- the same space serves a smaller part
pub products-lent : {u w : ℕ} {scratch scratch' : List ℕ} → ProductsRoom w scratch → u ≤ w → length scratch' ≡ length scratch → ProductsRoom u scratch'
products-lent room h e = record { least = omega (arith, room.least); most = λ k. omega (arith, room.most (omega arith)) }
