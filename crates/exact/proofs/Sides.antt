-- The relations on exact sides hold exactly where the definitions that the code is proved against say so.
use Rattle.std.specs.Prelude.{Option, Some, None}
use Prim.Native.Nat.{ℕ, zero, suc, ◌≤◌}
use mathlib.Core.Path.{◌≡◌, refl, sym, ap, ◌∙◌}
use mathlib.Core.Bool.{Bool, true, false, cond, ◌||◌, false≢true}
use mathlib.Core.List.{[]}
use mathlib.Core.Logic.{inl, inr, ◌↔◌}
use native.Mathlib.Omega.{arith}
use lib.Dec.{eqb, leb}
use borrow.Author.Tests.{eqb-true, leb-true, le-leb, not-true}
use Rattle.laws.proofs.Booleans.{and_left, and_right, or-none, in_right, by_test}
use Rattle.expr.specs.Codes.{op_and}
use Rattle.expr.specs.Tree.{Expr}
use Rattle.expr.specs.Tree.Expr.{variable, constant, condition_true, condition_false, effect, load, cast, binary, ternary}
use Rattle.expr.specs.Scan.{any_node, is_effect, has_own_value, same_tree}
use Rattle.expr.proofs.Sameness.{same_tree-true, same_tree-refl}
use Rattle.value.specs.Evaluation.{ByPath, under}
use Rattle.poly.specs.Meaning.{bits, value}
use Rattle.poly.proofs.Unique.{one-everywhere, zero-everywhere}
use Rattle.parity.specs.Parity.{parity}
use Rattle.parity.specs.LowBit.{low_bit}
use Rattle.parity.proofs.Ordered.{parity-ascending}
use Rattle.parity.proofs.Choices.{poly-low, part-bits, some-choice}
use Rattle.exact.specs.declared.Shape.{Shape}
use Rattle.exact.specs.Exact.{same_sides, is_constant, low, shape, shape_value, shape_written, even_only, at_most_one, exact, written}
use Rattle.exact.specs.Sides.{NoEffect, LowBitIs, HasValue, AsWritten}
use Rattle.exact.proofs.ExactValue.{decided-low, Shaped, shaped}
use Rattle.exact.proofs.ExactValue.Shaped.{low-left, low-right, rem-two, same-sides, zero_left, zero_right, no-shape}

no-option : {A : Type 0} {x : ℕ} → None ≡ Some x → A
no-option e = cc

-- a constant of that value, of some width
pub record Written (k : ℕ) (e : Expr) : Type 0 where
  pub width : ℕ
  pub is : e ≡ constant width k

pub constant-is : (k : ℕ) (e : Expr) → is_constant k e ≡ true → Written k e
constant-is k (constant w x) h = record { width = w; is = ap (constant w) (eqb-true x k h) }
constant-is k (variable n) h = absurd (false≢true h)
constant-is k condition_true h = absurd (false≢true h)
constant-is k condition_false h = absurd (false≢true h)
constant-is k (effect t) h = absurd (false≢true h)
constant-is k (load t a) h = absurd (false≢true h)
constant-is k (cast t a) h = absurd (false≢true h)
constant-is k (binary o a b) h = absurd (false≢true h)
constant-is k (ternary c a b) h = absurd (false≢true h)

-- A polynomial decides the low bit exactly where it is the same for every choice.
pub low-found : (e : Expr) (v : ℕ) → (low e ≡ Some v) ↔ LowBitIs e v
low-found e v = (there, back)
  where
    there : low e ≡ Some v → LowBitIs e v
    there h = record { small = omega (arith, (decided-low (parity [] e).poly (λ i. false) v h).1); is = each }
      where
        each : (shared : Expr → Bool) (own : ByPath Bool) → low_bit shared own e ≡ eqb v 1
        each shared own =
            let c = part-bits shared own e in
            sym (poly-low c.bits [] shared own e c.fit) ∙ (decided-low (parity [] e).poly c.bits v h).0

    all : (x : Bool) → ((shared : Expr → Bool) (own : ByPath Bool) → low_bit shared own e ≡ x) → (m : ℕ) → value (bits m) (parity [] e).poly ≡ x
    all x h m = let c = some-choice (bits m) e e in poly-low (bits m) [] c.shared (under 0 c.own) e c.both.left ∙ h c.shared (under 0 c.own)

    by : (v : ℕ) → v ≤ 1 → ((shared : Expr → Bool) (own : ByPath Bool) → low_bit shared own e ≡ eqb v 1) → low e ≡ Some v
    by zero h is = rw (zero-everywhere (parity [] e).poly (parity-ascending [] e) (all false is))
    by (suc zero) h is = rw (one-everywhere (parity [] e).poly (parity-ascending [] e) (all true is))
    by (suc (suc v)) h is = absurd (omega arith)

    back : LowBitIs e v → low e ≡ Some v
    back h = by v h.small h.is

-- no effect, by the test and by the relation
no-effect : (e : Expr) → has_own_value e ≡ false → NoEffect e
unfolding any_node is_effect NoEffect
no-effect (variable n) h = tt
no-effect (constant w x) h = tt
no-effect condition_true h = tt
no-effect condition_false h = tt
no-effect (effect t) h = absurd (false≢true (sym h))
no-effect (load t a) h = no-effect a h
no-effect (cast t a) h = no-effect a h
no-effect (binary o a b) h = let p = or-none (has_own_value a) (has_own_value b) h in (no-effect a p.0, no-effect b p.1)
no-effect (ternary c a b) h =
    let p = or-none (has_own_value c) (has_own_value a || has_own_value b) h in
    let q = or-none (has_own_value a) (has_own_value b) p.1 in
    (no-effect c p.0, no-effect a q.0, no-effect b q.1)

effect-free : (e : Expr) → NoEffect e → has_own_value e ≡ false
unfolding any_node is_effect NoEffect
effect-free (variable n) h = refl
effect-free (constant w x) h = refl
effect-free condition_true h = refl
effect-free condition_false h = refl
effect-free (effect t) h = absurd h
effect-free (load t a) h = effect-free a h
effect-free (cast t a) h = effect-free a h
effect-free (binary o a b) h = rw (effect-free a h.0, effect-free b h.1)
effect-free (ternary c a b) h = rw (effect-free c h.0, effect-free a h.1, effect-free b h.2)

-- equal sides without an effect, both ways
pub same-tree : (a b : Expr) → same_sides a b ≡ true → (a ≡ b) × NoEffect a
same-tree a b h =
    (same_tree-true a b (and_left (same_tree a b) _ h), no-effect a (not-true (has_own_value a) (and_right (same_tree a b) _ h)))

pub same-itself : (a : Expr) → NoEffect a → same_sides a a ≡ true
same-itself a h = rw (same_tree-refl a, effect-free a h)

-- the value of a binary side from its shape
shape_has : (o : ℕ) (a b : Expr) (v : ℕ) (s : Shape) → Shaped o a b s → shape_value s a b ≡ Some v → HasValue (binary o a b) v
shape_has o a b v s (low-left e c) h = let k = constant-is 1 b c in rw (e, k.is) (HasValue.and_one ((low-found a v).0 h))
shape_has o a b v s (low-right e c) h = let k = constant-is 1 a c in rw (e, k.is) (HasValue.one-and ((low-found b v).0 h))
shape_has o a b v s (rem-two e c) h = let k = constant-is 2 b c in rw (e, k.is) (go (low a) refl h)
  where
    go : (x : Option ℕ) → low a ≡ x → even_only x ≡ Some v → HasValue (binary 4 a (constant (constant-is 2 b c).width 2)) v
    go None e h = no-option h
    go (Some x) e h = at (eqb x 0) refl h
      where
        at : (t : Bool) → eqb x 0 ≡ t → cond t (Some 0) None ≡ Some v → HasValue (binary 4 a (constant (constant-is 2 b c).width 2)) v
        at true t h = let is : 0 ≡ v = cc in rw (← is) (HasValue.even ((low-found a 0).0 (e ∙ ap Some (eqb-true x 0 t))))
        at false t h = no-option h
shape_has o a b v s (same-sides (inl e) c) h =
    let k = same-tree a b c in let is : 0 ≡ v = cc in rw (e, ← is, ← k.0) (HasValue.less-itself k.1)
shape_has o a b v s (same-sides (inr e) c) h =
    let k = same-tree a b c in let is : 0 ≡ v = cc in rw (e, ← is, ← k.0) (HasValue.xor-itself k.1)
shape_has o a b v s (zero_left (inl e) c) h = let k = constant-is 0 a c in let is : 0 ≡ v = cc in rw (e, ← is, k.is) HasValue.zero-and
shape_has o a b v s (zero_left (inr e) c) h = let k = constant-is 0 a c in let is : 0 ≡ v = cc in rw (e, ← is, k.is) HasValue.zero-times
shape_has o a b v s (zero_right (inl e) c) h = let k = constant-is 0 b c in let is : 0 ≡ v = cc in rw (e, ← is, k.is) HasValue.and_zero
shape_has o a b v s (zero_right (inr e) c) h = let k = constant-is 0 b c in let is : 0 ≡ v = cc in rw (e, ← is, k.is) HasValue.times_zero
shape_has o a b v s no-shape h = no-option h

has_value : (e : Expr) (v : ℕ) → exact e ≡ Some v → HasValue e v
unfolding exact
has_value (variable n) v h = no-option h
has_value (constant w x) v h = let is : x ≡ v = cc in rw is HasValue.number
has_value condition_true v h = no-option h
has_value condition_false v h = no-option h
has_value (effect t) v h = no-option h
has_value (load t a) v h = no-option h
has_value (cast t a) v h = go (exact a) (has_value a) h
  where
    go : (x : Option ℕ) → ((v : ℕ) → x ≡ Some v → HasValue a v) → at_most_one x ≡ Some v → HasValue (cast t a) v
    go None below h = no-option h
    go (Some x) below h = at (leb x 1) refl h
      where
        at : (b : Bool) → leb x 1 ≡ b → cond b (Some x) None ≡ Some v → HasValue (cast t a) v
        at true b h = let is : x ≡ v = cc in rw (← is) (HasValue.in-cast (leb-true x 1 b) (below x refl))
        at false b h = no-option h
has_value (binary o a b) v h = shape_has o a b v (shape o a b) (shaped o a b) h
has_value (ternary c a b) v h = no-option h

-- & with a 1 on the left: where the right side is 1 too, it is the left one's low bit that is asked
one-and-value : (w v : ℕ) (b : Expr) → low b ≡ Some v → exact (binary op_and (constant w 1) b) ≡ Some v
unfolding exact shape parity
one-and-value w v b h = by_test (is_constant 1 b) (λ t. rw t (one t)) (λ t. rw t h)
  where
    one : is_constant 1 b ≡ true → low (constant w 1) ≡ Some v
    one t = let k = constant-is 1 b t in rw k.is at h

has-found : (e : Expr) (v : ℕ) → HasValue e v → exact e ≡ Some v
unfolding exact shape parity
has-found e v HasValue.number = refl
has-found e v (HasValue.in-cast {t = t} {a = a} small h) = rw (has-found a v h, le-leb v 1 small)
has-found e v (HasValue.and_one {a = a} h) = (low-found a v).1 h
has-found e v (HasValue.one-and {w = w} {b = b} h) = one-and-value w v b ((low-found b v).1 h)
has-found e v (HasValue.even {a = a} h) = rw ((low-found a 0).1 h)
has-found e v (HasValue.less-itself {a = a} h) = rw (same-itself a h)
has-found e v (HasValue.xor-itself {a = a} h) = rw (same-itself a h)
has-found e v (HasValue.times_zero {a = a}) = rw (in_right (is_constant 0 a) true refl)
has-found e v HasValue.zero-times = refl
has-found e v (HasValue.and_zero {a = a}) = by_test (is_constant 1 a) (λ t. rw t) (λ t. rw (t, in_right (is_constant 0 a) true refl))
has-found e v (HasValue.zero-and {b = b}) = by_test (is_constant 1 b) (λ t. rw t) (λ t. rw t)

-- A side has a value exactly where `exact` finds it.
pub value_found : (e : Expr) (v : ℕ) → (exact e ≡ Some v) ↔ HasValue e v
value_found e v = (has_value e v, has-found e v)

shape-written : (o : ℕ) (a b : Expr) (s : Shape) → Shaped o a b s → (written a ≡ true → AsWritten a) → (written b ≡ true → AsWritten b)
    → shape_written s (written a) (written b) ≡ true → AsWritten (binary o a b)
shape-written o a b s (low-left e c) p q h = let k = constant-is 1 b c in rw (e, k.is) (AsWritten.and_one (p h))
shape-written o a b s (low-right e c) p q h = let k = constant-is 1 a c in rw (e, k.is) (AsWritten.one-and (q h))
shape-written o a b s (rem-two e c) p q h = let k = constant-is 2 b c in rw (e, k.is) (AsWritten.remainder (p h))
shape-written o a b s (same-sides e c) p q h = absurd (false≢true h)
shape-written o a b s (zero_left e c) p q h = absurd (false≢true h)
shape-written o a b s (zero_right e c) p q h = absurd (false≢true h)
shape-written o a b s no-shape p q h = absurd (false≢true h)

is-written : (e : Expr) → written e ≡ true → AsWritten e
unfolding written
is-written (variable n) h = absurd (false≢true h)
is-written (constant w x) h = AsWritten.number
is-written condition_true h = absurd (false≢true h)
is-written condition_false h = absurd (false≢true h)
is-written (effect t) h = absurd (false≢true h)
is-written (load t a) h = absurd (false≢true h)
is-written (cast t a) h = AsWritten.in-cast (is-written a h)
is-written (binary o a b) h = shape-written o a b (shape o a b) (shaped o a b) (is-written a) (is-written b) h
is-written (ternary c a b) h = absurd (false≢true h)

written_is : (e : Expr) → AsWritten e → written e ≡ true
unfolding written shape
written_is e AsWritten.number = refl
written_is e (AsWritten.in-cast {a = a} h) = written_is a h
written_is e (AsWritten.and_one {a = a} h) = written_is a h
written_is e (AsWritten.one-and {b = b} h) = by_test (is_constant 1 b) (λ t. rw t) (λ t. rw t (written_is b h))
written_is e (AsWritten.remainder {a = a} h) = written_is a h

-- A side is a constant as written exactly where `written` says so.
pub written-found : (e : Expr) → (written e ≡ true) ↔ AsWritten e
written-found e = (is-written e, written_is e)
