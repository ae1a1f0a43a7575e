-- In every evaluation the low bit of a part that has a value is the part's low bit at the low bits of its atoms' values. What
-- `parity` enters needs all its sides, so they have values too, and the value rules keep low bits as they are entered.
use Prim.Native.Nat.{ℕ, zero, suc, ◌%◌, ◌^◌, ◌<◌, ◌≤◌}
use mathlib.Core.Path.{◌≡◌, refl, sym, ap, ◌∙◌}
use mathlib.Core.Bool.{Bool, true, false, cond, not, xor, ◌&&◌, ◌||◌}
use mathlib.Core.List.{List, []}
use Rattle.std.specs.Prelude.{Option, Some, None}
use native.Mathlib.Omega.{arith}
use native.Mathlib.Nat.{mod-eq_of_lt, pow-le-pow_right}
use lib.Bits.{bit_and, bit_or, bit_xor}
use lib.Dec.{eqb, ltb}
use borrow.Author.Tests.{eqb-true, eqb-false, ltb-true}
use Rattle.expr.specs.Tree.{Expr}
use Rattle.expr.specs.Tree.Expr.{variable, constant, condition_true, condition_false, effect, load, cast, binary, ternary}
use Rattle.expr.specs.Scan.{has_own_value}
use Rattle.expr.specs.Types.{bits, type_of, promoted, together, constant_type}
use Rattle.arith.specs.Numbers.{convert, count, sum, difference, product, remainder}
use Rattle.value.specs.Operators.{Typed, arithmetics, shifts, comparisons, operators, operate, taken}
use Rattle.value.specs.Evaluation.{Values, Contents, Effects, ByPath, under, shared, ev}
use Rattle.value.proofs.Laws.{ev-typed}
use Rattle.value.proofs.Independence.{without-own-value}
use Rattle.arith.proofs.Laws.{convert-lt, count-is, cut-lt}
use Rattle.parity.proofs.TypeLaws.{promoted-taken, together-taken, constant_wide}
use Rattle.parity.specs.Parity.{constant_of, on_remainder, on_shift, entered}
use Rattle.parity.specs.declared.Entry.TheVariants.{Keeps, Clears, Atom}
use Rattle.parity.specs.LowBit.{bit, atom_bit, low_bit, low, Has, shared_bits, own_bits}
use Rattle.parity.proofs.Entries.{bit_of, beyond, rule-entry}
use Rattle.parity.proofs.LowBits.{width_low, convert-low, sum_low, difference_low, product-low, xor_low, and_low, or-low, remainder-low, shift_none, shift-some}

-- The operators that are entered, and that no other is.
data View : ℕ → Type 0 where
  plus : View 0
  minus : View 1
  times : View 2
  rest : View 4
  and : View 5
  or : View 6
  exclusive : View 7
  left : View 8
  other : {o : ℕ} → ((b : Expr) → entered o b ≡ Atom) → View o

view : (o : ℕ) → View o
unfolding entered
view zero = plus
view (suc zero) = minus
view (suc (suc zero)) = times
view (suc (suc (suc zero))) = other (λ b. refl)
view (suc (suc (suc (suc zero)))) = rest
view (suc (suc (suc (suc (suc zero))))) = and
view (suc (suc (suc (suc (suc (suc zero)))))) = or
view (suc (suc (suc (suc (suc (suc (suc zero))))))) = exclusive
view (suc (suc (suc (suc (suc (suc (suc (suc zero)))))))) = left
view (suc (suc (suc (suc (suc (suc (suc (suc (suc o))))))))) = other (beyond (suc (suc (suc (suc (suc (suc (suc (suc (suc o))))))))) (omega arith))

-- a binary value whose low bit comes from both sides
record Sides (g : Bool → Bool → Bool) (u v w : Option ℕ) : Type 0 where
  is : low w ≡ g (low u) (low v)
  first : Has u
  second : Has v

-- an operation at the common type
common-low : (g : Bool → Bool → Bool) (op : ℕ → ℕ → ℕ → ℕ) → ((t x y : ℕ) → x < 2 ^ bits t → y < 2 ^ bits t → bit (op t x y) ≡ g (bit x) (bit y))
    → (s t x y : ℕ) → x < 2 ^ bits s → y < 2 ^ bits t
    → bit (op (together s t) (convert s (together s t) x) (convert t (together s t) y)) ≡ g (bit x) (bit y)
common-low g op law s t x y hx hy =
    let k = together s t in
    let n = (together-taken s t).number in
    law k (convert s k x) (convert t k y) (convert-lt s k x) (convert-lt t k y) ∙ rw (convert-low s k x n hx, convert-low t k y n hy)

-- an operator that is such an operation
record Operates (o : ℕ) (op : ℕ → ℕ → ℕ → ℕ) : Type 0 where
  both : (s t x y : ℕ) → operate o s t (Some x) (Some y) ≡ Some (op (together s t) (convert s (together s t) x) (convert t (together s t) y))
  left-none : (s t : ℕ) (v : Option ℕ) → operate o s t None v ≡ None
  right-none : (s t x : ℕ) → operate o s t (Some x) None ≡ None

sides : (g : Bool → Bool → Bool) (o : ℕ) (op : ℕ → ℕ → ℕ → ℕ) → Operates o op
    → ((t x y : ℕ) → x < 2 ^ bits t → y < 2 ^ bits t → bit (op t x y) ≡ g (bit x) (bit y))
    → (s t : ℕ) (u v : Option ℕ) → Typed s u → Typed t v → Has (operate o s t u v) → Sides g u v (operate o s t u v)
sides g o op is law s t (Some x) (Some y) p q h =
    record { is = rw (is.both s t x y) (common-low g op law s t x y p q); first = tt; second = tt }
sides g o op is law s t (Some x) None p q h = absurd (rw (is.right-none s t x) at h)
sides g o op is law s t None v p q h = absurd (rw (is.left-none s t v) at h)

operates-add : Operates 0 sum
unfolding operate operators arithmetics shifts comparisons
operates-add = record { both = λ s t x y. refl; left-none = λ s t v. refl; right-none = λ s t x. refl }

operates-sub : Operates 1 difference
unfolding operate operators arithmetics shifts comparisons
operates-sub = record { both = λ s t x y. refl; left-none = λ s t v. refl; right-none = λ s t x. refl }

operates-mul : Operates 2 product
unfolding operate operators arithmetics shifts comparisons
operates-mul = record { both = λ s t x y. refl; left-none = λ s t v. refl; right-none = λ s t x. refl }

operates-and : Operates 5 (λ t x y. bit_and x y)
unfolding operate operators arithmetics shifts comparisons
operates-and = record { both = λ s t x y. refl; left-none = λ s t v. refl; right-none = λ s t x. refl }

operates-or : Operates 6 (λ t x y. bit_or x y)
unfolding operate operators arithmetics shifts comparisons
operates-or = record { both = λ s t x y. refl; left-none = λ s t v. refl; right-none = λ s t x. refl }

operates-xor : Operates 7 (λ t x y. bit_xor x y)
unfolding operate operators arithmetics shifts comparisons
operates-xor = record { both = λ s t x y. refl; left-none = λ s t v. refl; right-none = λ s t x. refl }

-- a value whose low bit is that of its left side
record Kept (u w : Option ℕ) : Type 0 where
  is : low w ≡ low u
  first : Has u

-- the remainder by an even number
rest-low : (s t : ℕ) (u : Option ℕ) (y : ℕ) → Typed s u → y < 2 ^ bits t → y % 2 ≡ 0 → Has (operate 4 s t u (Some y)) → Kept u (operate 4 s t u (Some y))
unfolding operate operators arithmetics shifts comparisons
rest-low s t (Some x) y p q even h = go (eqb (convert t k y) 0) h
  where
    k : ℕ
    k = together s t

    n : eqb k 9 ≡ false
    n = (together-taken s t).number

    same : remainder k (convert s k x) (convert t k y) % 2 ≡ x % 2
    same =
        remainder-low k (convert s k x) (convert t k y) (convert-lt s k x) (convert-lt t k y) (convert-low t k y n q ∙ even)
        ∙ convert-low s k x n p

    go : (b : Bool) → Has (cond b None (Some (remainder k (convert s k x) (convert t k y))))
        → Kept (Some x) (cond b None (Some (remainder k (convert s k x) (convert t k y))))
    go true h = absurd h
    go false h = record { is = rw same; first = tt }
rest-low s t None y p q even h = absurd h

-- a shift to the left by a number below 32
module _ (s t x y : ℕ) (p : x < 2 ^ bits s) (q : y < 2 ^ bits t) (low_count : y < 32) where
  counted : count (promoted s) t y ≡ y
  counted = sym (count-is (promoted s) t y q) ∙ mod-eq_of_lt (omega (arith, (promoted-taken s).wide))

  shift-keeps : y ≡ 0 → low (operate 8 s t (Some x) (Some y)) ≡ bit x
  unfolding operate operators arithmetics shifts comparisons
  shift-keeps zeroth =
      rw (counted, zeroth, shift_none (promoted s) (convert s (promoted s) x), convert-low s (promoted s) x (promoted-taken s).number p)

  shift-clears : 1 ≤ y → low (operate 8 s t (Some x) (Some y)) ≡ false
  unfolding operate operators arithmetics shifts comparisons
  shift-clears more = rw (counted, shift-some (promoted s) (convert s (promoted s) x) y more)

shift-none-value : (s t y : ℕ) → Has (operate 8 s t None (Some y)) → ⊥
unfolding operate operators arithmetics shifts comparisons
shift-none-value s t y h = h

record Shifted (u w : Option ℕ) (y : ℕ) : Type 0 where
  first : Has u
  keeps' : y ≡ 0 → low w ≡ low u
  clears' : 1 ≤ y → low w ≡ false

shift-low : (s t : ℕ) (u : Option ℕ) (y : ℕ) → Typed s u → y < 2 ^ bits t → y < 32 → Has (operate 8 s t u (Some y)) → Shifted u (operate 8 s t u (Some y)) y
shift-low s t (Some x) y p q less h = record { first = tt; keeps' = shift-keeps s t x y p q less; clears' = shift-clears s t x y p q less }
shift-low s t None y p q less h = absurd (shift-none-value s t y h)

-- a part that is a constant as written
option-apart : (k : ℕ) → None ≡ Some k → ⊥
option-apart k e = cc

some-injective : {x y : ℕ} → Some x ≡ Some y → x ≡ y
some-injective e = cc

record Constant (b : Expr) (k : ℕ) : Type 0 where
  width : ℕ
  is : b ≡ constant width k

constant-is : (b : Expr) (k : ℕ) → constant_of b ≡ Some k → Constant b k
constant-is (variable n) k e = absurd (option-apart k e)
constant-is (constant w x) k e = record { width = w; is = ap (constant w) (some-injective e) }
constant-is condition_true k e = absurd (option-apart k e)
constant-is condition_false k e = absurd (option-apart k e)
constant-is (effect t) k e = absurd (option-apart k e)
constant-is (load t a) k e = absurd (option-apart k e)
constant-is (cast t a) k e = absurd (option-apart k e)
constant-is (binary o a b) k e = absurd (option-apart k e)
constant-is (ternary c a b) k e = absurd (option-apart k e)

module _ (types : List ℕ) (ρ σ : Values) (m : Contents) where
  -- the value in one evaluation; effects differ from part to part
  abbrev at : Effects → Expr → Option ℕ
  at f e = ev types ρ σ (shared m) f e

  abbrev shared-bits : Expr → Bool
  shared-bits e = shared_bits types ρ σ m e

  abbrev own_bits_of : Effects → Expr → ByPath Bool
  own_bits_of f e = own_bits types ρ σ m f e

  atom-low : (f : Effects) (e : Expr) (φ : ByPath Bool) → φ [] ≡ low (at f e) → low (at f e) ≡ atom_bit shared-bits φ e
  atom-low f e φ own = go (has_own_value e) refl
    where
      go : (b : Bool) → has_own_value e ≡ b → low (at f e) ≡ cond b (φ []) (shared-bits e)
      go true test = sym own
      go false test = ap low (without-own-value types ρ σ (shared m) f (λ path. 0) e test)

  -- a constant's value
  constant-value : (f : Effects) (w k : ℕ) → at f (constant w k) ≡ Some (k % 2 ^ bits (constant_type w))
  unfolding ev
  constant-value f w k = refl

  binary-value : (f : Effects) (o : ℕ) (a b : Expr)
      → at f (binary o a b) ≡ operate o (type_of types a) (type_of types b) (at (under 0 f) a) (at (under 1 f) b)
  unfolding ev
  binary-value f o a b = refl

  cast-low : (f : Effects) (t : ℕ) (a : Expr) → eqb t 9 ≡ false → Has (at f (cast t a)) → Kept (at (under 0 f) a) (at f (cast t a))
  unfolding ev
  cast-low f t a test h = go (at (under 0 f) a) (ev-typed types ρ σ (shared m) (under 0 f) a) h
    where
      go : (u : Option ℕ) → Typed (type_of types a) u → Has (taken (type_of types a) t u) → Kept u (taken (type_of types a) t u)
      go (Some x) p h = record { is = rw (convert-low (type_of types a) t x test p); first = tt }
      go None p h = absurd h

  -- an operator, from what the low bits of its sides are
  module _ (f : Effects) (a b : Expr) (x y z : Bool) (p : Has (at (under 0 f) a) → low (at (under 0 f) a) ≡ x)
      (q : Has (at (under 1 f) b) → low (at (under 1 f) b) ≡ y) where
    abbrev s : ℕ
    s = type_of types a

    abbrev t : ℕ
    t = type_of types b

    abbrev u : Option ℕ
    u = at (under 0 f) a

    abbrev v : Option ℕ
    v = at (under 1 f) b

    two : (g : Bool → Bool → Bool) (o : ℕ) (op : ℕ → ℕ → ℕ → ℕ) → Operates o op
        → ((t x y : ℕ) → x < 2 ^ bits t → y < 2 ^ bits t → bit (op t x y) ≡ g (bit x) (bit y))
        → Has (operate o s t u v) → low (operate o s t u v) ≡ g x y
    two g o op is law h =
        let d = sides g o op is law s t u v (ev-typed types ρ σ (shared m) (under 0 f) a) (ev-typed types ρ σ (shared m) (under 1 f) b) h in
        d.is ∙ rw (p d.first, q d.second)

    -- a constant on the right
    constant-side : (k : ℕ) → constant_of b ≡ Some k → (8 ≤ bits t) × (v ≡ Some (k % 2 ^ bits t))
    unfolding type_of ev
    constant-side k is =
        let c = constant-is b k is in
        (rw c.is (constant_wide c.width), rw c.is)

    on-rest : (c : Option ℕ) → constant_of b ≡ c → Has (operate 4 s t u v) → low (operate 4 s t u v) ≡ z → low (operate 4 s t u v) ≡ bit_of (on_remainder c) x y z
    on-rest None is h own = own
    on-rest (Some k) is h own = go (eqb k 0) (eqb (k % 2) 0) refl
      where
        r : ℕ
        r = k % 2 ^ bits t

        go : (c d : Bool) → eqb (k % 2) 0 ≡ d → low (operate 4 s t u v) ≡ bit_of (cond (not c && d) Keeps Atom) x y z
        go true d test = own
        go false false test = own
        go false true test =
            let side = constant-side k is in
            let even : k % 2 ^ bits t % 2 ≡ 0 = width_low t k ∙ eqb-true (k % 2) 0 test in
            let h' : Has (operate 4 s t u (Some (k % 2 ^ bits t))) = rw side.1 at h in
            let kept = rest-low s t u (k % 2 ^ bits t) (ev-typed types ρ σ (shared m) (under 0 f) a) (cut-lt t k) even h' in
            rw side.1 (kept.is ∙ p kept.first)

    on-shift : (c : Option ℕ) → constant_of b ≡ c → Has (operate 8 s t u v) → low (operate 8 s t u v) ≡ z → low (operate 8 s t u v) ≡ bit_of (on_shift c) x y z
    on-shift None is h own = own
    on-shift (Some k) is h own = go (eqb k 0) refl (ltb k 32) refl
      where
        side : (8 ≤ bits t) × (v ≡ Some (k % 2 ^ bits t))
        side = constant-side k is

        shifted : k < 32 → Shifted u (operate 8 s t u v) k
        shifted less =
            let room : 2 ^ 8 ≤ 2 ^ bits t = pow-le-pow_right (omega arith) side.0 in
            let small : k % 2 ^ bits t ≡ k = mod-eq_of_lt (omega arith) in
            let is' : v ≡ Some k = side.1 ∙ ap Some small in
            rw is' (shift-low s t u k (ev-typed types ρ σ (shared m) (under 0 f) a) (omega arith) less (rw is' at h))

        go : (c : Bool) → eqb k 0 ≡ c → (d : Bool) → ltb k 32 ≡ d → low (operate 8 s t u v) ≡ bit_of (cond c Keeps (cond d Clears Atom)) x y z
        go true test d below = let none' = eqb-true k 0 test in let d = shifted (omega arith) in d.keeps' none' ∙ p d.first
        go false test true below = let some' = eqb-false k 0 test in (shifted (ltb-true k 32 below)).clears' (omega (arith, some'))
        go false test false below = own

    by-view : (o : ℕ) → View o → Has (operate o s t u v) → low (operate o s t u v) ≡ z → low (operate o s t u v) ≡ bit_of (entered o b) x y z
    unfolding entered
    by-view o plus h own = two xor 0 sum operates-add (λ t x y hx hy. sum_low t x y) h
    by-view o minus h own = two xor 1 difference operates-sub (λ t x y hx hy. difference_low t x y hy) h
    by-view o times h own = two ◌&&◌ 2 product operates-mul (λ t x y hx hy. product-low t x y) h
    by-view o rest h own = on-rest (constant_of b) refl h own
    by-view o and h own = two ◌&&◌ 5 (λ t x y. bit_and x y) operates-and (λ t x y hx hy. and_low x y) h
    by-view o or h own = two ◌||◌ 6 (λ t x y. bit_or x y) operates-or (λ t x y hx hy. or-low x y) h
    by-view o exclusive h own = two xor 7 (λ t x y. bit_xor x y) operates-xor (λ t x y hx hy. xor_low x y) h
    by-view o left h own = on-shift (constant_of b) refl h own
    by-view o (other is) h own = rw (is b) own

  -- the low bit of every part that has a value
  pub ev-low : (f : Effects) (e : Expr) → Has (at f e) → low (at f e) ≡ low_bit shared-bits (own_bits_of f e) e
  unfolding low_bit own_bits
  ev-low f (variable n) h = atom-low f (variable n) (own_bits_of f (variable n)) refl
  ev-low f (constant w x) h = rw (constant-value f w x, width_low (constant_type w) x)
  ev-low f condition_true h = atom-low f condition_true (own_bits_of f condition_true) refl
  ev-low f condition_false h = atom-low f condition_false (own_bits_of f condition_false) refl
  ev-low f (effect t) h = atom-low f (effect t) (own_bits_of f (effect t)) refl
  ev-low f (load t a) h = atom-low f (load t a) (own_bits_of f (load t a)) refl
  ev-low f (cast t a) h = go (eqb t 9) refl (ev-low (under 0 f) a)
    where
      go : (b : Bool) → eqb t 9 ≡ b → (Has (at (under 0 f) a) → low (at (under 0 f) a) ≡ low_bit shared-bits (own_bits_of (under 0 f) a) a)
          → low (at f (cast t a)) ≡ cond b (atom_bit shared-bits (own_bits_of f (cast t a)) (cast t a)) (low_bit shared-bits (own_bits_of (under 0 f) a) a)
      go true test below = atom-low f (cast t a) (own_bits_of f (cast t a)) refl
      go false test below = let d = cast-low f t a test h in d.is ∙ below d.first
  ev-low f (binary o a b) h =
      ap low (binary-value f o a b)
      ∙ by-view f a b (low_bit shared-bits (own_bits_of (under 0 f) a) a) (low_bit shared-bits (own_bits_of (under 1 f) b) b)
      (atom_bit shared-bits (own_bits_of f (binary o a b)) (binary o a b)) (ev-low (under 0 f) a) (ev-low (under 1 f) b) o (view o) (rw (binary-value f o a b) at h)
      (sym (ap low (binary-value f o a b)) ∙ atom-low f (binary o a b) (own_bits_of f (binary o a b)) refl)
      ∙ sym (rule-entry (low_bit shared-bits (own_bits_of (under 0 f) a) a) (low_bit shared-bits (own_bits_of (under 1 f) b) b) (atom_bit shared-bits (own_bits_of f (binary o a b)) (binary o a b)) o b)
  ev-low f (ternary c a b) h = atom-low f (ternary c a b) (own_bits_of f (ternary c a b)) refl
