-- An exact side that has a value has the value that `exact` finds: a constant is its own number, as constants are below their
-- width; 0 and 1 are the same number at every type; the other shapes follow from the low bit, or are 0 whatever their sides are.
use Rattle.std.specs.Prelude.{Option, Some, None}
use Prim.Native.Nat.{ℕ, ◌+◌, ◌*◌, ◌-◌, ◌%◌, ◌^◌, ◌<◌, ◌≤◌}
use mathlib.Core.Path.{◌≡◌, refl, sym, ap, ap₂, ◌∙◌}
use mathlib.Core.Bool.{Bool, true, false, cond, ◌&&◌, ◌||◌, false≢true}
use mathlib.Core.List.{List, [], ◌∷◌}
use mathlib.Core.Logic.{◌⊎◌, inl, inr}
use native.Mathlib.Nat.{mod-eq_of_lt, pow-le-pow_right, mod_self, zero-mul, mul-zero}
use native.Mathlib.Omega.{arith}
use lib.Bits.{and_comm, and_zero_l, and_zero_r, xor_self, and_mask}
use lib.Dec.{eqb, leb}
use lib.IntN.{ℤ, pos, negsuc, neg_ℤ, nat_abs}
use lib.Signed.{rem_z}
use borrow.Author.Tests.{not-true, ne_eqb, eqb-true, leb-true, lt-leb}
use Rattle.laws.proofs.Booleans.{and_left as left-holds, and_right as right-holds}
use Rattle.expr.specs.Tree.{Expr}
use Rattle.expr.specs.Tree.Expr.{variable, constant, condition_true, condition_false, effect, load, cast, binary, ternary}
use Rattle.expr.specs.Scan.{has_own_value, same_tree}
use Rattle.expr.specs.Types.{bits, signed, type_of, together, constant_type}
use Rattle.arith.specs.Numbers.{negative, number, residue, convert, remainder}
use Rattle.arith.proofs.Laws.{number-plain, convert-lt, some as positive}
use Rattle.value.specs.Operators.{arithmetics, shifts, comparisons, operators, operate, taken}
use Rattle.value.specs.Evaluation.{Values, Contents, Effects, under, shared, ev}
use Rattle.poly.specs.Meaning.{value}
use Rattle.poly.proofs.Values.{value-one}
use Rattle.parity.specs.Parity.{parity}
use Rattle.exact.specs.Exact.{same_sides, is_constant, decided_bit, low as low_of, shape, shape_value, even_only, at_most_one, exact}
use Rattle.exact.specs.declared.Shape.{Shape}
use Rattle.exact.specs.declared.Shape.TheVariants.{LowLeft, LowRight, Even, Vanishes, Other}
use Rattle.parity.specs.LowBit.{bit, low, shared_bits, own_bits}
use Rattle.expr.proofs.Sameness.{same_tree-true}
use Rattle.value.proofs.Laws.{ev-typed}
use Rattle.value.proofs.Independence.{without-own-value}
use Rattle.parity.proofs.Choices.{poly-low, part-bits}
use Rattle.parity.proofs.LowBits.{by_two, convert-low, number-low, even-width}
use Rattle.parity.proofs.TypeLaws.{constant-plain, small_plain, together-taken}
use Rattle.parity.proofs.Evaluation.{ev-low}

-- every constant of a tree is below its width
unfoldable pub Fitting : Expr → Type 0
Fitting (variable n) = Unit {0}
Fitting (constant w x) = x < 2 ^ bits (constant_type w)
Fitting condition_true = Unit {0}
Fitting condition_false = Unit {0}
Fitting (effect t) = Unit {0}
Fitting (load t a) = Fitting a
Fitting (cast t a) = Fitting a
Fitting (binary o a b) = Fitting a × Fitting b
Fitting (ternary c a b) = Fitting c × Fitting a × Fitting b

-- a pattern that stands for itself at its type
abbrev pub Plain : ℕ → ℕ → Type 0
Plain t v = number t v ≡ pos v

-- converted to a type that can hold it, such a pattern stays as it is
pub convert-plain : (s t v : ℕ) → eqb t 9 ≡ false → Plain s v → v < 2 ^ bits t → convert s t v ≡ v
unfolding convert residue
convert-plain s t v test is room = rw (test, is) (mod-eq_of_lt room)

no_value : (z : ℕ) → None ≡ Some z → ⊥
no_value z e = cc

strict-left : (o s t : ℕ) (v : Option ℕ) → o < 16 → operate o s t None v ≡ None
unfolding operate
strict-left o s t v h = rw (ne_eqb o 16 (λ e. omega arith), ne_eqb o 17 (λ e. omega arith))

strict-right : (o s t x : ℕ) → o < 16 → operate o s t (Some x) None ≡ None
unfolding operate
strict-right o s t x h = rw (ne_eqb o 16 (λ e. omega arith), ne_eqb o 17 (λ e. omega arith))

-- how a binary part is exact
pub data Shaped (o : ℕ) (a b : Expr) : Shape → Type 0 where
  low-left : o ≡ 5 → is_constant 1 b ≡ true → Shaped o a b LowLeft
  low-right : o ≡ 5 → is_constant 1 a ≡ true → Shaped o a b LowRight
  rem-two : o ≡ 4 → is_constant 2 b ≡ true → Shaped o a b Even
  same-sides : (o ≡ 1) ⊎ (o ≡ 7) → same_sides a b ≡ true → Shaped o a b Vanishes
  zero_left : (o ≡ 5) ⊎ (o ≡ 2) → is_constant 0 a ≡ true → Shaped o a b Vanishes
  zero_right : (o ≡ 5) ⊎ (o ≡ 2) → is_constant 0 b ≡ true → Shaped o a b Vanishes
  no-shape : Shaped o a b Other

pub shaped : (o : ℕ) (a b : Expr) → Shaped o a b (shape o a b)
unfolding shape
shaped o a b = first (eqb o 5) refl (is_constant 1 b) refl (is_constant 1 a) refl
  where
    fourth : (x : Bool) → eqb o 5 ≡ x → (y : Bool) → eqb o 2 ≡ y → (l : Bool) → is_constant 0 a ≡ l → (r : Bool) → is_constant 0 b ≡ r
        → Shaped o a b (cond ((x || y) && (l || r)) Vanishes Other)
    fourth true e y g true l r h = zero_left (inl (eqb-true o 5 e)) l
    fourth true e y g false l true h = zero_right (inl (eqb-true o 5 e)) h
    fourth true e y g false l false h = no-shape
    fourth false e true g true l r h = zero_left (inr (eqb-true o 2 g)) l
    fourth false e true g false l true h = zero_right (inr (eqb-true o 2 g)) h
    fourth false e true g false l false h = no-shape
    fourth false e false g l k r h = no-shape

    rest : Shaped o a b (cond ((eqb o 5 || eqb o 2) && (is_constant 0 a || is_constant 0 b)) Vanishes Other)
    rest = fourth (eqb o 5) refl (eqb o 2) refl (is_constant 0 a) refl (is_constant 0 b) refl

    third : (x : Bool) → eqb o 1 ≡ x → (y : Bool) → eqb o 7 ≡ y → (s : Bool) → same_sides a b ≡ s
        → Shaped o a b (cond ((x || y) && s) Vanishes (cond ((eqb o 5 || eqb o 2) && (is_constant 0 a || is_constant 0 b)) Vanishes Other))
    third true e y g true same = same-sides (inl (eqb-true o 1 e)) same
    third true e y g false same = rest
    third false e true g true same = same-sides (inr (eqb-true o 7 g)) same
    third false e true g false same = rest
    third false e false g s same = rest

    second : (x : Bool) → eqb o 4 ≡ x → (y : Bool) → is_constant 2 b ≡ y
        → Shaped o a b (cond (x && y) Even (cond ((eqb o 1 || eqb o 7) && same_sides a b) Vanishes (cond ((eqb o 5 || eqb o 2) && (is_constant 0 a || is_constant 0 b)) Vanishes Other)))
    second true e true g = rem-two (eqb-true o 4 e) g
    second true e false g = third (eqb o 1) refl (eqb o 7) refl (same_sides a b) refl
    second false e y g = third (eqb o 1) refl (eqb o 7) refl (same_sides a b) refl

    first : (x : Bool) → eqb o 5 ≡ x → (y : Bool) → is_constant 1 b ≡ y → (z : Bool) → is_constant 1 a ≡ z
        → Shaped o a b (cond (x && y) LowLeft (cond (x && z) LowRight (cond (eqb o 4 && is_constant 2 b) Even (cond ((eqb o 1 || eqb o 7) && same_sides a b) Vanishes (cond ((eqb o 5 || eqb o 2) && (is_constant 0 a || is_constant 0 b)) Vanishes Other)))))
    first true e true g z h = low-left (eqb-true o 5 e) g
    first true e false g true h = low-right (eqb-true o 5 e) h
    first true e false g false h = second (eqb o 4) refl (is_constant 2 b) refl
    first false e y g z h = second (eqb o 4) refl (is_constant 2 b) refl

pub value-is : {x y : ℕ} → Some x ≡ Some y → x ≡ y
value-is e = cc

-- a small number, at a type for operands
converted : (s t k v : ℕ) → Plain s v → v < 2 ^ 32 → convert s (together t k) v ≡ v
converted s t k v is room =
    let taken = together-taken t k in
    let wide : 2 ^ 32 ≤ 2 ^ bits (together t k) = pow-le-pow_right (omega arith) taken.wide in
    convert-plain s (together t k) v taken.number is (omega arith)

-- a number below half the range stands for itself
wide-plain : (t v : ℕ) → 32 ≤ bits t → v < 2 ^ 31 → Plain t v
unfolding negative
wide-plain t v wide small = number-plain t v (go (signed t) (lt-leb (2 ^ bits t) (2 * v) (omega (arith, room))))
  where
    room : 2 ^ 32 ≤ 2 ^ bits t
    room = pow-le-pow_right (omega arith) wide

    go : (b : Bool) → leb (2 ^ bits t) (2 * v) ≡ false → (b && leb (2 ^ bits t) (2 * v)) ≡ false
    go true e = e
    go false e = refl

rest-none : (z : ℤ) → nat_abs z % 2 ≡ 0 → rem_z z (pos 2) ≡ pos 0
rest-none (pos n) e = ap pos e
rest-none (negsuc n) e = ap (λ (k : ℕ). neg_ℤ (pos k)) e

-- an even pattern leaves nothing by 2
even-rest : (t x : ℕ) → 32 ≤ bits t → x < 2 ^ bits t → x % 2 ≡ 0 → remainder t x 2 ≡ 0
unfolding remainder residue
even-rest t x wide p none' =
    rw (wide-plain t 2 wide (omega arith), rest-none (number t x) (number-low t x p ∙ none')) (mod-eq_of_lt (positive t))

-- the shapes on patterns x of type s and y of type t
module _ (s t x y z : ℕ) (p : x < 2 ^ bits s) (q : y < 2 ^ bits t) where
  abbrev T : ℕ
  T = together s t

  and_right : Plain t 1 → operate 5 s t (Some x) (Some 1) ≡ Some z → z ≡ x % 2
  unfolding operate operators arithmetics shifts comparisons
  and_right is e =
      sym (value-is e) ∙ rw (converted t s t 1 is (omega arith))
      (and_mask (convert s T x) 1 ∙ convert-low s T x (together-taken s t).number p)

  and_left : Plain s 1 → operate 5 s t (Some 1) (Some y) ≡ Some z → z ≡ y % 2
  unfolding operate operators arithmetics shifts comparisons
  and_left is e =
      sym (value-is e) ∙ rw (converted s s t 1 is (omega arith), and_comm)
      (and_mask (convert t T y) 1 ∙ convert-low t T y (together-taken s t).number q)

  rem-even : Plain t 2 → x % 2 ≡ 0 → operate 4 s t (Some x) (Some 2) ≡ Some z → z ≡ 0
  unfolding operate operators arithmetics shifts comparisons
  rem-even is none' e =
      let two : convert t T 2 ≡ 2 = converted t s t 2 is (omega arith) in
      let left : Some (remainder T (convert s T x) 2) ≡ Some z = rw two at e in
      sym (value-is left) ∙ even-rest T (convert s T x) (together-taken s t).wide (convert-lt s T x) (convert-low s T x (together-taken s t).number p ∙ none')

  and-none-left : Plain s 0 → operate 5 s t (Some 0) (Some y) ≡ Some z → z ≡ 0
  unfolding operate operators arithmetics shifts comparisons
  and-none-left is e = sym (value-is e) ∙ rw (converted s s t 0 is (omega arith)) (and_zero_l (convert t T y))

  and-none-right : Plain t 0 → operate 5 s t (Some x) (Some 0) ≡ Some z → z ≡ 0
  unfolding operate operators arithmetics shifts comparisons
  and-none-right is e = sym (value-is e) ∙ rw (converted t s t 0 is (omega arith)) (and_zero_r (convert s T x))

  mul-none-left : Plain s 0 → operate 2 s t (Some 0) (Some y) ≡ Some z → z ≡ 0
  unfolding operate operators arithmetics shifts comparisons
  mul-none-left is e = sym (value-is e) ∙ rw (converted s s t 0 is (omega arith), zero-mul) (mod-eq_of_lt (positive T))

  mul-none-right : Plain t 0 → operate 2 s t (Some x) (Some 0) ≡ Some z → z ≡ 0
  unfolding operate operators arithmetics shifts comparisons
  mul-none-right is e = sym (value-is e) ∙ rw (converted t s t 0 is (omega arith), mul-zero) (mod-eq_of_lt (positive T))

sub_same : (s x z : ℕ) → operate 1 s s (Some x) (Some x) ≡ Some z → z ≡ 0
unfolding operate operators arithmetics shifts comparisons
sub_same s x z e =
    let c = convert s (together s s) x in
    let whole : c + (2 ^ bits (together s s) - c) ≡ 2 ^ bits (together s s) = omega (arith, convert-lt s (together s s) x) in
    sym (value-is e) ∙ rw whole (mod_self (2 ^ bits (together s s)))

xor_same : (s x z : ℕ) → operate 7 s s (Some x) (Some x) ≡ Some z → z ≡ 0
unfolding operate operators arithmetics shifts comparisons
xor_same s x z e = sym (value-is e) ∙ xor_self (convert s (together s s) x)

-- a polynomial that is decided has the value of that bit everywhere
pub decided-low : (p : List ℕ) (γ : ℕ → Bool) (v : ℕ) → decided_bit p ≡ Some v → (value γ p ≡ eqb v 1) × (v < 2)
unfolding value
decided-low [] γ v e = let is : 0 ≡ v = cc in (rw (← is), omega arith)
decided-low (n ∷ []) γ v e = go (eqb n 0) refl e
  where
    go : (b : Bool) → eqb n 0 ≡ b → cond b (Some 1) None ≡ Some v → (value γ (n ∷ []) ≡ eqb v 1) × (v < 2)
    go true test e = let is : 1 ≡ v = cc in let z = eqb-true n 0 test in (rw (z, ← is) (value-one γ), omega arith)
    go false test e = cc
decided-low (n ∷ k ∷ l) γ v e = cc

-- a polynomial that is decided gives the low bit of the part's value
module _ (types : List ℕ) (ρ σ : Values) (m : Contents) where
  abbrev at : Effects → Expr → Option ℕ
  at f e = ev types ρ σ (shared m) f e

  pub low_value : (f : Effects) (e : Expr) (v x : ℕ) → low_of e ≡ Some v → at f e ≡ Some x → x % 2 ≡ v
  low_value f e v x is has =
      let c = part-bits (shared_bits types ρ σ m) (own_bits types ρ σ m f e) e in
      let d = decided-low (parity [] e).poly c.bits v is in
      let ends : bit x ≡ eqb v 1 =
      ap low (sym has) ∙ ev-low types ρ σ m f e (rw has tt)
      ∙ sym (poly-low c.bits [] (shared_bits types ρ σ m) (own_bits types ρ σ m f e) e c.fit) ∙ d.0
      in
      same (x % 2) v (omega arith) d.1 ends
    where
      same : (r v : ℕ) → r < 2 → v < 2 → eqb r 1 ≡ eqb v 1 → r ≡ v
      same r v p q = by_two (λ (r : ℕ). eqb r 1 ≡ eqb v 1 → r ≡ v) (by_two (λ (v : ℕ). eqb 0 1 ≡ eqb v 1 → 0 ≡ v) (λ e. refl) (λ e. absurd (false≢true e)) v q) (by_two (λ (v : ℕ). eqb 1 1 ≡ eqb v 1 → 1 ≡ v) (λ e. absurd (false≢true (sym e))) (λ e. refl) v q) r p

  -- what an exact side's value is
  pub record Exactly (t x v : ℕ) : Type 0 where
    pub is : x ≡ v
    pub plain : Plain t v

  exact-small : (t x v : ℕ) → x ≡ v → v ≤ 1 → Exactly t x v
  exact-small t x v e h = record { is = e; plain = small_plain t v h }

  -- both sides of an operator that has a value
  pub record Operands (u v : Option ℕ) : Type 0 where
    pub x : ℕ
    pub y : ℕ
    pub left : u ≡ Some x
    pub right : v ≡ Some y

  -- what an operator is made of
  pub operands : (o s t : ℕ) (u v : Option ℕ) (z : ℕ) → o < 16 → operate o s t u v ≡ Some z → Operands u v
  operands o s t (Some x) (Some y) z h e = record { x = x; y = y; left = refl; right = refl }
  operands o s t (Some x) None z h e = absurd (no_value z (sym (strict-right o s t x h) ∙ e))
  operands o s t None v z h e = absurd (no_value z (sym (strict-left o s t v h) ∙ e))

  -- a constant's value, where it is below its width
  pub constant-at : (f : Effects) (e : Expr) (k : ℕ) → Fitting e → is_constant k e ≡ true → (at f e ≡ Some k) × Plain (type_of types e) k
  unfolding Fitting ev type_of
  constant-at f (constant w n) k fit test =
      let is = eqb-true n k test in
      (ap Some (mod-eq_of_lt fit ∙ is), rw (← is) (constant-plain w n))
  constant-at f (variable n) k fit test = absurd (false≢true test)
  constant-at f condition_true k fit test = absurd (false≢true test)
  constant-at f condition_false k fit test = absurd (false≢true test)
  constant-at f (effect t) k fit test = absurd (false≢true test)
  constant-at f (load t a) k fit test = absurd (false≢true test)
  constant-at f (cast t a) k fit test = absurd (false≢true test)
  constant-at f (binary o a b) k fit test = absurd (false≢true test)
  constant-at f (ternary c a b) k fit test = absurd (false≢true test)

  -- from the sides' values
  pub joined-value : (o s t : ℕ) {u v : Option ℕ} {x y z : ℕ} → u ≡ Some x → v ≡ Some y → operate o s t u v ≡ Some z → operate o s t (Some x) (Some y) ≡ Some z
  joined-value o s t left right e = sym (ap₂ (operate o s t) left right) ∙ e

  below-16 : {o : ℕ} → (o ≡ 1) ⊎ (o ≡ 7) → o < 16
  below-16 (inl e) = omega arith
  below-16 (inr e) = omega arith

  abbrev Small : ℕ → ℕ → Type 0
  Small x v = (x ≡ v) × (v ≤ 1)

  none-small : (x v : ℕ) → Some 0 ≡ Some v → x ≡ 0 → Small x v
  none-small x v is e = let z : 0 ≡ v = cc in (e ∙ z, omega arith)

  bit-small : (f : Effects) (e : Expr) (v n x : ℕ) → low_of e ≡ Some v → at f e ≡ Some n → x ≡ n % 2 → Small x v
  bit-small f e v n x is has same = let low-is = low_value f e v n is has in (same ∙ low-is, omega arith)

  module _ (f : Effects) (a b : Expr) (fit : Fitting a × Fitting b) (x : ℕ) where
    abbrev s : ℕ
    s = type_of types a

    abbrev t : ℕ
    t = type_of types b

    abbrev u : Option ℕ
    u = at (under 0 f) a

    abbrev w : Option ℕ
    w = at (under 1 f) b

    -- the patterns are of their types
    pub typed-left : (n : ℕ) → u ≡ Some n → n < 2 ^ bits s
    typed-left n e = rw e at (ev-typed types ρ σ (shared m) (under 0 f) a)

    pub typed-right : (n : ℕ) → w ≡ Some n → n < 2 ^ bits t
    typed-right n e = rw e at (ev-typed types ρ σ (shared m) (under 1 f) b)

    -- equal sides without an effect have one value
    pub one_value : same_sides a b ≡ true → (s ≡ t) × (u ≡ w)
    one_value same =
        let is = same_tree-true a b (left-holds _ _ same) in
        let plain : has_own_value a ≡ false = not-true _ (right-holds (same_tree a b) _ same) in
        (ap (type_of types) is, without-own-value types ρ σ (shared m) (under 0 f) (under 1 f) a plain ∙ ap (at (under 1 f)) is)

    same-zero : (o n k : ℕ) → (o ≡ 1) ⊎ (o ≡ 7) → s ≡ t → u ≡ Some n → w ≡ Some k → n ≡ k → operate o s t u w ≡ Some x → x ≡ 0
    same-zero o n k (inl is) types' left right alike e =
        sub_same s n x (sym (ap (λ (q : ℕ). operate 1 s q (Some n) (Some n)) (sym types')) ∙ ap (λ (q : ℕ). operate 1 s t (Some n) (Some q)) alike ∙ joined-value 1 s t left right (sym (ap (λ (q : ℕ). operate q s t u w) is) ∙ e))
    same-zero o n k (inr is) types' left right alike e =
        xor_same s n x (sym (ap (λ (q : ℕ). operate 7 s q (Some n) (Some n)) (sym types')) ∙ ap (λ (q : ℕ). operate 7 s t (Some n) (Some q)) alike ∙ joined-value 7 s t left right (sym (ap (λ (q : ℕ). operate q s t u w) is) ∙ e))

    binary-exact : (o v : ℕ) (k : Shape) → Shaped o a b k → shape_value k a b ≡ Some v → operate o s t u w ≡ Some x → Small x v
    binary-exact o v k (low-left is one) found e =
        let d = operands o s t u w x (omega arith) e in
        let c = constant-at (under 1 f) b 1 fit.1 one in
        let e' = joined-value 5 s t d.left c.0 (sym (ap (λ (q : ℕ). operate q s t u w) is) ∙ e) in
        bit-small (under 0 f) a v d.x x found d.left (and_right s t d.x d.y x (typed-left d.x d.left) (typed-right d.y d.right) c.1 e')
    binary-exact o v k (low-right is one) found e =
        let d = operands o s t u w x (omega arith) e in
        let c = constant-at (under 0 f) a 1 fit.0 one in
        let e' = joined-value 5 s t c.0 d.right (sym (ap (λ (q : ℕ). operate q s t u w) is) ∙ e) in
        bit-small (under 1 f) b v d.y x found d.right (and_left s t d.x d.y x (typed-left d.x d.left) (typed-right d.y d.right) c.1 e')
    binary-exact o v k (rem-two is two) found e = go (low_of a) refl found
      where
        go : (l : Option ℕ) → low_of a ≡ l → even_only l ≡ Some v → Small x v
        go None found' e' = cc
        go (Some n) found' e' = on (eqb n 0) refl e'
          where
            on : (c : Bool) → eqb n 0 ≡ c → cond c (Some 0) None ≡ Some v → Small x v
            on false test e'' = cc
            on true test e'' =
                let d = operands o s t u w x (omega arith) e in
                let c = constant-at (under 1 f) b 2 fit.1 two in
                let e''' = joined-value 4 s t d.left c.0 (sym (ap (λ (q : ℕ). operate q s t u w) is) ∙ e) in
                none-small x v e''
                (rem-even s t d.x d.y x (typed-left d.x d.left) (typed-right d.y d.right) c.1
                (low_value (under 0 f) a n d.x found' d.left ∙ eqb-true n 0 test) e''')
    binary-exact o v k (same-sides is same) found e =
        let d = operands o s t u w x (below-16 is) e in
        let one = one_value same in
        none-small x v found (same-zero o d.x d.y is one.0 d.left d.right (value-is (sym d.left ∙ one.1 ∙ d.right)) e)
    binary-exact o v k (zero_left is none') found e = none-small x v found (go is)
      where
        go : (o ≡ 5) ⊎ (o ≡ 2) → x ≡ 0
        go (inl five) =
            let d = operands o s t u w x (omega arith) e in
            let c = constant-at (under 0 f) a 0 fit.0 none' in
            and-none-left s t d.x d.y x (typed-left d.x d.left) (typed-right d.y d.right) c.1
            (joined-value 5 s t c.0 d.right (sym (ap (λ (q : ℕ). operate q s t u w) five) ∙ e))
        go (inr two) =
            let d = operands o s t u w x (omega arith) e in
            let c = constant-at (under 0 f) a 0 fit.0 none' in
            mul-none-left s t d.x d.y x (typed-left d.x d.left) (typed-right d.y d.right) c.1
            (joined-value 2 s t c.0 d.right (sym (ap (λ (q : ℕ). operate q s t u w) two) ∙ e))
    binary-exact o v k (zero_right is none') found e = none-small x v found (go is)
      where
        go : (o ≡ 5) ⊎ (o ≡ 2) → x ≡ 0
        go (inl five) =
            let d = operands o s t u w x (omega arith) e in
            let c = constant-at (under 1 f) b 0 fit.1 none' in
            and-none-right s t d.x d.y x (typed-left d.x d.left) (typed-right d.y d.right) c.1
            (joined-value 5 s t d.left c.0 (sym (ap (λ (q : ℕ). operate q s t u w) five) ∙ e))
        go (inr two) =
            let d = operands o s t u w x (omega arith) e in
            let c = constant-at (under 1 f) b 0 fit.1 none' in
            mul-none-right s t d.x d.y x (typed-left d.x d.left) (typed-right d.y d.right) c.1
            (joined-value 2 s t d.left c.0 (sym (ap (λ (q : ℕ). operate q s t u w) two) ∙ e))
    binary-exact o v k no-shape found e = cc

  -- a cast of 0 or 1
  cast-small : (s t x : ℕ) → x ≤ 1 → convert s t x ≡ x
  unfolding convert residue
  cast-small s t x h = go (eqb t 9) refl
    where
      go : (c : Bool) → eqb t 9 ≡ c → cond c (cond (eqb x 0) 0 1) (residue (2 ^ bits t) (number s x)) ≡ x
      go true test = by_two (λ (n : ℕ). cond (eqb n 0) 0 1 ≡ n) refl refl x (omega arith)
      go false test =
          let w = even-width t in
          rw (small_plain s x h) (mod-eq_of_lt (omega (arith, w.is, positive t)))

  cast-exact : (t k v x : ℕ) (u : Option ℕ) (l : Option ℕ) → ((n y : ℕ) → l ≡ Some n → u ≡ Some y → Exactly k y n)
      → at_most_one l ≡ Some v → taken k t u ≡ Some x → Exactly t x v
  cast-exact t k v x u None below is e = cc
  cast-exact t k v x None (Some n) below is e = absurd (no_value x e)
  cast-exact t k v x (Some y) (Some n) below is e = go (leb n 1) refl is
    where
      go : (c : Bool) → leb n 1 ≡ c → cond c (Some n) None ≡ Some v → Exactly t x v
      go false test is' = cc
      go true test is' =
          let same : n ≡ v = cc in
          let few = leb-true n 1 test in
          let found = (below n y refl refl).is in
          exact-small t x v (sym (value-is e) ∙ cast-small k t y (omega arith) ∙ found ∙ same) (omega arith)

  -- The value of an exact side is what `exact` finds.
  pub exact-value : (f : Effects) (e : Expr) (v x : ℕ) → Fitting e → exact e ≡ Some v → at f e ≡ Some x → Exactly (type_of types e) x v
  unfolding exact Fitting ev type_of
  exact-value f (variable n) v x fit is e = cc
  exact-value f (constant w n) v x fit is e =
      let same : n ≡ v = cc in
      record { is = sym (value-is e) ∙ mod-eq_of_lt fit ∙ same; plain = rw (← same) (constant-plain w n) }
  exact-value f condition_true v x fit is e = cc
  exact-value f condition_false v x fit is e = cc
  exact-value f (effect t) v x fit is e = cc
  exact-value f (load t a) v x fit is e = cc
  exact-value f (cast t a) v x fit is e =
      cast-exact t (type_of types a) v x (at (under 0 f) a) (exact a) (λ n y found has. exact-value (under 0 f) a n y fit found has) is e
  exact-value f (binary o a b) v x fit is e =
      let d = binary-exact f a b fit x o v (shape o a b) (shaped o a b) is e in
      exact-small (type_of types (binary o a b)) x v d.0 d.1
  exact-value f (ternary c a b) v x fit is e = cc
