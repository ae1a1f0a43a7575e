-- The laws of the operators and of evaluation that this crate's proofs and other crates' cite. Assumes nothing.
use Rattle.std.specs.Prelude.{Option, Some, None}
use mathlib.Core.Path.{◌≡◌, refl, sym, ap, ◌∙◌}
use mathlib.Core.Bool.{Bool, true, false, cond, not, ◌||◌, false≢true}
use mathlib.Core.List.{List, [], ◌∷◌, ◌++◌, map}
use Prim.Native.Nat.{ℕ, zero, suc, ◌+◌, ◌*◌, ◌-◌, ◌^◌, ◌≤◌, ◌<◌}
use native.Mathlib.Omega.{arith}
use lib.Bits.{and_lt, or_lt, xor_lt}
use lib.Dec.{eqb, ltb, lit<}
use lib.ListN.{get_or, get_or-append, get_or-map, get_or-eq_default}
use lib.Seq.{get_or-append-add}
use borrow.Author.Tests.{ltb-true, ltb-false, eqb-true}
use Rattle.expr.specs.Codes.{signed8, signed32, no_type, op_shl, op_equal, op_logical_and, op_logical_or, operator_count}
use Rattle.expr.specs.Tree.{Expr}
use Rattle.expr.specs.Scan.{plain_expr}
use Rattle.expr.specs.Tree.Expr.{variable, constant, condition_true, condition_false, effect, load, cast, binary, ternary}
use Rattle.expr.specs.Types.{promoted, together, binary_type, constant_type, type_of}
use Rattle.expr.specs.Root.{root_of}
use Rattle.expr.specs.declared.Root.TheVariants as root
use Rattle.expr.proofs.Views.{by-root}
use Rattle.expr.proofs.Plainness.{effect-not-plain, load-not-plain}
use Rattle.arith.specs.Numbers.{bits, convert, quotient, remainder, count, below, at_most}
use Rattle.arith.proofs.Laws.{cut-lt, quotient-typed, remainder-typed, shift-typed, convert-lt}
use Rattle.value.specs.Operators.{Typed, chosen, integer_of, truth_of, flag, taken, divides, Operation, arithmetics, shifts, comparisons, no_operation, on_common, on_left, operators, no_operator, strict, is_logic, connect, operate, choose}
use Rattle.value.specs.Evaluation.{Values, Contents, Memory, Effects, under, loaded, ev, evaluated}

-- an operation whose value is of type u, on patterns of type t
abbrev Yields : ℕ → ℕ → Operation → Type 0
Yields t u op = (x y : ℕ) → x < 2 ^ bits t → y < 2 ^ bits t → Typed u (op t x y)

abbrev EachYields : ℕ → ℕ → List Operation → Type 0
EachYields t u [] = Unit {0}
EachYields t u (op ∷ l) = Yields t u op × EachYields t u l

yields-get_or : (t u : ℕ) (l : List Operation) (i : ℕ) → EachYields t u l → Yields t u (get_or l i no_operation)
yields-get_or t u [] i h = λ x y hx hy. tt
yields-get_or t u (op ∷ l) zero h = h.0
yields-get_or t u (op ∷ l) (suc i) h = yields-get_or t u l i h.1

divides-typed : (t y r : ℕ) → r < 2 ^ bits t → Typed t (divides y r)
divides-typed t y r h = by (eqb y 0)
  where
    by : (b : Bool) → Typed t (cond b None (Some r))
    by true = tt
    by false = h

flag-typed : (b : Bool) → Typed 2 (flag b)
unfolding bits
flag-typed true = lit< tt
flag-typed false = lit< tt

arithmetics-typed : (t : ℕ) → EachYields t t arithmetics
unfolding arithmetics
arithmetics-typed t = (
  λ x y hx hy. cut-lt t (x + y),
  (
    λ x y hx hy. cut-lt t (x + (2 ^ bits t - y)),
    (
      λ x y hx hy. cut-lt t (x * y),
      (
        λ x y hx hy. divides-typed t y (quotient t x y) (quotient-typed t x y),
        (
          λ x y hx hy. divides-typed t y (remainder t x y) (remainder-typed t x y),
          (λ x y hx hy. and_lt (bits t) x y hx hy, (λ x y hx hy. or_lt (bits t) x y hx hy, (λ x y hx hy. xor_lt (bits t) x y hx hy, tt))),
        ),
      ),
    ),
  ),
)

comparisons-typed : (t : ℕ) → EachYields t 2 comparisons
unfolding comparisons
comparisons-typed t = (
  λ x y hx hy. flag-typed (eqb x y),
  (
    λ x y hx hy. flag-typed (not (eqb x y)),
    (
      λ x y hx hy. flag-typed (below t x y),
      (λ x y hx hy. flag-typed (at_most t x y), (λ x y hx hy. flag-typed (below t y x), (λ x y hx hy. flag-typed (at_most t y x), tt))),
    ),
  ),
)

-- a shift's value is of the left type, whatever the count
shift-value : (t x k : ℕ) (i : ℕ) → Typed t (get_or shifts i no_operation t x k)
unfolding shifts
shift-value t x k zero = cut-lt t (x * 2 ^ k)
shift-value t x k (suc zero) = shift-typed t x k
shift-value t x k (suc (suc i)) = tt

-- the three ranges of operators
low-operator : (o : ℕ) → o < 8 → get_or operators o no_operator ≡ on_common (get_or arithmetics o no_operation)
unfolding operators arithmetics
low-operator o h =
    get_or-append (map on_common arithmetics) (map on_left shifts ++ map on_common comparisons) no_operator o h
    ∙ get_or-map on_common arithmetics o no_operation

from-eight : (o : ℕ) → 8 ≤ o → get_or operators o no_operator ≡ get_or (map on_left shifts ++ map on_common comparisons) (o - 8) no_operator
unfolding operators arithmetics
from-eight o h =
    let e : o ≡ 8 + (o - 8) = omega arith in
    let l = map on_left shifts ++ map on_common comparisons in
    ap (λ (k : ℕ). get_or (map on_common arithmetics ++ l) k no_operator) e ∙ get_or-append-add (map on_common arithmetics) l (o - 8) no_operator

shift-operator : (o : ℕ) → 8 ≤ o → o < 10 → get_or operators o no_operator ≡ on_left (get_or shifts (o - 8) no_operation)
unfolding shifts
shift-operator o h l =
    from-eight o h
    ∙ get_or-append (map on_left shifts) (map on_common comparisons) no_operator (o - 8) (omega arith)
    ∙ get_or-map on_left shifts (o - 8) no_operation

high-operator : (o : ℕ) → 10 ≤ o → get_or operators o no_operator ≡ on_common (get_or comparisons (o - 10) no_operation)
unfolding shifts
high-operator o h =
    let e : o - 8 ≡ 2 + (o - 10) = omega arith in
    from-eight o (omega arith)
    ∙ ap (λ (k : ℕ). get_or (map on_left shifts ++ map on_common comparisons) k no_operator) e
    ∙ get_or-append-add (map on_left shifts) (map on_common comparisons) (o - 10) no_operator
    ∙ get_or-map on_common comparisons (o - 10) no_operation

past-operator : (o : ℕ) → operator_count ≤ o → get_or operators o no_operator ≡ no_operator
unfolding operators arithmetics shifts comparisons
past-operator o h = get_or-eq_default operators no_operator {n = o} (omega arith)

module _ (o ta tb a b : ℕ) where
  -- what the code computes in each range
  module _ (r : Option ℕ) where
    pub by-low : (t x y : ℕ) → t ≡ together ta tb → x ≡ convert ta t a → y ≡ convert tb t b → o < 8 → r ≡ get_or arithmetics o no_operation t x y
        → r ≡ get_or operators o no_operator ta tb a b
    by-low t x y et ex ey h e = e ∙ rw (ex, ey, et, low-operator o h)

    pub by-shift : (l x k : ℕ) → l ≡ promoted ta → x ≡ convert ta l a → k ≡ count l tb b → 8 ≤ o → o < 10 → r ≡ get_or shifts (o - 8) no_operation l x k
        → r ≡ get_or operators o no_operator ta tb a b
    by-shift l x k el ex ek h g e = e ∙ rw (ex, ek, el, shift-operator o h g)

    pub by_high : (t x y : ℕ) → t ≡ together ta tb → x ≡ convert ta t a → y ≡ convert tb t b → 10 ≤ o → r ≡ get_or comparisons (o - 10) no_operation t x y
        → r ≡ get_or operators o no_operator ta tb a b
    by_high t x y et ex ey h e = e ∙ rw (ex, ey, et, high-operator o h)

  by-range : (p q r : Bool) → ltb o op_shl ≡ p → ltb o op_equal ≡ q → ltb o operator_count ≡ r
      → Typed (cond p (together ta tb) (cond q (promoted ta) (cond r signed32 no_type))) (get_or operators o no_operator ta tb a b)
  by-range true q r e f g =
      let t = together ta tb in
      rw (low-operator o (ltb-true o op_shl e)) (yields-get_or t t arithmetics o (arithmetics-typed t) (convert ta t a) (convert tb t b) (convert-lt ta t a) (convert-lt tb t b))
  by-range false true r e f g =
      let l = promoted ta in
      rw (shift-operator o (ltb-false o op_shl e) (ltb-true o op_equal f)) (shift-value l (convert ta l a) (count l tb b) (o - 8))
  by-range false false true e f g =
      let t = together ta tb in
      rw (high-operator o (ltb-false o op_equal f)) (yields-get_or t 2 comparisons (o - 10) (comparisons-typed t) (convert ta t a) (convert tb t b) (convert-lt ta t a) (convert-lt tb t b))
  by-range false false false e f g = rw (past-operator o (ltb-false o operator_count g)) tt

  -- an operator's value has the operator's type
  operation-typed : Typed (binary_type o ta tb) (get_or operators o no_operator ta tb a b)
  unfolding binary_type
  operation-typed = by-range (ltb o op_shl) (ltb o op_equal) (ltb o operator_count) refl refl refl

pub taken-typed : (s t : ℕ) (v : Option ℕ) → Typed t (taken s t v)
taken-typed s t (Some x) = convert-lt s t x
taken-typed s t None = tt

choose-typed : (t : ℕ) (c : Option Bool) (u v : Option ℕ) → Typed t u → Typed t v → Typed t (choose c u v)
choose-typed t (Some true) u v h k = h
choose-typed t (Some false) u v h k = k
choose-typed t None u v h k = tt

loaded-typed : (t s : ℕ) (m : Contents) (v : Option ℕ) → Typed t (loaded t s m v)
loaded-typed t s m (Some x) = cut-lt t (m t (convert s 8 x))
loaded-typed t s m None = tt

pub integer-typed : (c : Option Bool) → Typed 2 (integer_of c)
unfolding bits
integer-typed (Some true) = lit< tt
integer-typed (Some false) = lit< tt
integer-typed None = tt

pub strict-typed : (o ta tb : ℕ) (u v : Option ℕ) → Typed (binary_type o ta tb) (strict o ta tb u v)
strict-typed o ta tb (Some a) (Some b) = operation-typed o ta tb a b
strict-typed o ta tb (Some a) None = tt
strict-typed o ta tb None v = tt

-- && and || are signed 32
pub logic-type : (o ta tb : ℕ) → is_logic o ≡ true → binary_type o ta tb ≡ signed32
unfolding binary_type
logic-type o ta tb h = by (eqb o op_logical_and) refl (eqb o op_logical_or) refl h
  where
    by : (p : Bool) → eqb o op_logical_and ≡ p → (q : Bool) → eqb o op_logical_or ≡ q → (p || q) ≡ true → binary_type o ta tb ≡ signed32
    by true e q f h = rw (eqb-true o op_logical_and e)
    by false e true f h = rw (eqb-true o op_logical_or f)
    by false e false f h = absurd (false≢true h)

operate-typed : (o ta tb : ℕ) (u v : Option ℕ) → Typed (binary_type o ta tb) (operate o ta tb u v)
unfolding operate
operate-typed o ta tb u v = by (is_logic o) refl
  where
    by : (p : Bool) → is_logic o ≡ p → Typed (binary_type o ta tb) (cond p (integer_of (connect o (truth_of u) (truth_of v))) (strict o ta tb u v))
    by true e = rw (logic-type o ta tb e) (integer-typed (connect o (truth_of u) (truth_of v)))
    by false e = strict-typed o ta tb u v

-- what an expression yields is a value of its static type
pub ev-typed : (types : List ℕ) (ρ σ : Values) (m : Memory) (f : Effects) (e : Expr) → Typed (type_of types e) (ev types ρ σ m f e)
unfolding ev type_of
ev-typed types ρ σ m f (variable n) = cut-lt (get_or types n signed8) (ρ n)
ev-typed types ρ σ m f (constant w x) = cut-lt (constant_type w) x
ev-typed types ρ σ m f condition_true = integer-typed (Some true)
ev-typed types ρ σ m f condition_false = integer-typed (Some false)
ev-typed types ρ σ m f (effect t) = cut-lt t (f [])
ev-typed types ρ σ m f (load t a) = loaded-typed t (type_of types a) (m []) (ev types σ σ (under 0 m) (under 0 f) a)
ev-typed types ρ σ m f (cast t a) = taken-typed (type_of types a) t (ev types ρ σ (under 0 m) (under 0 f) a)
ev-typed types ρ σ m f (binary o a b) =
    operate-typed o (type_of types a) (type_of types b) (ev types ρ σ (under 0 m) (under 0 f) a) (ev types ρ σ (under 1 m) (under 1 f) b)
ev-typed types ρ σ m f (ternary c a b) =
    let t = together (type_of types a) (type_of types b) in
    let u = ev types ρ σ (under 1 m) (under 1 f) a in
    let v = ev types ρ σ (under 2 m) (under 2 f) b in
    choose-typed t (truth_of (ev types ρ σ (under 0 m) (under 0 f) c)) (taken (type_of types a) t u) (taken (type_of types b) t v) (taken-typed (type_of types a) t u) (taken-typed (type_of types b) t v)

module _ (types values : List ℕ) where
  pub evaluated-typed : (e : Expr) {t : ℕ} {v : Option ℕ} → t ≡ type_of types e → v ≡ evaluated types values e → Typed t v
  unfolding evaluated
  evaluated-typed e et ee = rw (et, ee) (ev-typed types (λ n. get_or values n 0) (λ n. get_or values n 0) (λ path t a. 0) (λ path. 0) e)

  -- evaluation by the root
  evaluated-cast : (t : ℕ) (a : Expr) → evaluated types values (cast t a) ≡ taken (type_of types a) t (evaluated types values a)
  unfolding evaluated ev
  evaluated-cast t a = refl

  evaluated-binary : (o : ℕ) (a b : Expr)
      → evaluated types values (binary o a b) ≡ operate o (type_of types a) (type_of types b) (evaluated types values a) (evaluated types values b)
  unfolding evaluated ev
  evaluated-binary o a b = refl

  evaluated-ternary : (c a b : Expr)
      → evaluated types values (ternary c a b)
      ≡ choose (truth_of (evaluated types values c)) (taken (type_of types a) (together (type_of types a) (type_of types b)) (evaluated types values a)) (taken (type_of types b) (together (type_of types a) (type_of types b)) (evaluated types values b))
  unfolding evaluated ev
  evaluated-ternary c a b = refl

  -- what the code computes at each root, of the tree e
  module _ {e : Expr} {r : Option ℕ} where
    pub at-cast : {t : ℕ} {a : Expr} {s : ℕ} {v : Option ℕ} → e ≡ cast t a → s ≡ type_of types a → v ≡ evaluated types values a → r ≡ taken s t v
        → r ≡ evaluated types values e
    at-cast {t} {a} k w h g = rw (k, evaluated-cast t a, ← w, ← h) g

    pub at-binary : {o : ℕ} {a b : Expr} {ta tb : ℕ} {u v : Option ℕ} → e ≡ binary o a b → is_logic o ≡ false → ta ≡ type_of types a → tb ≡ type_of types b
        → u ≡ evaluated types values a → v ≡ evaluated types values b → r ≡ strict o ta tb u v → r ≡ evaluated types values e
    unfolding operate
    at-binary {o} {a} {b} k l wa wb ha hb g = rw (k, evaluated-binary o a b, l, ← wa, ← wb, ← ha, ← hb) g

  -- of a ternary: t is the type of both arms, x what the condition yields
  module _ {e c a b : Expr} {ta tb t : ℕ} {x : Option Bool} (k : e ≡ ternary c a b) (wa : ta ≡ type_of types a) (wb : tb ≡ type_of types b)
      (wt : t ≡ together ta tb) (h : x ≡ truth_of (evaluated types values c)) where
    ternary-is : evaluated types values e ≡ choose x (taken ta t (evaluated types values a)) (taken tb t (evaluated types values b))
    ternary-is = rw (k, evaluated-ternary c a b, ← wa, ← wb, ← wt, ← h)

    pub at-then : {u r : Option ℕ} → x ≡ Some true → u ≡ evaluated types values a → r ≡ taken ta t u → r ≡ evaluated types values e
    at-then g f i = rw (ternary-is, g, ← f) i

    pub at-otherwise : {u r : Option ℕ} → x ≡ Some false → u ≡ evaluated types values b → r ≡ taken tb t u → r ≡ evaluated types values e
    at-otherwise g f i = rw (ternary-is, g, ← f) i

    pub at-neither : x ≡ None → None ≡ evaluated types values e
    at-neither g = rw (ternary-is, g)

-- of && and ||
pub at-logic : (types values : List ℕ) {e : Expr} {o : ℕ} {a b : Expr} → e ≡ binary o a b → is_logic o ≡ true
    → integer_of (connect o (truth_of (evaluated types values a)) (truth_of (evaluated types values b))) ≡ evaluated types values e
unfolding operate
at-logic types values {e} {o} {a} {b} k l = rw (k, evaluated-binary types values o a b, l)

pub truth-integer : (c : Option Bool) → truth_of (integer_of c) ≡ c
truth-integer (Some true) = refl
truth-integer (Some false) = refl
truth-integer None = refl

-- a tree of one record, by its kind
module _ (types values : List ℕ) {e : Expr} where
  pub at-variable : {n : ℕ} → e ≡ variable n → chosen (get_or types n signed8) (get_or values n 0) ≡ evaluated types values e
  unfolding evaluated ev
  at-variable k = rw k

  pub at-constant : {w x : ℕ} → e ≡ constant w x → chosen (constant_type w) x ≡ evaluated types values e
  unfolding evaluated ev
  at-constant k = rw k

  pub at-true : e ≡ condition_true → Some 1 ≡ evaluated types values e
  unfolding evaluated ev
  at-true k = rw k

  pub at-false : e ≡ condition_false → Some 0 ≡ evaluated types values e
  unfolding evaluated ev
  at-false k = rw k

-- the static types of roots, from their children's
module _ (types : List ℕ) {e : Expr} where
  pub type-variable : {n : ℕ} → e ≡ variable n → get_or types n signed8 ≡ type_of types e
  unfolding type_of
  type-variable k = rw k

  pub type-constant : {w x : ℕ} → e ≡ constant w x → constant_type w ≡ type_of types e
  unfolding type_of
  type-constant k = rw k

  pub type-true : e ≡ condition_true → signed32 ≡ type_of types e
  unfolding type_of
  type-true k = rw k

  pub type-false : e ≡ condition_false → signed32 ≡ type_of types e
  unfolding type_of
  type-false k = rw k

  pub type-cast : {t : ℕ} {a : Expr} → e ≡ cast t a → t ≡ type_of types e
  unfolding type_of
  type-cast k = rw k

  pub type-binary : {o ta tb t : ℕ} {a b : Expr} → e ≡ binary o a b → ta ≡ type_of types a → tb ≡ type_of types b → t ≡ binary_type o ta tb
      → t ≡ type_of types e
  unfolding type_of
  type-binary k wa wb g = rw (k, ← wa, ← wb) g

  pub type-ternary : {ta tb t : ℕ} {c a b : Expr} → e ≡ ternary c a b → ta ≡ type_of types a → tb ≡ type_of types b → t ≡ together ta tb
      → t ≡ type_of types e
  unfolding type_of
  type-ternary k wa wb g = rw (k, ← wa, ← wb) g

  pub type-logic : {o : ℕ} {a b : Expr} → e ≡ binary o a b → is_logic o ≡ true → signed32 ≡ type_of types e
  type-logic {o} {a} {b} k l = type-binary k refl refl (sym (logic-type o (type_of types a) (type_of types b) l))

-- a plain tree's root is neither an effect nor a load
pub plain-root : (e : Expr) → plain_expr e ≡ true → (root_of e ≡ root.Effect → ⊥) × (root_of e ≡ root.Load → ⊥)
plain-root e p = (
  λ h. effect-not-plain _ (ap plain_expr (sym (by-root e root.Effect h)) ∙ p),
  λ h. load-not-plain _ _ (ap plain_expr (sym (by-root e root.Load h)) ∙ p),
)
