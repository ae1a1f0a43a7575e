-- Static types: an expression has the type whose code reading computes for it, and no other. There are ten codes and eighteen operators,
-- so what the definitions of reading give is compared with promotion and the common type number by number.
use Prim.Native.Nat.{ℕ, zero, suc, ◌*◌, ◌<◌, ◌≤◌}
use mathlib.Core.Path.{◌≡◌, refl, sym, ap, ◌∙◌}
use mathlib.Core.Logic.{◌⊎◌, inl, inr}
use mathlib.Core.List.{List, [], ◌∷◌}
use mathlib.Core.Option.{some}
use mathlib.Core.Bool.{Bool, true, false, ◌&&◌, cond}
use native.Mathlib.Omega.{arith}
use lib.Dec.{eqb, leb, ltb}
use lib.ListN.{length, get_or}
use borrow.Author.Tests.{eqb-true, eq-eqb, ltb-true, ltb-false, lt-ltb, le-ltb, leb-true, leb-false, le-leb, lt-leb}
use Rattle.expr.specs.Tree.{Expr}
use Rattle.expr.specs.Tree.Expr.{variable, constant, condition_true, condition_false, effect, load, cast, binary, ternary}
use Rattle.expr.specs.Statement.{Statement}
use Rattle.expr.specs.Statement.Statement.{assignment, other}
use Rattle.expr.specs.Types.{bits, promoted, common, together, constant_type, binary_type, type_of, plain_type, same_type}
use Rattle.sheet_bytes.specs.Write.{entry, All}
use Rattle.format.specs.Expression.{ValidTree}
use Rattle.format.specs.Types.{Integer, int, uint, StaticType, types_by_code, Promoted, Common, Together, HasType}
use Rattle.format.specs.Types.StaticType.{integer, bool}
use Rattle.format.specs.Types.Promoted.{truth, narrow, wide}
use Rattle.format.specs.Types.Common.{left, right, tie}
use Rattle.format.specs.Types.HasType.{of_variable, of_constant, of_true, of_false, of_effect, of_load, of_cast, of_arithmetic, of_shift, of_test, of_ternary}
use Rattle.format.specs.Sheet.{ValidAssignment, ValidStatement}
use Rattle.format.proofs.Tests.{never, table, same-table}
use Rattle.format.proofs.Statements.{TypedAssignment, TypedStatement, default}

-- promotion and the common type as functions
unfoldable promote : StaticType → Integer
promote bool = int 32
promote (integer t) = cond (ltb t.bits 32) (int 32) t

promotes : (t : StaticType) → Promoted t (promote t)
unfolding promote
promotes bool = truth
promotes (integer t) = go (ltb t.bits 32) refl
  where
    go : (b : Bool) → ltb t.bits 32 ≡ b → Promoted (integer t) (cond (ltb t.bits 32) (int 32) t)
    go true e = rw e (narrow (ltb-true t.bits 32 e))
    go false e = rw e (wide (ltb-false t.bits 32 e))

promoted-once : {t : StaticType} {r : Integer} → Promoted t r → r ≡ promote t
unfolding promote
promoted-once truth = refl
promoted-once (narrow lt) = rw (lt-ltb _ 32 lt)
promoted-once (wide le) = rw (le-ltb _ 32 le)

unfoldable join : Integer → Integer → Integer
join t u = cond (ltb u.bits t.bits) t (cond (ltb t.bits u.bits) u (record { signed = t.signed && u.signed; bits = t.bits }))

joins : (t u : Integer) → Common t u (join t u)
unfolding join
joins t u = go (ltb u.bits t.bits) (ltb t.bits u.bits) refl refl
  where
    go : (a b : Bool) → ltb u.bits t.bits ≡ a → ltb t.bits u.bits ≡ b
        → Common t u (cond (ltb u.bits t.bits) t (cond (ltb t.bits u.bits) u (record { signed = t.signed && u.signed; bits = t.bits })))
    go true b e f = rw e (left (ltb-true _ _ e))
    go false true e f = rw (e, f) (right (ltb-true _ _ f))
    go false false e f = let same : t.bits ≡ u.bits = omega (arith, ltb-false u.bits t.bits e, ltb-false t.bits u.bits f) in rw (e, f) (tie same)

joined_once : {t u r : Integer} → Common t u r → r ≡ join t u
unfolding join
joined_once (left lt) = rw (lt-ltb _ _ lt)
joined_once (right {t = t} {u = u} lt) = rw (le-ltb u.bits t.bits (omega arith), lt-ltb _ _ lt)
joined_once (tie {t = t} {u = u} e) = rw (le-ltb u.bits t.bits (omega arith), le-ltb t.bits u.bits (omega arith))

-- the type of a code, and the type of operands whose codes are c and d
abbrev of_code : ℕ → StaticType
of_code c = get_or types_by_code c bool

code-entry : (c : ℕ) → c < 10 → entry types_by_code c ≡ some (of_code c)
unfolding table entry types_by_code
code-entry c lt = same-table (entry types_by_code) (λ c. some (of_code c)) 10 refl c lt

promoted-code : (c : ℕ) → c < 10 → (promoted c < 10) × (integer (promote (of_code c)) ≡ of_code (promoted c))
unfolding table types_by_code promoted plain_type bits promote
promoted-code c lt = (
  ltb-true _ 10 (same-table (λ c. ltb (promoted c) 10) (λ c. true) 10 refl c lt),
  same-table (λ c. integer (promote (of_code c))) (λ c. of_code (promoted c)) 10 refl c lt,
)

together-code : (c d : ℕ) → c < 10 → d < 10 → (together c d < 10) × (integer (join (promote (of_code c)) (promote (of_code d))) ≡ of_code (together c d))
unfolding table types_by_code promoted plain_type bits promote common join
together-code c d lt few = (
  ltb-true _ 10 (same-table (λ d. ltb (together c d) 10) (λ d. true) 10 (same-table (λ c. table (λ d. ltb (together c d) 10) 10) (λ c. table (λ d. true) 10) 10 refl c lt) d few),
  same-table (λ d. integer (join (promote (of_code c)) (promote (of_code d)))) (λ d. of_code (together c d)) 10
      (same-table (λ c. table (λ d. integer (join (promote (of_code c)) (promote (of_code d)))) 10) (λ c. table (λ d. of_code (together c d)) 10) 10 refl c lt)
      d
      few,
)

-- the same type, as reading compares codes
abbrev alike : StaticType → StaticType → Bool
alike bool bool = true
alike bool (integer u) = false
alike (integer t) bool = false
alike (integer t) (integer u) = cond t.signed u.signed (cond u.signed false true) && eqb t.bits u.bits

same_code : (c d : ℕ) → c < 10 → d < 10 → same_type c d ≡ alike (of_code c) (of_code d)
unfolding table types_by_code same_type plain_type
same_code c d lt few =
    same-table (same_type c) (λ d. alike (of_code c) (of_code d)) 10
    (same-table (λ c. table (same_type c) 10) (λ c. table (λ d. alike (of_code c) (of_code d)) 10) 10 refl c lt)
    d
    few

alike-integer : (s r : Bool) (b d : ℕ) → (cond s r (cond r false true) && eqb b d) ≡ true
    → ◌≡◌ {A = Integer} (record { signed = s; bits = b }) (record { signed = r; bits = d })
alike-integer true true b d e = rw (eqb-true b d e)
alike-integer true false b d e = never e
alike-integer false true b d e = never e
alike-integer false false b d e = rw (eqb-true b d e)

alike_same : (t u : StaticType) → alike t u ≡ true → t ≡ u
alike_same bool bool e = refl
alike_same bool (integer u) e = never e
alike_same (integer t) bool e = never e
alike_same (integer t) (integer u) e = ap integer (alike-integer t.signed u.signed t.bits u.bits e)

self-integer : (s : Bool) (b : ℕ) → (cond s s (cond s false true) && eqb b b) ≡ true
self-integer true b = eq-eqb b b refl
self-integer false b = eq-eqb b b refl

alike_self : (t : StaticType) → alike t t ≡ true
alike_self bool = refl
alike_self (integer t) = self-integer t.signed t.bits

together-has : (t u : StaticType) → Together t u (join (promote t) (promote u))
together-has t u = record { first = promote t; second = promote u; promotes_first = promotes t; promotes_second = promotes u; common = joins (promote t) (promote u) }

together-once : {t u : StaticType} {r : Integer} → Together t u r → r ≡ join (promote t) (promote u)
together-once h = rw (← promoted-once h.promotes_first, ← promoted-once h.promotes_second) (joined_once h.common)

binary-is : (c d o : ℕ) → o < 18 → binary_type o c d ≡ cond (leb 10 o) 2 (cond (leb 8 o) (promoted c) (together c d))
unfolding table binary_type
binary-is c d o lt = same-table (λ o. binary_type o c d) (λ o. cond (leb 10 o) 2 (cond (leb 8 o) (promoted c) (together c d))) 18 refl o lt

some_same : {c d : ℕ} → some c ≡ some d → c ≡ d
some_same e = cc

type-same : {t u : StaticType} → some t ≡ some u → t ≡ u
type-same e = cc

entry_of : (l : List ℕ) (n d : ℕ) → n < length l → entry l n ≡ some (get_or l n d)
unfolding entry
entry_of [] n d lt = absurd (omega arith)
entry_of (x ∷ l) zero d lt = refl
entry_of (x ∷ l) (suc n) d lt = entry_of l n d (omega arith)

pub code_of : (l : List ℕ) → All (λ t. t ≤ 9) l → (n d : ℕ) → n < length l → get_or l n d < 10
unfolding All
code_of [] few n d lt = absurd (omega arith)
code_of (x ∷ l) few zero d lt = omega (arith, few.0)
code_of (x ∷ l) few (suc n) d lt = code_of l few.1 n d (omega arith)

once : (c : ℕ) (t : StaticType) → c < 10 → entry types_by_code c ≡ some t → t ≡ of_code c
once c t lt e = type-same (sym e ∙ code-entry c lt)

-- the types of two operands, or of one that is shifted, are settled by theirs
common-once : (c d : ℕ) {t u : StaticType} (r : Integer) → c < 10 → d < 10 → t ≡ of_code c → u ≡ of_code d → Together t u r → integer r ≡ of_code (together c d)
common-once c d r lt few e f h = ap integer (together-once h ∙ rw (e, f)) ∙ (together-code c d lt few).1

arithmetic-once : (o c d : ℕ) {t u : StaticType} (r : Integer) → o ≤ 7 → c < 10 → d < 10 → t ≡ of_code c → u ≡ of_code d → Together t u r → integer r ≡ of_code (binary_type o c d)
arithmetic-once o c d r le lt few e f h = rw (binary-is c d o (omega arith), lt-leb 10 o (omega arith), lt-leb 8 o (omega arith)) (common-once c d r lt few e f h)

shift-once : (o c d : ℕ) {t : StaticType} (r : Integer) → 8 ≤ o → o ≤ 9 → c < 10 → t ≡ of_code c → Promoted t r → integer r ≡ of_code (binary_type o c d)
shift-once o c d r ge le lt e h =
    rw (binary-is c d o (omega arith), lt-leb 10 o (omega arith), le-leb 8 o ge) (ap integer (promoted-once h ∙ ap promote e) ∙ (promoted-code c lt).1)

test-once : (o c d : ℕ) → 10 ≤ o → o ≤ 17 → integer (int 32) ≡ of_code (binary_type o c d)
unfolding types_by_code
test-once o c d ge le = rw (binary-is c d o (omega arith), le-leb 10 o ge)

constant-once : (w : ℕ) → (w ≡ 1) ⊎ ((w ≡ 2) ⊎ ((w ≡ 4) ⊎ (w ≡ 8))) → integer (uint (8 * w)) ≡ of_code (constant_type w)
unfolding constant_type types_by_code
constant-once w (inl e) = rw e
constant-once w (inr (inl e)) = rw e
constant-once w (inr (inr (inl e))) = rw e
constant-once w (inr (inr (inr e))) = rw e

pub all_map : {A : Type 0} {P Q : A → Type 0} → ((x : A) → P x → Q x) → (l : List A) → All P l → All Q l
unfolding All
all_map f [] h = tt
all_map f (x ∷ l) h = (f x h.0, all_map f l h.1)

module _ (types : List ℕ) (few : All (λ t. t ≤ 9) types) where
  record Typed (e : Expr) (c : ℕ) : Type 0 where
    below : c < 10
    has : HasType types e (of_code c)

  has-as : {e : Expr} {t u : StaticType} → t ≡ u → HasType types e t → HasType types e u
  has-as e h = rw (← e) h

  together-typed : {e : Expr} (c d : ℕ) → c < 10 → d < 10 → ((r : Integer) → Together (of_code c) (of_code d) r → HasType types e (integer r)) → Typed e (together c d)
  together-typed c d lt few has =
      let z = together-code c d lt few in
      record { below = z.0; has = has-as z.1 (has _ (together-has (of_code c) (of_code d))) }

  binary-typed : (o : ℕ) (a b : Expr) (c d : ℕ) → o ≤ 17 → Typed a c → Typed b d → Typed (binary o a b) (binary_type o c d)
  unfolding types_by_code
  binary-typed o a b c d le t u = rw (binary-is c d o (omega arith)) (go (leb 10 o) (leb 8 o) refl refl)
    where
      go : (x y : Bool) → leb 10 o ≡ x → leb 8 o ≡ y → Typed (binary o a b) (cond (leb 10 o) 2 (cond (leb 8 o) (promoted c) (together c d)))
      go true y e f = rw e record { below = omega arith; has = of_test (leb-true 10 o e) le }
      go false true e f =
          let z = promoted-code c t.below in
          rw (e, f) record { below = z.0; has = has-as z.1 (of_shift (leb-true 8 o f) (omega (arith, leb-false 10 o e)) t.has (promotes (of_code c))) }
      go false false e f = rw (e, f) (together-typed c d t.below u.below (λ r h. of_arithmetic (omega (arith, leb-false 8 o f)) t.has u.has h))

  constant-typed : (w x : ℕ) → (w ≡ 1) ⊎ ((w ≡ 2) ⊎ ((w ≡ 4) ⊎ (w ≡ 8))) → Typed (constant w x) (constant_type w)
  unfolding constant_type types_by_code
  constant-typed w x (inl e) = rw e record { below = omega arith; has = of_constant }
  constant-typed w x (inr (inl e)) = rw e record { below = omega arith; has = of_constant }
  constant-typed w x (inr (inr (inl e))) = rw e record { below = omega arith; has = of_constant }
  constant-typed w x (inr (inr (inr e))) = rw e record { below = omega arith; has = of_constant }

  -- whatever stands for a variable that is not declared
  variable-typed : (n d : ℕ) → n < length types → Typed (variable n) (get_or types n d)
  variable-typed n d lt = let small = code_of types few n d lt in record { below = small; has = of_variable (entry_of types n d lt) (code-entry (get_or types n d) small) }

  variable-once : (n d code : ℕ) (t : StaticType) → n < length types → entry types n ≡ some code → entry types_by_code code ≡ some t → t ≡ of_code (get_or types n d)
  variable-once n d code t lt p q =
      let same : code ≡ get_or types n d = some_same (sym p ∙ entry_of types n d lt) in
      rw (← same) (once code t (rw same (code_of types few n d lt)) q)

  -- every valid expression has the type whose code is computed
  typed : (e : Expr) → ValidTree (length types) e → Typed e (type_of types e)
  unfolding type_of ValidTree types_by_code
  typed (variable n) v = variable-typed n _ v
  typed (constant w x) v = constant-typed w x v.width
  typed condition_true v = record { below = omega arith; has = of_true }
  typed condition_false v = record { below = omega arith; has = of_false }
  typed (effect t) v = record { below = omega (arith, v); has = of_effect (code-entry t (omega (arith, v))) }
  typed (load t a) v = record { below = omega (arith, v.1); has = of_load (code-entry t (omega (arith, v.1))) }
  typed (cast t a) v = record { below = omega (arith, v.1); has = of_cast (code-entry t (omega (arith, v.1))) }
  typed (binary o a b) v = binary-typed o a b _ _ v.2 (typed a v.0) (typed b v.1)
  typed (ternary c a b) v =
      let t = typed a v.1 in
      let u = typed b v.2 in
      together-typed _ _ t.below u.below (λ r h. of_ternary t.has u.has h)

  -- and no other
  typed-once : {e : Expr} {t : StaticType} → HasType types e t → ValidTree (length types) e → t ≡ of_code (type_of types e)
  unfolding type_of ValidTree types_by_code
  typed-once (of_variable {n = n} {code = code} {t = t} p q) v = variable-once n _ code t v p q
  typed-once (of_constant {w = w}) v = constant-once w v.width
  typed-once of_true v = refl
  typed-once of_false v = refl
  typed-once (of_effect {code = c} {t = t} q) v = once c t (omega (arith, v)) q
  typed-once (of_load {code = c} {t = t} q) v = once c t (omega (arith, v.1)) q
  typed-once (of_cast {code = c} {t = t} q) v = once c t (omega (arith, v.1)) q
  typed-once (of_arithmetic {o = o} {a = a} {b = b} {r = r} le ta tb h) v =
      arithmetic-once o _ _ r le (typed a v.0).below (typed b v.1).below (typed-once ta v.0) (typed-once tb v.1) h
  typed-once (of_shift {o = o} {a = a} {b = b} {r = r} ge le ta h) v =
      shift-once o (type_of types a) (type_of types b) r ge le (typed a v.0).below (typed-once ta v.0) h
  typed-once (of_test {o = o} {a = a} {b = b} ge le) v = test-once o (type_of types a) (type_of types b) ge le
  typed-once (of_ternary {a = a} {b = b} {r = r} ta tb h) v =
      common-once _ _ r (typed a v.1).below (typed b v.2).below (typed-once ta v.1) (typed-once tb v.2) h

variable-valid : (n v : ℕ) → v < n → ValidTree n (variable v)
unfolding ValidTree
variable-valid n v lt = lt

variable-type : (types : List ℕ) (v : ℕ) → v < length types → (d : ℕ) → get_or types v d ≡ type_of types (variable v)
unfolding type_of
variable-type types v lt d = default types v d _ lt

typed-variable : (types : List ℕ) (v t : ℕ) → v < length types → ((d : ℕ) → same_type t (get_or types v d) ≡ true) → same_type t (type_of types (variable v)) ≡ true
typed-variable types v t lt h = rw (← variable-type types v lt 0) (h 0)

-- an assignment's value has its variable's type where reading's test says so
pub typed-assignment : (types : List ℕ) → All (λ t. t ≤ 9) types → (v : ℕ) (e : Expr) → ValidAssignment types v e → TypedAssignment types v e
typed-assignment types few v e h =
    let there = variable-valid (length types) v h.declared in
    let t = typed types few e h.value.tree in
    let u = typed types few (variable v) there in
    let one = typed-once types few h.of_value h.value.tree in
    let two = typed-once types few h.of_variable there in
    let same = same_code (type_of types e) (type_of types (variable v)) t.below u.below in
    let is = variable-type types v h.declared in
    record { declared = h.declared; value = h.value; typed = λ d. rw (is d) (same ∙ rw (← one, ← two) (alike_self h.type)) }

valid-assignment : (types : List ℕ) → All (λ t. t ≤ 9) types → (v : ℕ) (e : Expr) → TypedAssignment types v e → ValidAssignment types v e
valid-assignment types few v e h =
    let t = typed types few e h.value.tree in
    let u = typed types few (variable v) (variable-valid (length types) v h.declared) in
    let same = alike_same (of_code (type_of types e)) (of_code (type_of types (variable v))) (sym (same_code (type_of types e) (type_of types (variable v)) t.below u.below) ∙ typed-variable types v (type_of types e) h.declared h.typed) in
    record { declared = h.declared; value = h.value; type = of_code (type_of types (variable v)); of_value = has-as types few same t.has; of_variable = u.has }

typed-statement : (types : List ℕ) → All (λ t. t ≤ 9) types → (x : Statement) → ValidStatement types x → TypedStatement types x
typed-statement types few (assignment v e) h = typed-assignment types few v e h
typed-statement types few other h = tt

valid-statement : (types : List ℕ) → All (λ t. t ≤ 9) types → (x : Statement) → TypedStatement types x → ValidStatement types x
valid-statement types few (assignment v e) h = valid-assignment types few v e h
valid-statement types few other h = tt

pub typed-all : (types : List ℕ) → All (λ t. t ≤ 9) types → (l : List Statement) → All (ValidStatement types) l → All (TypedStatement types) l
typed-all types few l h = all_map (typed-statement types few) l h

pub valid-all : (types : List ℕ) → All (λ t. t ≤ 9) types → (l : List Statement) → All (TypedStatement types) l → All (ValidStatement types) l
valid-all types few l h = all_map (valid-statement types few) l h
