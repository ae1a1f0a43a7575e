-- A pointer and an unsigned 64 are told apart by no operator, promotion or conversion. A function of a type that is the same at 8 and at 7 is the same at two
-- types between which an assignment is no fault, and all of these are such functions.
use Rattle.std.specs.Prelude.{Option, Some, None}
use mathlib.Core.Path.{◌≡◌, refl, sym, ap, ap₂, ◌∙◌}
use mathlib.Core.Bool.{Bool, true, false, cond}
use mathlib.Core.List.{List, [], ◌∷◌, ◌++◌, map}
use Prim.Native.Nat.{ℕ, zero, suc}
use lib.Dec.{eqb}
use lib.ListN.{get_or}
use borrow.Author.Tests.{eqb-true}
use Rattle.expr.specs.Types.{promoted, together, binary_type, plain_type, same_type}
use Rattle.arith.specs.Numbers.{bits, negative, number, convert, count}
use Rattle.value.specs.Operators.{taken, Operation, Operator, arithmetics, shifts, comparisons, on_common, on_left, operators, no_operator, strict, operate, truth_of, integer_of, is_logic, connect}

-- two types that are one but for pointer and unsigned 64
abbrev pub Alike : ℕ → ℕ → Type 0
Alike s t = plain_type s ≡ plain_type t

pub same_alike : (s t : ℕ) → same_type s t ≡ true → Alike s t
unfolding same_type
same_alike s t h = eqb-true (plain_type s) (plain_type t) h

-- what is the same at 8 and 7 is the same at t and at the type that stands for t
on-plain : {A : Type 0} (f : ℕ → A) → f 8 ≡ f 7 → (t : ℕ) → f (plain_type t) ≡ f t
unfolding plain_type
on-plain f h t = by (eqb t 8) refl
  where
    by : (b : Bool) → eqb t 8 ≡ b → f (cond b 7 t) ≡ f t
    by true e = rw (eqb-true t 8 e) (sym h)
    by false e = refl

promoted-plain : (t : ℕ) → promoted (plain_type t) ≡ promoted t
unfolding promoted plain_type bits
promoted-plain t = on-plain promoted refl t

convert-plain : (s t x : ℕ) → convert (plain_type s) t x ≡ convert s t x
unfolding convert number negative
convert-plain s t x = on-plain (λ (k : ℕ). convert k t x) refl s

count-plain : (t s x : ℕ) → count t (plain_type s) x ≡ count t s x
unfolding count number negative
count-plain t s x = on-plain (λ (k : ℕ). count t k x) refl s

pub bits-alike : (s t : ℕ) → Alike s t → bits s ≡ bits t
unfolding bits
bits-alike s t h = sym (on-plain bits refl s) ∙ ap bits h ∙ on-plain bits refl t

pub taken-alike : (s s' t : ℕ) (v : Option ℕ) → Alike s s' → taken s t v ≡ taken s' t v
taken-alike s s' t (Some x) h = ap Some (sym (convert-plain s t x) ∙ ap (λ (k : ℕ). convert k t x) h ∙ convert-plain s' t x)
taken-alike s s' t None h = refl

together-plain : (s t : ℕ) → together (plain_type s) (plain_type t) ≡ together s t
together-plain s t = rw (promoted-plain s, promoted-plain t)

pub together-alike : (s s' t t' : ℕ) → Alike s s' → Alike t t' → together s t ≡ together s' t'
together-alike s s' t t' h k = sym (together-plain s t) ∙ ap₂ (λ (a b : ℕ). together a b) h k ∙ together-plain s' t'

pub binary-alike : (o s s' t t' : ℕ) → Alike s s' → Alike t t' → binary_type o s t ≡ binary_type o s' t'
unfolding binary_type
binary-alike o s s' t t' h k =
    let p : promoted s ≡ promoted s' = sym (promoted-plain s) ∙ ap promoted h ∙ promoted-plain s' in
    let q : promoted t ≡ promoted t' = sym (promoted-plain t) ∙ ap promoted k ∙ promoted-plain t' in
    rw (p, q)

-- an operator that does not tell them apart
abbrev Blind : Operator → Type 0
Blind op = (s t a b : ℕ) → op (plain_type s) (plain_type t) a b ≡ op s t a b

abbrev EachBlind : List Operator → Type 0
EachBlind l = (i : ℕ) → Blind (get_or l i no_operator)

blind-none : EachBlind []
blind-none i s t a b = refl

blind-more : (op : Operator) (l : List Operator) → Blind op → EachBlind l → EachBlind (op ∷ l)
blind-more op l h k zero s t a b = h s t a b
blind-more op l h k (suc i) s t a b = k i s t a b

blind-map : (f : Operation → Operator) (rest : List Operator) → ((op : Operation) → Blind (f op)) → EachBlind rest → (l : List Operation)
    → EachBlind (map f l ++ rest)
blind-map f rest h k [] = k
blind-map f rest h k (op ∷ l) = blind-more (f op) (map f l ++ rest) (h op) (blind-map f rest h k l)

common-blind : (op : Operation) → Blind (on_common op)
common-blind op s t a b =
    rw (promoted-plain s, promoted-plain t, convert-plain s (together s t) a, convert-plain t (together s t) b)

left-blind : (op : Operation) → Blind (on_left op)
left-blind op s t a b = rw (promoted-plain s, convert-plain s (promoted s) a, count-plain (promoted s) t b)

comparisons-blind : (l : List Operation) → EachBlind (map on_common l)
comparisons-blind [] = blind-none
comparisons-blind (op ∷ l) = blind-more (on_common op) (map on_common l) (common-blind op) (comparisons-blind l)

operators-blind : EachBlind operators
unfolding operators
operators-blind =
    blind-map on_common (map on_left shifts ++ map on_common comparisons) common-blind
    (blind-map on_left (map on_common comparisons) left-blind (comparisons-blind comparisons) shifts) arithmetics

operate-plain : (o s t : ℕ) (u v : Option ℕ) → operate o (plain_type s) (plain_type t) u v ≡ operate o s t u v
unfolding operate
operate-plain o s t u v = by (is_logic o) u v
  where
    by : (b : Bool) (u v : Option ℕ)
        → cond b (integer_of (connect o (truth_of u) (truth_of v))) (strict o (plain_type s) (plain_type t) u v)
        ≡ cond b (integer_of (connect o (truth_of u) (truth_of v))) (strict o s t u v)
    by true u v = refl
    by false (Some x) (Some y) = operators-blind o s t x y
    by false (Some x) None = refl
    by false None v = refl

pub operate-alike : (o s s' t t' : ℕ) (u v : Option ℕ) → Alike s s' → Alike t t' → operate o s t u v ≡ operate o s' t' u v
operate-alike o s s' t t' u v h k =
    sym (operate-plain o s t u v) ∙ ap₂ (λ (a b : ℕ). operate o a b u v) h k ∙ operate-plain o s' t' u v
