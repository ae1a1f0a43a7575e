-- `decide` is right of every evaluation: where a condition has a value, always means that it holds and never that it fails. Step by
-- step: equal sides without an effect have one value; exact sides have the values found; sides of different parity have different
-- low bits; an unsigned value is never below 0; and logic follows its halves.
use Rattle.std.specs.Prelude.{Option, Some, None}
use Prim.Native.Nat.{ℕ, ◌%◌, ◌^◌, ◌<◌, ◌≤◌}
use mathlib.Core.Path.{◌≡◌, refl, sym, ap, ap₂, ◌∙◌}
use mathlib.Core.Bool.{Bool, true, false, cond, not, xor, ◌&&◌, ◌||◌, false≢true}
use mathlib.Core.List.{List, [], ◌∷◌}
use native.Mathlib.Nat.{lt_of_lt_of_le, pow-le-pow_right}
use native.Mathlib.Omega.{arith}
use lib.Dec.{eqb}
use lib.IntN.{ℤ, pos, negsuc}
use lib.Signed.{lt_z}
use borrow.Author.Tests.{le-ltb, eq-eqb, ne_eqb, eqb-true}
use Rattle.expr.specs.Tree.{Expr}
use Rattle.expr.specs.Tree.Expr.{variable, constant, condition_true, condition_false, effect, load, cast, binary, ternary}
use Rattle.expr.specs.Types.{bits, signed, type_of, together}
use Rattle.arith.specs.Numbers.{negative, number, convert, below, at_most}
use Rattle.arith.proofs.Laws.{at-most, number-plain, some as some'}
use Rattle.value.specs.Operators.{flag, truth_of, arithmetics, shifts, comparisons, operators, both_hold, either_holds, operate}
use Rattle.value.proofs.Laws.{truth-integer}
use Rattle.value.specs.Evaluation.{Values, Contents, Effects, under, shared, ev}
use Rattle.verdict.specs.declared.Reason.{Reason}
use Rattle.verdict.specs.declared.Reason.TheVariants.{EqualSides, UnsignedZero, ExactSides, Parity}
use Rattle.verdict.specs.declared.Verdict.{Verdict}
use Rattle.verdict.specs.declared.Verdict.TheVariants.{Always, Never, Undecided, NoBranch}
use Rattle.exact.specs.Exact.{same_sides, is_one, is_constant, exact, written, compared, exact_sides}
use Rattle.decide.specs.Decide.{said, said_if, or_else, of_equal, equal_sides, asked, odd_sides, on_exact, equality, unsigned_cast, unsigned_zero, both, either, by_operator, decide}
use Rattle.parity.specs.Parity.{parity, difference}
use Rattle.parity.specs.LowBit.{bit, low_bit, low, Has, shared_bits, own_bits}
use Rattle.poly.specs.Meaning.{value}
use Rattle.poly.proofs.Values.{value-sum, value-one}
use Rattle.parity.proofs.Choices.{poly-low, some_bits}
use Rattle.parity.proofs.LowBits.{convert-low}
use Rattle.parity.proofs.TypeLaws.{together-taken, wider_left, wider_right, unsigned-left, unsigned-right, constant-unsigned, small_plain}
use Rattle.parity.proofs.Evaluation.{ev-low}
use Rattle.exact.proofs.ExactValue.{Fitting, convert-plain, operands, typed-left, typed-right, one_value, constant-at, exact-value}

-- An outcome does not go against a verdict.
abbrev pub Meets : Verdict → Option Bool → Type 0
Meets (Always r) t = t ≡ Some true
Meets (Never r) t = t ≡ Some false
Meets Undecided t = Unit {0}
Meets NoBranch t = Unit {0}

meets-else : (v w : Verdict) (t : Option Bool) → Meets v t → Meets w t → Meets (or_else v w) t
meets-else (Always r) w t p q = p
meets-else (Never r) w t p q = p
meets-else Undecided w t p q = q
meets-else NoBranch w t p q = tt

-- a truth value as an outcome
abbrev outcome : Bool → Option Bool
outcome true = Some true
outcome false = Some false

meets-said : (r : Reason) (b : Bool) (t : Option Bool) → t ≡ outcome b → Meets (said r b) t
meets-said r true t e = e
meets-said r false t e = e

-- logic

apart : {X : Type 0} → (Some true) ≡ Some false → X
apart e = cc

-- the left half of && holds, so the right one decides; or it fails, and the whole does
both-on : (l r : Verdict) (u : Option Bool) → Meets l (Some true) → Meets r u → Meets (both l r) u
both-on (Always k) (Always n) u p q = q
both-on (Always k) (Never n) u p q = q
both-on (Always k) Undecided u p q = tt
both-on (Always k) NoBranch u p q = tt
both-on (Never k) r u p q = apart p
both-on Undecided (Always n) u p q = tt
both-on Undecided (Never n) u p q = q
both-on Undecided Undecided u p q = tt
both-on Undecided NoBranch u p q = tt
both-on NoBranch r u p q = tt

both-off : (l r : Verdict) → Meets l (Some false) → Meets (both l r) (Some false)
both-off (Always k) r p = apart (sym p)
both-off (Never k) r p = refl
both-off Undecided (Always n) p = tt
both-off Undecided (Never n) p = refl
both-off Undecided Undecided p = tt
both-off Undecided NoBranch p = tt
both-off NoBranch r p = tt

both-meets : (l r : Verdict) (t u : Option Bool) → (t ≡ None → ⊥) → Meets l t → (t ≡ Some true → Meets r u) → Meets (both l r) (both_hold t u)
both-meets l r (Some true) u some' p q = both-on l r u p (q refl)
both-meets l r (Some false) u some' p q = both-off l r p
both-meets l r None u some' p q = absurd (some' refl)

-- the same for ||
either-on : (l r : Verdict) (u : Option Bool) → Meets l (Some false) → Meets r u → Meets (either l r) u
either-on (Always k) r u p q = apart (sym p)
either-on (Never k) (Always n) u p q = q
either-on (Never k) (Never n) u p q = q
either-on (Never k) Undecided u p q = tt
either-on (Never k) NoBranch u p q = tt
either-on Undecided (Always n) u p q = q
either-on Undecided (Never n) u p q = tt
either-on Undecided Undecided u p q = tt
either-on Undecided NoBranch u p q = tt
either-on NoBranch r u p q = tt

either-off : (l r : Verdict) → Meets l (Some true) → Meets (either l r) (Some true)
either-off (Always k) r p = refl
either-off (Never k) r p = apart p
either-off Undecided (Always n) p = refl
either-off Undecided (Never n) p = tt
either-off Undecided Undecided p = tt
either-off Undecided NoBranch p = tt
either-off NoBranch r p = tt

either_meets : (l r : Verdict) (t u : Option Bool) → (t ≡ None → ⊥) → Meets l t → (t ≡ Some false → Meets r u) → Meets (either l r) (either_holds t u)
either_meets l r (Some true) u some' p q = either-off l r p
either_meets l r (Some false) u some' p q = either-on l r u p (q refl)
either_meets l r None u some' p q = absurd (some' refl)

-- a value has an outcome
has-outcome : (u : Option ℕ) → Has u → truth_of u ≡ None → ⊥
has-outcome (Some x) h e = cc
has-outcome None h e = h

outcome-has : (u : Option ℕ) → (truth_of u ≡ None → ⊥) → Has u
outcome-has (Some x) h = tt
outcome-has None h = h refl

logic-truth : (s t : ℕ) (u v : Option ℕ)
    → (truth_of (operate 16 s t u v) ≡ both_hold (truth_of u) (truth_of v)) × (truth_of (operate 17 s t u v) ≡ either_holds (truth_of u) (truth_of v))
unfolding operate
logic-truth s t u v = (truth-integer (both_hold (truth_of u) (truth_of v)), truth-integer (either_holds (truth_of u) (truth_of v)))

-- halves have the values that the whole needs
record Halves (t u whole : Option Bool) (go_on : Option Bool) : Type 0 where
  first : t ≡ None → ⊥
  second : t ≡ go_on → u ≡ None → ⊥

both_halves : (t u : Option Bool) → (both_hold t u ≡ None → ⊥) → Halves t u (both_hold t u) (Some true)
both_halves t u h = record { first = λ e. h (rw e); second = λ e e'. h (rw (e, e')) }

either-halves : (t u : Option Bool) → (either_holds t u ≡ None → ⊥) → Halves t u (either_holds t u) (Some false)
either-halves t u h = record { first = λ e. h (rw e); second = λ e e'. h (rw (e, e')) }

-- comparisons

truth-flag : (b : Bool) → truth_of (flag b) ≡ outcome b
truth-flag true = refl
truth-flag false = refl

module _ (s t x y : ℕ) where
  abbrev T : ℕ
  T = together s t

  abbrev c : ℕ
  c = convert s T x

  abbrev d : ℕ
  d = convert t T y

  pub equal-truth : (equal : Bool) → truth_of (operate (cond equal 10 11) s t (Some x) (Some y)) ≡ outcome (asked equal (eqb c d))
  unfolding operate operators arithmetics shifts comparisons
  equal-truth true = truth-flag (eqb c d)
  equal-truth false = truth-flag (not (eqb c d))

  less-truth : truth_of (operate 12 s t (Some x) (Some y)) ≡ outcome (below T c d)
  unfolding operate operators arithmetics shifts comparisons
  less-truth = truth-flag (below T c d)

  at-most-truth : truth_of (operate 13 s t (Some x) (Some y)) ≡ outcome (not (below T d c))
  unfolding operate operators arithmetics shifts comparisons
  at-most-truth = truth-flag (at_most T c d) ∙ ap outcome (at-most T c d)

  greater-truth : truth_of (operate 14 s t (Some x) (Some y)) ≡ outcome (below T d c)
  unfolding operate operators arithmetics shifts comparisons
  greater-truth = truth-flag (below T d c)

  at-least-truth : truth_of (operate 15 s t (Some x) (Some y)) ≡ outcome (not (below T c d))
  unfolding operate operators arithmetics shifts comparisons
  at-least-truth = truth-flag (at_most T d c) ∙ ap outcome (at-most T d c)

not-below : (t x : ℕ) → below t x x ≡ false
unfolding below
not-below t x = go (number t x)
  where
    go : (z : ℤ) → lt_z z z ≡ false
    go (pos n) = le-ltb n n (omega arith)
    go (negsuc n) = le-ltb n n (omega arith)

roomy : (t k x : ℕ) → x < 2 ^ bits t → bits t ≤ k → x < 2 ^ k
roomy t k x h wide = lt_of_lt_of_le h (pow-le-pow_right (omega arith) wide)

-- equal values
record OfEqual (o : ℕ) (b : Bool) : Type 0 where
  compares : o < 16
  truth : (s x : ℕ) → truth_of (operate o s s (Some x) (Some x)) ≡ outcome b

of-equal : (o n : ℕ) (b c : Bool) → o ≡ n → n < 16 → Some c ≡ Some b → ((s x : ℕ) → truth_of (operate n s s (Some x) (Some x)) ≡ outcome c) → OfEqual o b
of-equal o n b c is less e h =
    let same : c ≡ b = cc in
    record { compares = omega arith; truth = λ s x. rw is (h s x ∙ ap outcome same) }

equal-truths : (o : ℕ) (b : Bool) → of_equal o ≡ Some b → OfEqual o b
equal-truths o b e = first (eqb o 10) refl (eqb o 13) refl (eqb o 15) refl e
  where
    same : (s x : ℕ) → below (together s s) (convert s (together s s) x) (convert s (together s s) x) ≡ false
    same s x = not-below (together s s) (convert s (together s s) x)

    again : (s x : ℕ) → eqb (convert s (together s s) x) (convert s (together s s) x) ≡ true
    again s x = eq-eqb (convert s (together s s) x) (convert s (together s s) x) refl

    second : (x : Bool) → eqb o 11 ≡ x → (y : Bool) → eqb o 12 ≡ y → (z : Bool) → eqb o 14 ≡ z
        → cond (x || (y || z)) (Some false) None ≡ Some b → OfEqual o b
    second true p y q z r e = of-equal o 11 b false (eqb-true o 11 p) (omega arith) e (λ s x. equal-truth s s x x false ∙ ap (λ (t : Bool). outcome (not t)) (again s x))
    second false p true q z r e = of-equal o 12 b false (eqb-true o 12 q) (omega arith) e (λ s x. less-truth s s x x ∙ ap outcome (same s x))
    second false p false q true r e = of-equal o 14 b false (eqb-true o 14 r) (omega arith) e (λ s x. greater-truth s s x x ∙ ap outcome (same s x))
    second false p false q false r e = cc

    first : (x : Bool) → eqb o 10 ≡ x → (y : Bool) → eqb o 13 ≡ y → (z : Bool) → eqb o 15 ≡ z
        → cond (x || (y || z)) (Some true) (cond (eqb o 11 || (eqb o 12 || eqb o 14)) (Some false) None) ≡ Some b → OfEqual o b
    first true p y q z r e = of-equal o 10 b true (eqb-true o 10 p) (omega arith) e (λ s x. equal-truth s s x x true ∙ ap outcome (again s x))
    first false p true q z r e = of-equal o 13 b true (eqb-true o 13 q) (omega arith) e (λ s x. at-most-truth s s x x ∙ ap (λ (t : Bool). outcome (not t)) (same s x))
    first false p false q true r e = of-equal o 15 b true (eqb-true o 15 r) (omega arith) e (λ s x. at-least-truth s s x x ∙ ap (λ (t : Bool). outcome (not t)) (same s x))
    first false p false q false r e = second (eqb o 11) refl (eqb o 12) refl (eqb o 14) refl e

-- what a value is
record Is (u : Option ℕ) : Type 0 where
  pattern' : ℕ
  is : u ≡ Some pattern'

value_of : (u : Option ℕ) → Has u → Is u
value_of (Some x) h = record { pattern' = x; is = refl }
value_of None h = absurd h

one-is : (p : List ℕ) → is_one p ≡ true → p ≡ 0 ∷ []
one-is [] e = absurd (false≢true e)
one-is (n ∷ []) e = ap (λ (k : ℕ). k ∷ []) (eqb-true n 0 e)
one-is (n ∷ k ∷ l) e = absurd (false≢true e)

xor-alike : (b : Bool) → xor b b ≡ true → ⊥
unfolding xor
xor-alike true e = false≢true e
xor-alike false e = false≢true e

-- a number that is not negative is not below 0
above : (t c : ℕ) → negative t c ≡ false → below t c 0 ≡ false
unfolding below
above t c plain = rw (number-plain t c plain, small_plain t 0 (omega arith)) (le-ltb c 0 (omega arith))

module _ (types : List ℕ) (ρ σ : Values) (m : Contents) where
  abbrev at : Effects → Expr → Option ℕ
  at f e = ev types ρ σ (shared m) f e

  module _ (f : Effects) (a b : Expr) (fit : Fitting a × Fitting b) where
    abbrev s : ℕ
    s = type_of types a

    abbrev t : ℕ
    t = type_of types b

    abbrev u : Option ℕ
    u = at (under 0 f) a

    abbrev w : Option ℕ
    w = at (under 1 f) b

    fold-meets : (o : ℕ) → Has (operate o s t u w) → Meets (equal_sides o a b) (truth_of (operate o s t u w))
    fold-meets o h = go (same_sides a b) refl (of_equal o) refl
      where
        go : (same : Bool) → same_sides a b ≡ same → (k : Option Bool) → of_equal o ≡ k
            → Meets (cond same (said_if EqualSides k) Undecided) (truth_of (operate o s t u w))
        go false is k found = tt
        go true is None found = tt
        go true is (Some c) found =
            let equal = equal-truths o c found in
            let z = value_of (operate o s t u w) h in
            let d = operands types ρ σ m o s t u w z.pattern' equal.compares z.is in
            let one = one_value types ρ σ m f a b fit 0 is in
            let alike : w ≡ Some d.x = sym one.1 ∙ d.left in
            meets-said EqualSides c (truth_of (operate o s t u w))
            (ap truth_of (ap₂ (operate o s t) d.left alike ∙ ap (λ (q : ℕ). operate o s q (Some d.x) (Some d.x)) (sym one.0)) ∙ equal.truth s d.x)

    exact-meets : (equal : Bool) (x y : ℕ) → u ≡ Some x → w ≡ Some y
        → Meets (on_exact equal (exact_sides a b)) (truth_of (operate (cond equal 10 11) s t u w))
    exact-meets equal x y left right = go (exact a) refl (exact b) refl (written a && written b)
      where
        go : (l : Option ℕ) → exact a ≡ l → (r : Option ℕ) → exact b ≡ r → (both : Bool)
            → Meets (on_exact equal (compared l r both)) (truth_of (operate (cond equal 10 11) s t u w))
        go None p r q both = tt
        go (Some v) p None q both = tt
        go (Some v) p (Some n) q true = tt
        go (Some v) p (Some n) q false =
            let i = exact-value types ρ σ m (under 0 f) a v x fit.0 p left in
            let j = exact-value types ρ σ m (under 1 f) b n y fit.1 q right in
            let k = (together-taken s t).number in
            let rx : v < 2 ^ bits (together s t) = rw i.is at (roomy s (bits (together s t)) x (typed-left types ρ σ m f a b fit 0 x left) (wider_left s t)) in
            let ry : n < 2 ^ bits (together s t) = rw j.is at (roomy t (bits (together s t)) y (typed-right types ρ σ m f a b fit 0 y right) (wider_right s t)) in
            let c : convert s (together s t) x ≡ v = rw i.is (convert-plain s (together s t) v k i.plain rx) in
            let d : convert t (together s t) y ≡ n = rw j.is (convert-plain t (together s t) n k j.plain ry) in
            meets-said ExactSides (asked equal (eqb v n)) (truth_of (operate (cond equal 10 11) s t u w))
            (ap truth_of (ap₂ (operate (cond equal 10 11) s t) left right) ∙ equal-truth s t x y equal ∙ rw (c, d))

    parity_meets : (equal : Bool) (x y : ℕ) → u ≡ Some x → w ≡ Some y → Meets (odd_sides equal a b) (truth_of (operate (cond equal 10 11) s t u w))
    unfolding own_bits
    parity_meets equal x y left right = go (is_one (difference a b)) refl
      where
        α : Expr → Bool
        α = shared_bits types ρ σ m

        go : (one : Bool) → is_one (difference a b) ≡ one
            → Meets (cond one (said Parity (asked equal false)) Undecided) (truth_of (operate (cond equal 10 11) s t u w))
        go false test = tt
        go true test =
            let φ = own_bits types ρ σ m f (binary 0 a b) in
            let c = some_bits (shared_bits types ρ σ m) φ a b in
            let lx : bit x ≡ low_bit (shared_bits types ρ σ m) (under 0 φ) a = ap low (sym left) ∙ ev-low types ρ σ m (under 0 f) a (rw left tt) in
            let ly : bit y ≡ low_bit (shared_bits types ρ σ m) (under 1 φ) b = ap low (sym right) ∙ ev-low types ρ σ m (under 1 f) b (rw right tt) in
            let odd : xor (bit x) (bit y) ≡ true =
            ap₂ xor (lx ∙ sym (poly-low c.bits [] (shared_bits types ρ σ m) (under 0 φ) a c.both.left)) (ly ∙ sym (poly-low c.bits (parity [] a).atoms (shared_bits types ρ σ m) (under 1 φ) b c.both.right))
            ∙ sym (value-sum c.bits (parity [] a).poly (parity (parity [] a).atoms b).poly) ∙ ap (value c.bits) (one-is (difference a b) test) ∙ value-one c.bits
            in
            let k = (together-taken s t).number in
            let apart' : eqb (convert s (together s t) x) (convert t (together s t) y) ≡ false =
            ne_eqb (convert s (together s t) x) (convert t (together s t) y)
            (λ e. let lows : x % 2 ≡ y % 2 = sym (convert-low s (together s t) x k (typed-left types ρ σ m f a b fit 0 x left)) ∙ ap (λ (n : ℕ). n % 2) e ∙ convert-low t (together s t) y k (typed-right types ρ σ m f a b fit 0 y right) in xor-alike (bit y) (rw lows at odd))
            in
            meets-said Parity (asked equal false) (truth_of (operate (cond equal 10 11) s t u w))
            (ap truth_of (ap₂ (operate (cond equal 10 11) s t) left right) ∙ equal-truth s t x y equal ∙ rw apart')

    constant-sign : (e : Expr) → is_constant 0 e ≡ true → signed (type_of types e) ≡ false
    unfolding type_of
    constant-sign (constant n k) test = constant-unsigned n
    constant-sign (variable n) test = absurd (false≢true test)
    constant-sign condition_true test = absurd (false≢true test)
    constant-sign condition_false test = absurd (false≢true test)
    constant-sign (effect k) test = absurd (false≢true test)
    constant-sign (load k e) test = absurd (false≢true test)
    constant-sign (cast k e) test = absurd (false≢true test)
    constant-sign (binary o d e) test = absurd (false≢true test)
    constant-sign (ternary c d e) test = absurd (false≢true test)

    cast-sign : (e : Expr) → unsigned_cast e ≡ true → signed (type_of types e) ≡ false
    unfolding type_of
    cast-sign (cast k e) test = go (eqb k 4) refl (eqb k 5) refl (eqb k 6) refl (eqb k 7) refl (eqb k 8) refl test
      where
        go : (p4 : Bool) → eqb k 4 ≡ p4 → (p5 : Bool) → eqb k 5 ≡ p5 → (p6 : Bool) → eqb k 6 ≡ p6 → (p7 : Bool) → eqb k 7 ≡ p7 → (p8 : Bool) → eqb k 8 ≡ p8
            → (p4 || (p5 || (p6 || (p7 || p8)))) ≡ true → signed k ≡ false
        go true e4 p5 e5 p6 e6 p7 e7 p8 e8 h = rw (eqb-true k 4 e4)
        go false e4 true e5 p6 e6 p7 e7 p8 e8 h = rw (eqb-true k 5 e5)
        go false e4 false e5 true e6 p7 e7 p8 e8 h = rw (eqb-true k 6 e6)
        go false e4 false e5 false e6 true e7 p8 e8 h = rw (eqb-true k 7 e7)
        go false e4 false e5 false e6 false e7 true e8 h = rw (eqb-true k 8 e8)
        go false e4 false e5 false e6 false e7 false e8 h = absurd (false≢true h)
    cast-sign (constant n k) test = absurd (false≢true test)
    cast-sign (variable n) test = absurd (false≢true test)
    cast-sign condition_true test = absurd (false≢true test)
    cast-sign condition_false test = absurd (false≢true test)
    cast-sign (effect k) test = absurd (false≢true test)
    cast-sign (load k e) test = absurd (false≢true test)
    cast-sign (binary o d e) test = absurd (false≢true test)
    cast-sign (ternary c d e) test = absurd (false≢true test)

    -- the sides of a relation between an unsigned cast and 0
    on-left : (o : ℕ) → o < 16 → Has (operate o s t u w) → is_constant 0 b ≡ true → unsigned_cast a ≡ true
        → (x : ℕ) × (u ≡ Some x) × (w ≡ Some 0) × (below (together s t) (convert s (together s t) x) (convert t (together s t) 0) ≡ false)
    on-left o less h none' unsigned =
        let z = value_of (operate o s t u w) h in
        let d = operands types ρ σ m o s t u w z.pattern' less z.is in
        let c = constant-at types ρ σ m (under 1 f) b 0 fit.1 none' in
        let zero' : convert t (together s t) 0 ≡ 0 = convert-plain t (together s t) 0 (together-taken s t).number c.1 (some' (together s t)) in
        (d.x, d.left, c.0, rw zero' (above (together s t) (convert s (together s t) d.x) (unsigned-left s t d.x (cast-sign a unsigned) (constant-sign b none') (typed-left types ρ σ m f a b fit 0 d.x d.left))))

    on-right : (o : ℕ) → o < 16 → Has (operate o s t u w) → is_constant 0 a ≡ true → unsigned_cast b ≡ true
        → (y : ℕ) × (u ≡ Some 0) × (w ≡ Some y) × (below (together s t) (convert t (together s t) y) (convert s (together s t) 0) ≡ false)
    on-right o less h none' unsigned =
        let z = value_of (operate o s t u w) h in
        let d = operands types ρ σ m o s t u w z.pattern' less z.is in
        let c = constant-at types ρ σ m (under 0 f) a 0 fit.0 none' in
        let zero' : convert s (together s t) 0 ≡ 0 = convert-plain s (together s t) 0 (together-taken s t).number c.1 (some' (together s t)) in
        (d.y, c.0, d.right, rw zero' (above (together s t) (convert t (together s t) d.y) (unsigned-right s t d.y (constant-sign a none') (cast-sign b unsigned) (typed-right types ρ σ m f a b fit 0 d.y d.right))))

    abbrev truth : ℕ → Option Bool
    truth o = truth_of (operate o s t u w)

    sides-truth : (o x y : ℕ) → u ≡ Some x → w ≡ Some y → truth o ≡ truth_of (operate o s t (Some x) (Some y))
    sides-truth o x y left right = ap truth_of (ap₂ (operate o s t) left right)

    zero-less : Has (operate 12 s t u w) → Meets (unsigned_zero 12 a b) (truth 12)
    zero-less h = go (is_constant 0 b) refl (unsigned_cast a) refl (is_constant 0 a) (unsigned_cast b)
      where
        go : (p : Bool) → is_constant 0 b ≡ p → (q : Bool) → unsigned_cast a ≡ q → (p' q' : Bool)
            → Meets (cond p (cond q (Never UnsignedZero) Undecided) (cond p' (cond q' Undecided Undecided) Undecided)) (truth 12)
        go true e true g p' q' = let k = on-left 12 (omega arith) h e g in sides-truth 12 k.0 0 k.1 k.2 ∙ less-truth s t k.0 0 ∙ rw k.3
        go true e false g p' q' = tt
        go false e q g true true = tt
        go false e q g true false = tt
        go false e q g false q' = tt

    zero-at-least : Has (operate 15 s t u w) → Meets (unsigned_zero 15 a b) (truth 15)
    zero-at-least h = go (is_constant 0 b) refl (unsigned_cast a) refl (is_constant 0 a) (unsigned_cast b)
      where
        go : (p : Bool) → is_constant 0 b ≡ p → (q : Bool) → unsigned_cast a ≡ q → (p' q' : Bool)
            → Meets (cond p (cond q (Always UnsignedZero) Undecided) (cond p' (cond q' Undecided Undecided) Undecided)) (truth 15)
        go true e true g p' q' = let k = on-left 15 (omega arith) h e g in sides-truth 15 k.0 0 k.1 k.2 ∙ at-least-truth s t k.0 0 ∙ rw k.3
        go true e false g p' q' = tt
        go false e q g true true = tt
        go false e q g true false = tt
        go false e q g false q' = tt

    zero_at_most : Has (operate 13 s t u w) → Meets (unsigned_zero 13 a b) (truth 13)
    zero_at_most h = go (is_constant 0 b) (unsigned_cast a) (is_constant 0 a) refl (unsigned_cast b) refl
      where
        go : (p q p' : Bool) → is_constant 0 a ≡ p' → (q' : Bool) → unsigned_cast b ≡ q'
            → Meets (cond p (cond q Undecided Undecided) (cond p' (cond q' (Always UnsignedZero) Undecided) Undecided)) (truth 13)
        go true true p' e q' g = tt
        go true false p' e q' g = tt
        go false q true e true g = let k = on-right 13 (omega arith) h e g in sides-truth 13 0 k.0 k.1 k.2 ∙ at-most-truth s t 0 k.0 ∙ rw k.3
        go false q true e false g = tt
        go false q false e q' g = tt

    zero-greater : Has (operate 14 s t u w) → Meets (unsigned_zero 14 a b) (truth 14)
    zero-greater h = go (is_constant 0 b) (unsigned_cast a) (is_constant 0 a) refl (unsigned_cast b) refl
      where
        go : (p q p' : Bool) → is_constant 0 a ≡ p' → (q' : Bool) → unsigned_cast b ≡ q'
            → Meets (cond p (cond q Undecided Undecided) (cond p' (cond q' (Never UnsignedZero) Undecided) Undecided)) (truth 14)
        go true true p' e q' g = tt
        go true false p' e q' g = tt
        go false q true e true g = let k = on-right 14 (omega arith) h e g in sides-truth 14 0 k.0 k.1 k.2 ∙ greater-truth s t 0 k.0 ∙ rw k.3
        go false q true e false g = tt
        go false q false e q' g = tt

    equality-meets : (equal : Bool) → Has (operate (cond equal 10 11) s t u w) → Meets (equality equal a b) (truth (cond equal 10 11))
    equality-meets equal h =
        let z = value_of (operate (cond equal 10 11) s t u w) h in
        let d = operands types ρ σ m (cond equal 10 11) s t u w z.pattern' (less equal) z.is in
        meets-else (on_exact equal (exact_sides a b)) (odd_sides equal a b) (truth (cond equal 10 11)) (exact-meets equal d.x d.y d.left d.right) (parity_meets equal d.x d.y d.left d.right)
      where
        less : (b : Bool) → cond b 10 11 < 16
        less true = omega arith
        less false = omega arith

    both_right : (Has u → Meets (decide a) (truth_of u)) → (Has w → Meets (decide b) (truth_of w)) → Has (operate 16 s t u w)
        → Meets (both (decide a) (decide b)) (truth 16)
    both_right p q h =
        let is = (logic-truth s t u w).0 in
        let halves = both_halves (truth_of u) (truth_of w) (λ e. has-outcome (operate 16 s t u w) h (is ∙ e)) in
        rw is (both-meets (decide a) (decide b) (truth_of u) (truth_of w) halves.first (p (outcome-has u halves.first)) (λ e. q (outcome-has w (halves.second e))))

    either-right : (Has u → Meets (decide a) (truth_of u)) → (Has w → Meets (decide b) (truth_of w)) → Has (operate 17 s t u w)
        → Meets (either (decide a) (decide b)) (truth 17)
    either-right p q h =
        let is = (logic-truth s t u w).1 in
        let halves = either-halves (truth_of u) (truth_of w) (λ e. has-outcome (operate 17 s t u w) h (is ∙ e)) in
        rw is (either_meets (decide a) (decide b) (truth_of u) (truth_of w) halves.first (p (outcome-has u halves.first)) (λ e. q (outcome-has w (halves.second e))))

    binary-meets : (o : ℕ) → (Has u → Meets (decide a) (truth_of u)) → (Has w → Meets (decide b) (truth_of w)) → Has (operate o s t u w)
        → Meets (or_else (equal_sides o a b) (by_operator o a b (decide a) (decide b))) (truth o)
    binary-meets o p q h =
        meets-else (equal_sides o a b) (by_operator o a b (decide a) (decide b)) (truth o) (fold-meets o h)
        (go (eqb o 10) refl (eqb o 11) refl (eqb o 12) refl (eqb o 13) refl (eqb o 14) refl (eqb o 15) refl (eqb o 16) refl (eqb o 17) refl)
      where
        at-operator : (n : ℕ) (v : ℕ → Verdict) → o ≡ n → (Has (operate n s t u w) → Meets (v n) (truth n)) → Meets (v o) (truth o)
        at-operator n v is g = rw is (g (rw is at h))

        go : (p10 : Bool) → eqb o 10 ≡ p10 → (p11 : Bool) → eqb o 11 ≡ p11 → (p12 : Bool) → eqb o 12 ≡ p12 → (p13 : Bool) → eqb o 13 ≡ p13
            → (p14 : Bool) → eqb o 14 ≡ p14 → (p15 : Bool) → eqb o 15 ≡ p15 → (p16 : Bool) → eqb o 16 ≡ p16 → (p17 : Bool) → eqb o 17 ≡ p17
            → Meets (cond p10 (equality true a b) (cond p11 (equality false a b) (cond (p12 || (p13 || (p14 || p15))) (unsigned_zero o a b) (cond p16 (both (decide a) (decide b)) (cond p17 (either (decide a) (decide b)) Undecided))))) (truth o)
        go true e10 p11 e11 p12 e12 p13 e13 p14 e14 p15 e15 p16 e16 p17 e17 = at-operator 10 (λ n. equality true a b) (eqb-true o 10 e10) (equality-meets true)
        go false e10 true e11 p12 e12 p13 e13 p14 e14 p15 e15 p16 e16 p17 e17 = at-operator 11 (λ n. equality false a b) (eqb-true o 11 e11) (equality-meets false)
        go false e10 false e11 true e12 p13 e13 p14 e14 p15 e15 p16 e16 p17 e17 = at-operator 12 (λ n. unsigned_zero n a b) (eqb-true o 12 e12) zero-less
        go false e10 false e11 false e12 true e13 p14 e14 p15 e15 p16 e16 p17 e17 = at-operator 13 (λ n. unsigned_zero n a b) (eqb-true o 13 e13) zero_at_most
        go false e10 false e11 false e12 false e13 true e14 p15 e15 p16 e16 p17 e17 = at-operator 14 (λ n. unsigned_zero n a b) (eqb-true o 14 e14) zero-greater
        go false e10 false e11 false e12 false e13 false e14 true e15 p16 e16 p17 e17 = at-operator 15 (λ n. unsigned_zero n a b) (eqb-true o 15 e15) zero-at-least
        go false e10 false e11 false e12 false e13 false e14 false e15 true e16 p17 e17 = at-operator 16 (λ n. both (decide a) (decide b)) (eqb-true o 16 e16) (both_right p q)
        go false e10 false e11 false e12 false e13 false e14 false e15 false e16 true e17 = at-operator 17 (λ n. either (decide a) (decide b)) (eqb-true o 17 e17) (either-right p q)
        go false e10 false e11 false e12 false e13 false e14 false e15 false e16 false e17 = tt

  -- The verdict on a condition is right where the condition has a value.
  pub right : (f : Effects) (e : Expr) → Fitting e → Has (at f e) → Meets (decide e) (truth_of (at f e))
  unfolding decide Fitting ev
  right f (variable n) fit h = tt
  right f (constant w x) fit h = tt
  right f condition_true fit h = refl
  right f condition_false fit h = refl
  right f (effect t) fit h = tt
  right f (load t a) fit h = tt
  right f (cast t a) fit h = tt
  right f (binary o a b) fit h = binary-meets f a b fit o (right (under 0 f) a fit.0) (right (under 1 f) b fit.1) h
  right f (ternary c a b) fit h = tt
