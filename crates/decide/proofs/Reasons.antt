-- `decide` gives a value and a reason, in the scope document's numbers, exactly where the relation has them.
use Rattle.std.specs.Prelude.{Option, Some, None}
use Prim.Native.Nat.{ℕ, ◌≤◌}
use mathlib.Core.Path.{◌≡◌, refl, sym, ap, ◌∙◌}
use mathlib.Core.Bool.{Bool, true, false, cond, ◌&&◌, ◌||◌, false≢true}
use mathlib.Core.List.{List, [], ◌∷◌}
use mathlib.Core.Logic.{◌↔◌}
use native.Mathlib.Omega.{arith}
use lib.Dec.{eqb}
use borrow.Author.Tests.{eqb-true, eqb-false, eq-eqb}
use Rattle.laws.proofs.Booleans.{by_test}
use Rattle.expr.specs.Codes.{op_equal, op_greater, op_greater_equal, op_less, op_less_equal, op_logical_and, op_logical_or, op_not_equal}
use Rattle.expr.specs.Tree.{Expr}
use Rattle.expr.specs.Tree.Expr.{variable, constant, condition_true, condition_false, effect, load, cast, binary, ternary}
use Rattle.value.specs.Evaluation.{under}
use Rattle.poly.proofs.Values.{value-sum, value-one}
use Rattle.parity.specs.Parity.{parity, difference}
use Rattle.parity.specs.LowBit.{AlwaysDiffer}
use Rattle.parity.proofs.Choices.{poly-low, some_bits}
use Rattle.verdict.specs.declared.Reason.{Reason}
use Rattle.verdict.specs.declared.Reason.TheVariants as reason
use Rattle.verdict.specs.declared.Verdict.{Verdict}
use Rattle.verdict.specs.declared.Verdict.TheVariants.{Always, Never, Undecided, NoBranch}
use Rattle.verdict.specs.Numbers.{reason_number, verdict_numbers}
use Rattle.verdict.specs.Numbers.Numbers.{decision, undecided}
use Rattle.exact.specs.Exact.{same_sides, is_constant, is_one, exact, written, compared, exact_sides}
use Rattle.exact.specs.Sides.{AsWritten}
use Rattle.exact.proofs.Sides.{constant-is, same-tree, same-itself, value_found, written-found}
use Rattle.decide.specs.Decide.{said, said_if, or_else, of_equal, equal_sides, asked, on_exact, equality, unsigned_cast, above_zero, mirrored, unsigned_zero, both, negated, either, by_operator, decide}
use Rattle.decide.specs.Decided.{Same, OfSame, Equality, ExactValues, UnsignedCast, Zero, Step, Decided}
use Rattle.decide.specs.Decided.UnsignedCast.{unsigned}
use Rattle.decide.specs.Decided.Zero.{zero}
use Rattle.decide.specs.Decided.Step.{same-sides, one_value, two-values, low_bits, below-zero, at-least-zero, zero-above, zero_at_most, both_hold, left-fails, right-fails, both-fail, left-holds, right-holds}
use Rattle.decide.proofs.Complete.{differs-one}

-- a verdict's numbers are these
abbrev Says : Verdict → ℕ → ℕ → Type 0
Says d v r = verdict_numbers d ≡ decision v r

-- what is said has one value and one reason
moved : (R : ℕ → ℕ → Type 0) {v r w q : ℕ} → decision v r ≡ decision w q → R v r → R w q
moved R {v} {r} {w} {q} e h = let p : v ≡ w = cc in let s : r ≡ q = cc in rw (p, s) at h

open' : {A : Type 0} {v r : ℕ} → undecided ≡ decision v r → A
open' e = cc

-- ---- the steps' tests and their premises

same-is : (a b : Expr) → same_sides a b ≡ true → Same a b
same-is a b h = let p = same-tree a b h in record { equal = p.0; plain = p.1 }

is_same : (a b : Expr) → Same a b → same_sides a b ≡ true
is_same a b h = rw (← h.equal) (same-itself a h.plain)

apart-is : (a b : Expr) → same_sides a b ≡ false → Same a b → ⊥
apart-is a b h same = false≢true (sym h ∙ is_same a b same)

is-apart : (a b : Expr) → (Same a b → ⊥) → same_sides a b ≡ false
is-apart a b h = by_test (same_sides a b) (λ t. absurd (h (same-is a b t))) (λ t. t)

-- what exact sides say, by the relation
data Compared (a b : Expr) : Option Bool → Type 0 where
  closed : ((x y : ℕ) → ExactValues a b x y → ⊥) → Compared a b None
  alike : {x : ℕ} → ExactValues a b x x → Compared a b (Some true)
  unlike : {x y : ℕ} → ExactValues a b x y → (x ≡ y → ⊥) → Compared a b (Some false)

module _ (a b : Expr) where
  compared_is : Compared a b (exact_sides a b)
  compared_is = go (exact a) refl (exact b) refl (written a) refl (written b) refl
    where
      none_left : exact a ≡ None → (x y : ℕ) → ExactValues a b x y → ⊥
      none_left e x y h = let f = (value_found a x).1 h.left in cc

      none_right : exact b ≡ None → (x y : ℕ) → ExactValues a b x y → ⊥
      none_right e x y h = let f = (value_found b y).1 h.right in cc

      found : {x y : ℕ} → exact a ≡ Some x → exact b ≡ Some y → (AsWritten a → AsWritten b → ⊥) → ExactValues a b x y
      found {x} {y} p q n = record { left = (value_found a x).0 p; right = (value_found b y).0 q; apart = n }

      by_value : {x y : ℕ} → ExactValues a b x y → (t : Bool) → eqb x y ≡ t → Compared a b (Some t)
      by_value {x} {y} h true t = let is = eqb-true x y t in alike (rw (← is) at h)
      by_value {x} {y} h false t = unlike h (eqb-false x y t)

      go : (u : Option ℕ) → exact a ≡ u → (v : Option ℕ) → exact b ≡ v → (s : Bool) → written a ≡ s → (t : Bool) → written b ≡ t
          → Compared a b (compared u v (s && t))
      go None p v q s n t k = closed (none_left p)
      go (Some x) p None q s n t k = closed (none_right q)
      go (Some x) p (Some y) q true n true k = closed (λ x y h. h.apart ((written-found a).0 n) ((written-found b).0 k))
      go (Some x) p (Some y) q true n false k = by_value (found p q (λ c d. false≢true (sym k ∙ (written-found b).1 d))) (eqb x y) refl
      go (Some x) p (Some y) q false n t k = by_value (found p q (λ c d. false≢true (sym n ∙ (written-found a).1 c))) (eqb x y) refl

  -- exact sides have one pair of values
  one-pair : {x y u v : ℕ} → ExactValues a b x y → ExactValues a b u v → (x ≡ u) × (y ≡ v)
  one-pair {x} {y} {u} {v} h k =
      let p = (value_found a x).1 h.left in
      let q = (value_found a u).1 k.left in
      let r = (value_found b y).1 h.right in
      let s = (value_found b v).1 k.right in
      (cc, cc)

  -- the sum of the low bits is one where they always differ
  differ-is : is_one (difference a b) ≡ true → AlwaysDiffer a b
  differ-is h shared own =
      let c = some_bits shared own a b in
      rw (← poly-low c.bits [] shared (under 0 own) a c.both.left, ← poly-low c.bits (parity [] a).atoms shared (under 1 own) b c.both.right, ← value-sum c.bits (parity [] a).poly (parity (parity [] a).atoms b).poly)
      (rw (is_one_lem (difference a b) h) (value-one c.bits))
    where
      is_one_lem : (p : List ℕ) → is_one p ≡ true → p ≡ 0 ∷ []
      is_one_lem [] h = absurd (false≢true h)
      is_one_lem (m ∷ []) h = rw (eqb-true m 0 h)
      is_one_lem (m ∷ n ∷ l) h = absurd (false≢true h)

  is-differ : AlwaysDiffer a b → is_one (difference a b) ≡ true
  is-differ h = rw (differs-one a b h)

-- ---- an unsigned cast against 0

module _ (t : ℕ) where
  abbrev unsigned-number : Bool
  unsigned-number = eqb t 4 || (eqb t 5 || (eqb t 6 || (eqb t 7 || eqb t 8)))

  range-is : unsigned-number ≡ true → (4 ≤ t) × (t ≤ 8)
  range-is h =
      by_test (eqb t 4) (at 4 (omega arith) (omega arith))
      (λ p. by_test (eqb t 5) (at 5 (omega arith) (omega arith))
      (λ q. by_test (eqb t 6) (at 6 (omega arith) (omega arith))
      (λ r. by_test (eqb t 7) (at 7 (omega arith) (omega arith)) (λ s. at 8 (omega arith) (omega arith) (rw (p, q, r, s) at h)))))
    where
      at : (k : ℕ) → 4 ≤ k → k ≤ 8 → eqb t k ≡ true → (4 ≤ t) × (t ≤ 8)
      at k p q e = let is = eqb-true t k e in (omega arith, omega arith)

  is-range : 4 ≤ t → t ≤ 8 → unsigned-number ≡ true
  is-range p q =
      by_test (eqb t 4) (λ e. rw e)
      (λ e. by_test (eqb t 5) (λ f. rw (e, f))
      (λ f. by_test (eqb t 6) (λ g. rw (e, f, g))
      (λ g. by_test (eqb t 7) (λ h. rw (e, f, g, h))
      (λ h. let is : t ≡ 8 = omega (arith, eqb-false t 4 e, eqb-false t 5 f, eqb-false t 6 g, eqb-false t 7 h) in rw (e, f, g, h, eq-eqb t 8 is)))))

cast_is : (e : Expr) → unsigned_cast e ≡ true → UnsignedCast e
cast_is (variable n) h = absurd (false≢true h)
cast_is (constant w x) h = absurd (false≢true h)
cast_is condition_true h = absurd (false≢true h)
cast_is condition_false h = absurd (false≢true h)
cast_is (effect t) h = absurd (false≢true h)
cast_is (load t a) h = absurd (false≢true h)
cast_is (cast t a) h = let r = range-is t h in unsigned r.0 r.1
cast_is (binary o a b) h = absurd (false≢true h)
cast_is (ternary c a b) h = absurd (false≢true h)

is-cast : (e : Expr) → UnsignedCast e → unsigned_cast e ≡ true
is-cast e (unsigned {t = t} p q) = is-range t p q

zero_is : (e : Expr) → is_constant 0 e ≡ true → Zero e
zero_is e h = let k = constant-is 0 e h in rw k.is zero

is_zero : (e : Expr) → Zero e → is_constant 0 e ≡ true
is_zero e zero = refl

cast-zero : (e : Expr) → UnsignedCast e → Zero e → ⊥
cast-zero e (unsigned {t = t} {a = a} p q) z = false≢true (is_zero (cast t a) z)

-- what this step says of a relation, by the relation
data Against (a b : Expr) (o : ℕ) : Verdict → Type 0 where
  on-right : UnsignedCast a → Zero b → Against a b o (above_zero o)
  on-left : Zero a → UnsignedCast b → Against a b o (above_zero (mirrored o))
  neither : (UnsignedCast a → Zero b → ⊥) → (Zero a → UnsignedCast b → ⊥) → Against a b o Undecided

against : (a b : Expr) (o : ℕ) → Against a b o (unsigned_zero o a b)
against a b o =
    by_test (is_constant 0 b)
    (λ p. by_test (unsigned_cast a) (λ q. rw (p, q) (on-right (cast_is a q) (zero_is b p)))
    (λ q. rw (p, q) (neither (λ c z. false≢true (sym q ∙ is-cast a c)) (λ z c. cast-zero b c (zero_is b p)))))
    (λ p. by_test (is_constant 0 a)
    (λ q. by_test (unsigned_cast b) (λ r. rw (p, q, r) (on-left (zero_is a q) (cast_is b r)))
    (λ r. rw (p, q, r) (neither (λ c z. false≢true (sym p ∙ is_zero b z)) (λ z c. false≢true (sym r ∙ is-cast b c)))))
    (λ q. rw (p, q) (neither (λ c z. false≢true (sym p ∙ is_zero b z)) (λ z c. false≢true (sym q ∙ is_zero a z)))))

-- ---- no condition lacks a branch

data Judged : Verdict → Type 0 where
  always : {r : Reason} → Judged (Always r)
  never : {r : Reason} → Judged (Never r)
  open-still : Judged Undecided

judged-is : (v : Verdict) → Judged v → v ≡ NoBranch → ⊥
judged-is v always e = cc
judged-is v never e = cc
judged-is v open-still e = cc

judged-else : {v w : Verdict} → Judged v → Judged w → Judged (or_else v w)
judged-else always q = always
judged-else never q = never
judged-else open-still q = q

judged-cond : (t : Bool) {v w : Verdict} → Judged v → Judged w → Judged (cond t v w)
judged-cond true p q = p
judged-cond false p q = q

judged-said : (r : Reason) (b : Bool) → Judged (said r b)
judged-said r true = always
judged-said r false = never

judged-if : (r : Reason) (b : Option Bool) → Judged (said_if r b)
judged-if r None = open-still
judged-if r (Some b) = judged-said r b

judged-exact : (equal : Bool) (b : Option Bool) → Judged (on_exact equal b)
judged-exact equal None = open-still
judged-exact equal (Some b) = judged-said reason.ExactSides (asked equal b)

judged-both : (v w : Verdict) → Judged (both v w)
judged-both (Never r) w = never
judged-both (Always r) (Always q) = always
judged-both (Always r) (Never q) = never
judged-both (Always r) Undecided = open-still
judged-both (Always r) NoBranch = open-still
judged-both Undecided (Always q) = open-still
judged-both Undecided (Never q) = never
judged-both Undecided Undecided = open-still
judged-both Undecided NoBranch = open-still
judged-both NoBranch w = open-still

judged-negated : {v : Verdict} → Judged v → Judged (negated v)
judged-negated always = never
judged-negated never = always
judged-negated open-still = open-still

judged-equality : (equal : Bool) (a b : Expr) → Judged (equality equal a b)
judged-equality equal a b =
    judged-else (judged-exact equal (exact_sides a b))
    (judged-cond (is_one (difference a b)) (judged-said reason.Parity (asked equal false)) open-still)

judged-above : (o : ℕ) → Judged (above_zero o)
judged-above o = judged-cond (eqb o op_greater_equal) always (judged-cond (eqb o op_less) never open-still)

judged-zero : (o : ℕ) (a b : Expr) → Judged (unsigned_zero o a b)
judged-zero o a b =
    judged-cond (is_constant 0 b) (judged-cond (unsigned_cast a) (judged-above o) open-still)
    (judged-cond (is_constant 0 a) (judged-cond (unsigned_cast b) (judged-above (mirrored o)) open-still) open-still)

judged : (e : Expr) → Judged (decide e)
unfolding decide
judged (variable n) = open-still
judged (constant w x) = open-still
judged condition_true = always
judged condition_false = never
judged (effect t) = open-still
judged (load t a) = open-still
judged (cast t a) = open-still
judged (binary o a b) =
    judged-else (judged-cond (same_sides a b) (judged-if reason.EqualSides (of_equal o)) open-still)
    (judged-cond (eqb o op_equal) (judged-equality true a b)
    (judged-cond (eqb o op_not_equal) (judged-equality false a b)
    (judged-cond (eqb o op_less || (eqb o op_less_equal || (eqb o op_greater || eqb o op_greater_equal))) (judged-zero o a b)
    (judged-cond (eqb o op_logical_and) (judged-both (decide a) (decide b))
    (judged-cond (eqb o op_logical_or) (judged-negated (judged-both (negated (decide a)) (negated (decide b)))) open-still)))))
judged (ternary c a b) = open-still

-- Every condition is judged: none is said to have no branch.
pub has-branch : (e : Expr) → decide e ≡ NoBranch → ⊥
has-branch e h = judged-is (decide e) (judged e) h

-- ---- logic

-- what a verdict says, as a relation
abbrev Means : Verdict → (ℕ → ℕ → Type 0) → Type 0
Means d R = (v r : ℕ) → Says d v r ↔ R v r

-- a verdict does not say two things
not-both : {A : Type 0} (d : Verdict) {v w p q : ℕ} → (v ≡ w → ⊥) → Says d v p → Says d w q → A
not-both d {v} {w} n h k = let e : v ≡ w = cc in absurd (n e)

module _ (a b : Expr) (left right : ℕ → ℕ → Type 0) where
  abbrev S : ℕ → ℕ → ℕ → Type 0
  S = Step a b left right

  to-and : (d k : Verdict) → Means d left → Means k right → (v r : ℕ) → Says (both d k) v r → S op_logical_and v r
  to-and (Never p) k l m v r h = moved (S op_logical_and) h (left-fails ((l 0 (reason_number p)).0 refl))
  to-and (Always p) (Always q) l m v r h = moved (S op_logical_and) h (both_hold ((l 1 (reason_number p)).0 refl) ((m 1 (reason_number q)).0 refl))
  to-and (Always p) (Never q) l m v r h =
      moved (S op_logical_and) h (right-fails (λ r x. not-both (Always p) {v = 1} {w = 0} (λ e. omega arith) refl ((l 0 r).1 x)) ((m 0 (reason_number q)).0 refl))
  to-and (Always p) Undecided l m v r h = open' h
  to-and (Always p) NoBranch l m v r h = open' h
  to-and Undecided (Always q) l m v r h = open' h
  to-and Undecided (Never q) l m v r h = moved (S op_logical_and) h (right-fails (λ r x. open' ((l 0 r).1 x)) ((m 0 (reason_number q)).0 refl))
  to-and Undecided Undecided l m v r h = open' h
  to-and Undecided NoBranch l m v r h = open' h
  to-and NoBranch k l m v r h = open' h

  to-or : (d k : Verdict) → Means d left → Means k right → (v r : ℕ) → Says (either d k) v r → S op_logical_or v r
  to-or (Always p) k l m v r h = moved (S op_logical_or) h (left-holds ((l 1 (reason_number p)).0 refl))
  to-or (Never p) (Never q) l m v r h = moved (S op_logical_or) h (both-fail ((l 0 (reason_number p)).0 refl) ((m 0 (reason_number q)).0 refl))
  to-or (Never p) (Always q) l m v r h =
      moved (S op_logical_or) h (right-holds (λ r x. not-both (Never p) {v = 0} {w = 1} (λ e. omega arith) refl ((l 1 r).1 x)) ((m 1 (reason_number q)).0 refl))
  to-or (Never p) Undecided l m v r h = open' h
  to-or (Never p) NoBranch l m v r h = open' h
  to-or Undecided (Always q) l m v r h = moved (S op_logical_or) h (right-holds (λ r x. open' ((l 1 r).1 x)) ((m 1 (reason_number q)).0 refl))
  to-or Undecided (Never q) l m v r h = open' h
  to-or Undecided Undecided l m v r h = open' h
  to-or Undecided NoBranch l m v r h = open' h
  to-or NoBranch k l m v r h = open' h

-- && from what its halves say
and-left-says : (d k : Verdict) {r : ℕ} → Says d 0 r → Says (both d k) 0 r
and-left-says (Never p) k h = h
and-left-says (Always p) k h = cc
and-left-says Undecided k h = open' h
and-left-says NoBranch k h = cc

and-right-says : (d k : Verdict) {r : ℕ} → Judged d → ((q : ℕ) → Says d 0 q → ⊥) → Says k 0 r → Says (both d k) 0 r
and-right-says (Never p) k j n h = absurd (n (reason_number p) refl)
and-right-says (Always p) (Never q) j n h = h
and-right-says (Always p) (Always q) j n h = cc
and-right-says (Always p) Undecided j n h = h
and-right-says (Always p) NoBranch j n h = cc
and-right-says Undecided (Never q) j n h = h
and-right-says Undecided (Always q) j n h = cc
and-right-says Undecided Undecided j n h = h
and-right-says Undecided NoBranch j n h = cc
and-right-says NoBranch k j n h = absurd (judged-is NoBranch j refl)

and-both-says : (d k : Verdict) {r q : ℕ} → Says d 1 r → Says k 1 q → Says (both d k) 1 7
and-both-says (Always p) (Always q) h m = refl
and-both-says (Always p) (Never q) h m = cc
and-both-says (Always p) Undecided h m = open' m
and-both-says (Always p) NoBranch h m = cc
and-both-says (Never p) k h m = cc
and-both-says Undecided k h m = open' h
and-both-says NoBranch k h m = cc

-- always and never exchanged
negated-holds : (d : Verdict) {r : ℕ} → Says d 1 r → Says (negated d) 0 r
negated-holds (Always p) {r} h = let e : reason_number p ≡ r = cc in ap (decision 0) e
negated-holds (Never p) h = cc
negated-holds Undecided h = open' h
negated-holds NoBranch h = cc

negated-fails : (d : Verdict) {r : ℕ} → Says d 0 r → Says (negated d) 1 r
negated-fails (Never p) {r} h = let e : reason_number p ≡ r = cc in ap (decision 1) e
negated-fails (Always p) h = cc
negated-fails Undecided h = open' h
negated-fails NoBranch h = cc

negated-twice : (d : Verdict) → negated (negated d) ≡ d
negated-twice (Always p) = refl
negated-twice (Never p) = refl
negated-twice Undecided = refl
negated-twice NoBranch = refl

-- || from what its halves say, as && of the negations
or-left-says : (d k : Verdict) {r : ℕ} → Says d 1 r → Says (either d k) 1 r
or-left-says d k h = negated-fails (both (negated d) (negated k)) (and-left-says (negated d) (negated k) (negated-holds d h))

or-right-says : (d k : Verdict) {r : ℕ} → Judged d → ((q : ℕ) → Says d 1 q → ⊥) → Says k 1 r → Says (either d k) 1 r
or-right-says d k j n h =
    negated-fails (both (negated d) (negated k))
    (and-right-says (negated d) (negated k) (judged-negated j) (λ q x. n q (rw (negated-twice d) at (negated-fails (negated d) x))) (negated-holds k h))

or-both-says : (d k : Verdict) {r q : ℕ} → Says d 0 r → Says k 0 q → Says (either d k) 0 7
or-both-says d k h m = negated-holds (both (negated d) (negated k)) (and-both-says (negated d) (negated k) (negated-fails d h) (negated-fails k m))

-- ---- comparisons

else-said : (r : Reason) (b : Bool) (w : Verdict) → or_else (said r b) w ≡ said r b
else-said r true w = refl
else-said r false w = refl

module _ (a b : Expr) (left right : ℕ → ℕ → Type 0) where
  abbrev T : ℕ → ℕ → ℕ → Type 0
  T = Step a b left right

  -- == or !=
  module _ {o v u : ℕ} (is : Equality o v u) (same : OfSame o v) (equal : Bool)
      (yes' : (r : Reason) → Says (said r (asked equal true)) v (reason_number r))
      (no' : (r : Reason) → Says (said r (asked equal false)) u (reason_number r)) where
    -- the steps in order, from their tests
    abbrev steps : Bool → Option Bool → Bool → Verdict
    steps t c p =
        or_else (cond t (said reason.EqualSides (asked equal true)) Undecided)
        (or_else (on_exact equal c) (cond p (said reason.Parity (asked equal false)) Undecided))

    to-equality : (t : Bool) → same_sides a b ≡ t → (c : Option Bool) → Compared a b c → (p : Bool) → is_one (difference a b) ≡ p
        → (w q : ℕ) → Says (steps t c p) w q → T o w q
    to-equality true t c x p d w q h =
        moved (T o) (sym (yes' reason.EqualSides) ∙ (rw (else-said reason.EqualSides (asked equal true)) at h)) (same-sides same (same-is a b t))
    to-equality false t None (closed n) true d w q h = moved (T o) (sym (no' reason.Parity) ∙ h) (low_bits is (apart-is a b t) n (differ-is a b d))
    to-equality false t None (closed n) false d w q h = open' h
    to-equality false t (Some true) (alike s) p d w q h =
        moved (T o) (sym (yes' reason.ExactSides) ∙ (rw (else-said reason.ExactSides (asked equal true)) at h)) (one_value is (apart-is a b t) s)
    to-equality false t (Some false) (unlike s n) p d w q h =
        moved (T o) (sym (no' reason.ExactSides) ∙ (rw (else-said reason.ExactSides (asked equal false)) at h)) (two-values is (apart-is a b t) s n)

    from_one : {x : ℕ} (c : Option Bool) → Compared a b c → ExactValues a b x x → (p : Bool) → Says (steps false c p) v 5
    from_one {x} None (closed n) s p = absurd (n x x s)
    from_one (Some true) (alike k) s p = rw (else-said reason.ExactSides (asked equal true)) (yes' reason.ExactSides)
    from_one (Some false) (unlike k n) s p = let e = one-pair a b k s in absurd (n (e.0 ∙ sym e.1))

    from-two : {x y : ℕ} (c : Option Bool) → Compared a b c → ExactValues a b x y → (x ≡ y → ⊥) → (p : Bool) → Says (steps false c p) u 5
    from-two {x} {y} None (closed n) s m p = absurd (n x y s)
    from-two (Some true) (alike k) s m p = let e = one-pair a b k s in absurd (m (sym e.0 ∙ e.1))
    from-two (Some false) (unlike k n) s m p = rw (else-said reason.ExactSides (asked equal false)) (no' reason.ExactSides)

    from_low : (c : Option Bool) → Compared a b c → ((x y : ℕ) → ExactValues a b x y → ⊥) → Says (steps false c true) u 6
    from_low None (closed n) m = no' reason.Parity
    from_low (Some true) (alike {x = x} k) m = absurd (m x x k)
    from_low (Some false) (unlike {x = x} {y = y} k n) m = absurd (m x y k)

  -- a relation
  module _ {o v : ℕ} (same : OfSame o v) (e : Bool) (is : Says (said reason.EqualSides e) v 2)
      (on : UnsignedCast a → Zero b → (w q : ℕ) → Says (above_zero o) w q → T o w q)
      (off : Zero a → UnsignedCast b → (w q : ℕ) → Says (above_zero (mirrored o)) w q → T o w q) where
    to-relation : (t : Bool) → same_sides a b ≡ t → (d : Verdict) → Against a b o d
        → (w q : ℕ) → Says (or_else (cond t (said reason.EqualSides e) Undecided) d) w q → T o w q
    to-relation true t d x w q h = moved (T o) (sym is ∙ (rw (else-said reason.EqualSides e) at h)) (same-sides same (same-is a b t))
    to-relation false t d (on-right c z) w q h = on c z w q h
    to-relation false t d (on-left z c) w q h = off z c w q h
    to-relation false t d (neither m n) w q h = open' h

  -- sides of which one is a cast and the other 0 are not the same
  cast-apart : UnsignedCast a → Zero b → Same a b → ⊥
  cast-apart c z s = cast-zero a c (rw (← s.equal) at z)

  zero-apart : Zero a → UnsignedCast b → Same a b → ⊥
  zero-apart z c s = cast-zero b c (rw s.equal at z)

  from-right : (o : ℕ) {v : ℕ} → Says (above_zero o) v 4 → UnsignedCast a → Zero b → Says (or_else (equal_sides o a b) (unsigned_zero o a b)) v 4
  from-right o {v} h c z = rw (is-apart a b (cast-apart c z)) (at (unsigned_zero o a b) (against a b o))
    where
      at : (d : Verdict) → Against a b o d → Says d v 4
      at d (on-right x y) = h
      at d (on-left x y) = absurd (cast-zero b y z)
      at d (neither m n) = absurd (m c z)

  from-left : (o : ℕ) {v : ℕ} → Says (above_zero (mirrored o)) v 4 → Zero a → UnsignedCast b → Says (or_else (equal_sides o a b) (unsigned_zero o a b)) v 4
  from-left o {v} h z c = rw (is-apart a b (zero-apart z c)) (at (unsigned_zero o a b) (against a b o))
    where
      at : (d : Verdict) → Against a b o d → Says d v 4
      at d (on-right x y) = absurd (cast-zero a x z)
      at d (on-left x y) = h
      at d (neither m n) = absurd (n z c)

-- ---- by the operator

data View : ℕ → Type 0 where
  equal : View op_equal
  not_equal : View op_not_equal
  less : View op_less
  at-most : View op_less_equal
  greater : View op_greater
  at_least : View op_greater_equal
  and : View op_logical_and
  or : View op_logical_or
  other : {o : ℕ} → of_equal o ≡ None → ((a b : Expr) (d k : Verdict) → by_operator o a b d k ≡ Undecided) → View o

view : (o : ℕ) → View o
view o =
    by_test (eqb o 10) (λ e. rw (eqb-true o 10 e) equal)
    (λ e. by_test (eqb o 11) (λ f. rw (eqb-true o 11 f) not_equal)
    (λ f. by_test (eqb o 12) (λ g. rw (eqb-true o 12 g) less)
    (λ g. by_test (eqb o 13) (λ h. rw (eqb-true o 13 h) at-most)
    (λ h. by_test (eqb o 14) (λ i. rw (eqb-true o 14 i) greater)
    (λ i. by_test (eqb o 15) (λ j. rw (eqb-true o 15 j) at_least)
    (λ j. by_test (eqb o 16) (λ k. rw (eqb-true o 16 k) and)
    (λ k. by_test (eqb o 17) (λ l. rw (eqb-true o 17 l) or)
    (λ l. other (rw (e, h, j, f, g, i)) (λ a b d c. rw (e, f, g, h, i, j, k, l))))))))))

module _ (a b : Expr) (d k : Verdict) (left right : ℕ → ℕ → Type 0) (l : Means d left) (m : Means k right) (j : Judged d) where
  abbrev said_of : ℕ → Verdict
  said_of o = or_else (equal_sides o a b) (by_operator o a b d k)

  -- equal sides of no comparison say nothing
  skipped : (o : ℕ) → of_equal o ≡ None → (w : Verdict) → or_else (equal_sides o a b) w ≡ w
  skipped o p w = by_test (same_sides a b) (λ t. rw (t, p)) (λ t. rw t)

  there : (o : ℕ) → View o → (v r : ℕ) → Says (said_of o) v r → Step a b left right o v r
  there o equal v r h =
      to-equality a b left right Equality.equal OfSame.equal true (λ r. refl) (λ r. refl) (same_sides a b) refl (exact_sides a b) (compared_is a b) (is_one (difference a b)) refl v r h
  there o not_equal v r h =
      to-equality a b left right Equality.not_equal OfSame.not_equal false (λ r. refl) (λ r. refl) (same_sides a b) refl (exact_sides a b) (compared_is a b) (is_one (difference a b)) refl v r h
  there o less v r h =
      to-relation a b left right OfSame.less false refl (λ c z w q s. moved (Step a b left right op_less) s (below-zero c z)) (λ z c w q s. open' s) (same_sides a b) refl (unsigned_zero op_less a b) (against a b op_less) v r h
  there o at-most v r h =
      to-relation a b left right OfSame.at-most true refl (λ c z w q s. open' s) (λ z c w q s. moved (Step a b left right op_less_equal) s (zero_at_most z c)) (same_sides a b) refl (unsigned_zero op_less_equal a b) (against a b op_less_equal) v r h
  there o greater v r h =
      to-relation a b left right OfSame.greater false refl (λ c z w q s. open' s) (λ z c w q s. moved (Step a b left right op_greater) s (zero-above z c)) (same_sides a b) refl (unsigned_zero op_greater a b) (against a b op_greater) v r h
  there o at_least v r h =
      to-relation a b left right OfSame.at_least true refl (λ c z w q s. moved (Step a b left right op_greater_equal) s (at-least-zero c z)) (λ z c w q s. open' s) (same_sides a b) refl (unsigned_zero op_greater_equal a b) (against a b op_greater_equal) v r h
  there o and v r h = to-and a b left right d k l m v r (sym (ap verdict_numbers (skipped op_logical_and refl (both d k))) ∙ h)
  there o or v r h = to-or a b left right d k l m v r (sym (ap verdict_numbers (skipped op_logical_or refl (either d k))) ∙ h)
  there o (other p n) v r h = by_test (same_sides a b) (λ t. open' (rw (t, p, n a b d k) at h)) (λ t. open' (rw (t, n a b d k) at h))

  back : (o v r : ℕ) → Step a b left right o v r → Says (said_of o) v r
  back o v r (same-sides OfSame.equal s) = rw (is_same a b s)
  back o v r (same-sides OfSame.at-most s) = rw (is_same a b s)
  back o v r (same-sides OfSame.at_least s) = rw (is_same a b s)
  back o v r (same-sides OfSame.not_equal s) = rw (is_same a b s)
  back o v r (same-sides OfSame.less s) = rw (is_same a b s)
  back o v r (same-sides OfSame.greater s) = rw (is_same a b s)
  back o v r (one_value Equality.equal n s) =
      rw (is-apart a b n) (from_one a b left right Equality.equal OfSame.equal true (λ r. refl) (λ r. refl) (exact_sides a b) (compared_is a b) s (is_one (difference a b)))
  back o v r (one_value Equality.not_equal n s) =
      rw (is-apart a b n) (from_one a b left right Equality.not_equal OfSame.not_equal false (λ r. refl) (λ r. refl) (exact_sides a b) (compared_is a b) s (is_one (difference a b)))
  back o v r (two-values Equality.equal n s x) =
      rw (is-apart a b n) (from-two a b left right Equality.equal OfSame.equal true (λ r. refl) (λ r. refl) (exact_sides a b) (compared_is a b) s x (is_one (difference a b)))
  back o v r (two-values Equality.not_equal n s x) =
      rw (is-apart a b n) (from-two a b left right Equality.not_equal OfSame.not_equal false (λ r. refl) (λ r. refl) (exact_sides a b) (compared_is a b) s x (is_one (difference a b)))
  back o v r (low_bits Equality.equal n s x) =
      rw (is-apart a b n, is-differ a b x) (from_low a b left right Equality.equal OfSame.equal true (λ r. refl) (λ r. refl) (exact_sides a b) (compared_is a b) s)
  back o v r (low_bits Equality.not_equal n s x) =
      rw (is-apart a b n, is-differ a b x) (from_low a b left right Equality.not_equal OfSame.not_equal false (λ r. refl) (λ r. refl) (exact_sides a b) (compared_is a b) s)
  back o v r (below-zero c z) = from-right a b left right op_less refl c z
  back o v r (at-least-zero c z) = from-right a b left right op_greater_equal refl c z
  back o v r (zero-above z c) = from-left a b left right op_greater refl z c
  back o v r (zero_at_most z c) = from-left a b left right op_less_equal refl z c
  back o v r (both_hold {p = p} {q = q} x y) = ap verdict_numbers (skipped op_logical_and refl (both d k)) ∙ and-both-says d k ((l 1 p).1 x) ((m 1 q).1 y)
  back o v r (left-fails x) = ap verdict_numbers (skipped op_logical_and refl (both d k)) ∙ and-left-says d k ((l 0 r).1 x)
  back o v r (right-fails n y) =
      ap verdict_numbers (skipped op_logical_and refl (both d k)) ∙ and-right-says d k j (λ q x. n q ((l 0 q).0 x)) ((m 0 r).1 y)
  back o v r (both-fail {p = p} {q = q} x y) = ap verdict_numbers (skipped op_logical_or refl (either d k)) ∙ or-both-says d k ((l 0 p).1 x) ((m 0 q).1 y)
  back o v r (left-holds x) = ap verdict_numbers (skipped op_logical_or refl (either d k)) ∙ or-left-says d k ((l 1 r).1 x)
  back o v r (right-holds n y) =
      ap verdict_numbers (skipped op_logical_or refl (either d k)) ∙ or-right-says d k j (λ q x. n q ((l 1 q).0 x)) ((m 1 r).1 y)

-- The verdict on a condition has a value and a reason exactly where the relation has them; and so it is undecided exactly where the
-- relation has none.
pub reasons : (e : Expr) (value reason : ℕ) → (verdict_numbers (decide e) ≡ decision value reason) ↔ Decided e value reason
unfolding decide Decided
reasons (variable n) v r = (open', λ x. absurd x)
reasons (constant w x) v r = (open', λ x. absurd x)
reasons condition_true v r = (λ h. let p : v ≡ 1 = cc in let q : r ≡ 3 = cc in (p, q), λ h. rw (h.0, h.1))
reasons condition_false v r = (λ h. let p : v ≡ 0 = cc in let q : r ≡ 3 = cc in (p, q), λ h. rw (h.0, h.1))
reasons (effect t) v r = (open', λ x. absurd x)
reasons (load t a) v r = (open', λ x. absurd x)
reasons (cast t a) v r = (open', λ x. absurd x)
reasons (binary o a b) v r = (
  there a b (decide a) (decide b) (Decided a) (Decided b) (reasons a) (reasons b) (judged a) o (view o) v r,
  back a b (decide a) (decide b) (Decided a) (Decided b) (reasons a) (reasons b) (judged a) o v r,
)
reasons (ternary c a b) v r = (open', λ x. absurd x)

-- It is undecided exactly where the relation has nothing.
pub undecided-where : (e : Expr) → (verdict_numbers (decide e) ≡ undecided) ↔ ((value reason : ℕ) → Decided e value reason → ⊥)
undecided-where e = (there', back' (decide e) refl)
  where
    there' : verdict_numbers (decide e) ≡ undecided → (value reason : ℕ) → Decided e value reason → ⊥
    there' h v r d = open' (sym h ∙ (reasons e v r).1 d)

    back' : (d : Verdict) → decide e ≡ d → ((value reason : ℕ) → Decided e value reason → ⊥) → verdict_numbers (decide e) ≡ undecided
    back' (Always p) h n = absurd (n 1 (reason_number p) ((reasons e 1 (reason_number p)).0 (ap verdict_numbers h)))
    back' (Never p) h n = absurd (n 0 (reason_number p) ((reasons e 0 (reason_number p)).0 (ap verdict_numbers h)))
    back' Undecided h n = ap verdict_numbers h
    back' NoBranch h n = absurd (has-branch e h)
