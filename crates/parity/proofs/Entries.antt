-- The two tables of what is entered say the same: the low bit that an operator's own rule gives is the one that its way of being
-- entered gives.
use Prim.Native.Nat.{ℕ, zero, suc, ◌%◌, ◌≤◌, ◌<◌}
use mathlib.Core.Path.{◌≡◌, refl, sym}
use mathlib.Core.Bool.{Bool, true, false, cond, not, xor, ◌&&◌, ◌||◌}
use native.Mathlib.Omega.{arith}
use lib.Dec.{eqb, ltb}
use borrow.Author.Tests.{ne_eqb, ltb-true, ltb-false, lt-ltb, le-ltb}
use Rattle.laws.proofs.Booleans.{by_test}
use Rattle.expr.specs.Tree.{Expr}
use Rattle.expr.specs.Tree.Expr.{variable, constant, condition_true, condition_false, effect, load, cast, binary, ternary}
use Rattle.parity.specs.Parity.{constant_of, on_remainder, on_shift, entered}
use Rattle.parity.specs.declared.Entry.{Entry}
use Rattle.parity.specs.declared.Entry.TheVariants.{Both, Keeps, Clears, Atom}
use Rattle.parity.specs.declared.Pair.TheVariants.{Sum, Product, Or}
use Rattle.parity.specs.LowBit.{bit, remainder_by, remainder, shifted_by, shifted, rule_of}
use Rattle.parity.proofs.LowBits.{by_two}

-- a part's low bit from its sides', by how it is entered
abbrev pub bit_of : Entry → Bool → Bool → Bool → Bool
bit_of (Both Sum) x y own = xor x y
bit_of (Both Product) x y own = x && y
bit_of (Both Or) x y own = x || y
bit_of Keeps x y own = x
bit_of Clears x y own = false
bit_of Atom x y own = own

-- the first two operators are entered by both sides, and those that are none of the eight are not entered
pub entered-low : (o : ℕ) (b : Expr) → o < 2 → Both Sum ≡ entered o b
unfolding entered
entered-low zero b h = refl
entered-low (suc zero) b h = refl
entered-low (suc (suc o)) b h = absurd (omega arith)

pub entered-not : (o : ℕ) (b : Expr) → 2 ≤ o → (o ≡ 7 → ⊥) → (o ≡ 2 → ⊥) → (o ≡ 5 → ⊥) → (o ≡ 6 → ⊥) → (o ≡ 4 → ⊥) → (o ≡ 8 → ⊥) → Atom ≡ entered o b
unfolding entered
entered-not o b h h7 h2 h5 h6 h4 h8 =
    rw (ne_eqb o 0 (λ e. omega arith), ne_eqb o 1 (λ e. omega arith), ne_eqb o 7 h7, ne_eqb o 2 h2, ne_eqb o 5 h5, ne_eqb o 6 h6, ne_eqb o 4 h4, ne_eqb o 8 h8)

-- no operator from 9 on is entered
pub beyond : (o : ℕ) → 9 ≤ o → (b : Expr) → entered o b ≡ Atom
beyond o h b =
    sym (entered-not o b (omega arith) (λ e. omega arith) (λ e. omega arith) (λ e. omega arith) (λ e. omega arith) (λ e. omega arith) (λ e. omega arith))

-- one more than an odd number is even
even-after : (n : ℕ) → eqb (suc n % 2) 0 ≡ bit n
even-after n = by_two (λ (r : ℕ). n % 2 ≡ r → eqb (suc n % 2) 0 ≡ eqb r 1)
    (λ e. let odd : suc n % 2 ≡ 1 = omega arith in rw odd)
    (λ e. let even : suc n % 2 ≡ 0 = omega arith in rw even) (n % 2) (omega arith) refl

not-zero : (n : ℕ) → eqb (suc n) 0 ≡ false
not-zero n = ne_eqb (suc n) 0 (λ e. omega arith)

module _ (x y own : Bool) where
  remainder_by_lem : (k : ℕ) → remainder_by x own k ≡ bit_of (cond (not (eqb k 0) && eqb (k % 2) 0) Keeps Atom) x y own
  remainder_by_lem zero = refl
  remainder_by_lem (suc n) = rw (not-zero n, even-after n) (go (bit n))
    where
      go : (t : Bool) → cond t x own ≡ bit_of (cond t Keeps Atom) x y own
      go true = refl
      go false = refl

  remainder-entry : (b : Expr) → remainder b x y own ≡ bit_of (on_remainder (constant_of b)) x y own
  remainder-entry (variable n) = refl
  remainder-entry (constant w k) = remainder_by_lem k
  remainder-entry condition_true = refl
  remainder-entry condition_false = refl
  remainder-entry (effect t) = refl
  remainder-entry (load t a) = refl
  remainder-entry (cast t a) = refl
  remainder-entry (binary o a b) = refl
  remainder-entry (ternary c a b) = refl

  shifted-by : (k : ℕ) → shifted_by x own k ≡ bit_of (cond (eqb k 0) Keeps (cond (ltb k 32) Clears Atom)) x y own
  shifted-by zero = refl
  shifted-by (suc n) = by_test (ltb n 31)
      (λ t. let small : ltb (suc n) 32 ≡ true = lt-ltb (suc n) 32 (omega (arith, ltb-true n 31 t)) in rw (not-zero n, t, small))
      (λ t. let large : ltb (suc n) 32 ≡ false = le-ltb (suc n) 32 (omega (arith, ltb-false n 31 t)) in rw (not-zero n, t, large))

  shifted-entry : (b : Expr) → shifted b x y own ≡ bit_of (on_shift (constant_of b)) x y own
  shifted-entry (variable n) = refl
  shifted-entry (constant w k) = shifted-by k
  shifted-entry condition_true = refl
  shifted-entry condition_false = refl
  shifted-entry (effect t) = refl
  shifted-entry (load t a) = refl
  shifted-entry (cast t a) = refl
  shifted-entry (binary o a b) = refl
  shifted-entry (ternary c a b) = refl

  -- The rule of every operator is how it is entered.
  pub rule-entry : (o : ℕ) (b : Expr) → rule_of o b x y own ≡ bit_of (entered o b) x y own
  unfolding rule_of entered
  rule-entry zero b = refl
  rule-entry (suc zero) b = refl
  rule-entry (suc (suc zero)) b = refl
  rule-entry (suc (suc (suc zero))) b = refl
  rule-entry (suc (suc (suc (suc zero)))) b = remainder-entry b
  rule-entry (suc (suc (suc (suc (suc zero))))) b = refl
  rule-entry (suc (suc (suc (suc (suc (suc zero)))))) b = refl
  rule-entry (suc (suc (suc (suc (suc (suc (suc zero))))))) b = refl
  rule-entry (suc (suc (suc (suc (suc (suc (suc (suc zero)))))))) b = shifted-entry b
  rule-entry (suc (suc (suc (suc (suc (suc (suc (suc (suc o))))))))) b = rw (beyond (suc (suc (suc (suc (suc (suc (suc (suc (suc o))))))))) (omega arith) b) (later o)
    where
      later : (n : ℕ) → rule_of (suc (suc (suc (suc (suc (suc (suc (suc (suc n))))))))) b x y own ≡ own
      later zero = refl
      later (suc zero) = refl
      later (suc (suc zero)) = refl
      later (suc (suc (suc zero))) = refl
      later (suc (suc (suc (suc zero)))) = refl
      later (suc (suc (suc (suc (suc zero))))) = refl
      later (suc (suc (suc (suc (suc (suc zero)))))) = refl
      later (suc (suc (suc (suc (suc (suc (suc zero))))))) = refl
      later (suc (suc (suc (suc (suc (suc (suc (suc zero)))))))) = refl
      later (suc (suc (suc (suc (suc (suc (suc (suc (suc n))))))))) = refl
