-- Types that operands are taken at: never bool, at least 32 bits wide, and wide enough for the values of both operands.
use Prim.Native.Nat.{ℕ, zero, suc, ◌*◌, ◌^◌, ◌<◌, ◌≤◌}
use mathlib.Core.Path.{◌≡◌, refl, sym, ◌∙◌}
use mathlib.Core.Bool.{Bool, true, false, cond, ◌&&◌, false≢true}
use native.Mathlib.Nat.{pow-le-pow_right, mod-eq_of_lt, two-pow-succ}
use native.Mathlib.Omega.{arith}
use lib.Dec.{eqb, leb, ltb}
use lib.IntN.{pos}
use borrow.Author.Tests.{ne_eqb, eqb-true, ltb-true, ltb-false, lt-leb}
use Rattle.expr.specs.Codes.{signed32, unsigned8, unsigned16, unsigned32, unsigned64, pointer, bool, no_type}
use Rattle.expr.specs.Types.{bits, signed, plain_type, promoted, common, together, constant_type}
use Rattle.arith.specs.Numbers.{negative, number, residue, convert}
use Rattle.arith.proofs.Laws.{number-plain}

-- what is asked of a type that operands are taken at
pub record Taken (t : ℕ) : Type 0 where
  pub number : eqb t bool ≡ false
  pub wide : 32 ≤ bits t

plain-bits : (t : ℕ) → bits (plain_type t) ≡ bits t
unfolding plain_type bits
plain-bits t = go (eqb t pointer) refl
  where
    go : (b : Bool) → eqb t pointer ≡ b → bits (cond b unsigned64 t) ≡ bits t
    go true e = rw (eqb-true t pointer e)
    go false e = refl

-- a type with many bits is not bool
not_bool : (t : ℕ) → 32 ≤ bits t → eqb t bool ≡ false
unfolding bits
not_bool t h = ne_eqb t bool (λ e. narrow (rw e at h))
  where
    narrow : 32 ≤ bits bool → ⊥
    narrow h = omega arith

wide-taken : (t : ℕ) → 32 ≤ bits t → Taken t
wide-taken t h = record { number = not_bool t h; wide = h }

-- promotion takes no bit away
pub promoted-wider : (t : ℕ) → (bits t ≤ bits (promoted t)) × (32 ≤ bits (promoted t))
unfolding promoted bits
promoted-wider t = go (ltb (bits t) 32) refl
  where
    thirty_two : bits signed32 ≡ 32
    thirty_two = refl

    go : (b : Bool) → ltb (bits t) 32 ≡ b → (bits t ≤ bits (cond b signed32 (plain_type t))) × (32 ≤ bits (cond b signed32 (plain_type t)))
    go true e = rw thirty_two (omega (arith, ltb-true (bits t) 32 e), omega arith)
    go false e = rw (plain-bits t) (omega arith, ltb-false (bits t) 32 e)

pub promoted-taken : (t : ℕ) → Taken (promoted t)
promoted-taken t = wide-taken (promoted t) (promoted-wider t).1

-- the common type has the bits of the wider one
common-wider : (a b : ℕ) → (bits a ≤ bits (common a b)) × (bits b ≤ bits (common a b))
unfolding common
common-wider a b = go (ltb (bits a) (bits b)) refl (ltb (bits b) (bits a)) refl (signed a)
  where
    go : (x : Bool) → ltb (bits a) (bits b) ≡ x → (y : Bool) → ltb (bits b) (bits a) ≡ y → (z : Bool)
        → (bits a ≤ bits (cond x b (cond y a (cond z b a)))) × (bits b ≤ bits (cond x b (cond y a (cond z b a))))
    go true e y g z = (omega (arith, ltb-true (bits a) (bits b) e), omega arith)
    go false e true g z = (omega arith, omega (arith, ltb-true (bits b) (bits a) g))
    go false e false g true = (omega (arith, ltb-false (bits b) (bits a) g), omega arith)
    go false e false g false = (omega arith, omega (arith, ltb-false (bits a) (bits b) e))

pub wider_left : (s t : ℕ) → bits s ≤ bits (together s t)
wider_left s t = let p = (promoted-wider s).0 in let q = (common-wider (promoted s) (promoted t)).0 in omega arith

pub wider_right : (s t : ℕ) → bits t ≤ bits (together s t)
wider_right s t = let p = (promoted-wider t).0 in let q = (common-wider (promoted s) (promoted t)).1 in omega arith

pub together-taken : (s t : ℕ) → Taken (together s t)
together-taken s t =
    let p = (promoted-wider s).1 in let q = (common-wider (promoted s) (promoted t)).0 in wide-taken (together s t) (omega arith)

pub constant_wide : (w : ℕ) → 8 ≤ bits (constant_type w)
unfolding constant_type bits
constant_wide w = go (eqb w 1) (eqb w 2) (eqb w 4) (eqb w 8)
  where
    go : (x y z v : Bool) → 8 ≤ bits (cond x unsigned8 (cond y unsigned16 (cond z unsigned32 (cond v unsigned64 no_type))))
    go true y z v = omega arith
    go false true z v = omega arith
    go false false true v = omega arith
    go false false false true = omega arith
    go false false false false = omega arith

pub constant-unsigned : (w : ℕ) → signed (constant_type w) ≡ false
unfolding constant_type
constant-unsigned w = go (eqb w 1) (eqb w 2) (eqb w 4) (eqb w 8)
  where
    go : (x y z v : Bool) → signed (cond x unsigned8 (cond y unsigned16 (cond z unsigned32 (cond v unsigned64 no_type)))) ≡ false
    go true y z v = refl
    go false true z v = refl
    go false false true v = refl
    go false false false true = refl
    go false false false false = refl

-- a pattern of a type without a sign stands for itself
pub unsigned-plain : (t x : ℕ) → signed t ≡ false → number t x ≡ pos x
unfolding negative
unsigned-plain t x e = number-plain t x (rw e)

pub constant-plain : (w x : ℕ) → number (constant_type w) x ≡ pos x
constant-plain w x = unsigned-plain (constant_type w) x (constant-unsigned w)

-- and so does a small one of a type with one
below_half : (t x : ℕ) → 2 * x < 2 ^ bits t → number t x ≡ pos x
unfolding negative
below_half t x h = number-plain t x (go (signed t))
  where
    go : (b : Bool) → (b && leb (2 ^ bits t) (2 * x)) ≡ false
    go true = lt-leb (2 ^ bits t) (2 * x) h
    go false = refl

-- a type with a sign has 8 bits at least
signed-wide : (t : ℕ) → signed t ≡ true → 8 ≤ bits t
unfolding bits
signed-wide zero e = omega arith
signed-wide (suc zero) e = omega arith
signed-wide (suc (suc zero)) e = omega arith
signed-wide (suc (suc (suc zero))) e = omega arith
signed-wide (suc (suc (suc (suc t)))) e = let h = ltb-true (suc (suc (suc (suc t)))) unsigned8 e in absurd (omega arith)

pub small_plain : (t v : ℕ) → v ≤ 1 → number t v ≡ pos v
small_plain t v h = go (signed t) refl
  where
    go : (b : Bool) → signed t ≡ b → number t v ≡ pos v
    go true e = let room : 2 ^ 8 ≤ 2 ^ bits t = pow-le-pow_right (omega arith) (signed-wide t e) in below_half t v (omega arith)
    go false e = unsigned-plain t v e

-- Without a sign on either side, what both are converted to is not negative: either their common type has no sign, or both are
-- narrower than it.
promoted-sign : (t : ℕ) → signed t ≡ false → signed (promoted t) ≡ true → (bits t < 32) × (bits (promoted t) ≡ 32)
unfolding promoted bits plain_type
promoted-sign t p = go (ltb (bits t) 32) refl (eqb t pointer)
  where
    go : (b : Bool) → ltb (bits t) 32 ≡ b → (c : Bool) → signed (cond b signed32 (cond c unsigned64 t)) ≡ true
        → (bits t < 32) × (bits (cond b signed32 (cond c unsigned64 t)) ≡ 32)
    go true e c h = (ltb-true (bits t) 32 e, refl)
    go false e true h = absurd (false≢true h)
    go false e false h = absurd (false≢true (sym p ∙ h))

signed-together : (s t : ℕ) → signed s ≡ false → signed t ≡ false → signed (together s t) ≡ true
    → (bits s < bits (together s t)) × (bits t < bits (together s t))
unfolding common
signed-together s t p q = go (ltb (bits a) (bits b)) refl (ltb (bits b) (bits a)) refl (signed a) refl
  where
    a : ℕ
    a = promoted s

    b : ℕ
    b = promoted t

    go : (x : Bool) → ltb (bits a) (bits b) ≡ x → (y : Bool) → ltb (bits b) (bits a) ≡ y → (z : Bool) → signed a ≡ z
        → signed (cond x b (cond y a (cond z b a))) ≡ true
        → (bits s < bits (cond x b (cond y a (cond z b a)))) × (bits t < bits (cond x b (cond y a (cond z b a))))
    go true e y g z k h =
        let right = promoted-sign t q h in let left = (promoted-wider s).1 in let less = ltb-true (bits a) (bits b) e in absurd (omega arith)
    go false e true g z k h =
        let left = promoted-sign s p h in let right = (promoted-wider t).1 in let less = ltb-true (bits b) (bits a) g in absurd (omega arith)
    go false e false g true k h =
        let right = promoted-sign t q h in let left = promoted-sign s p k in (omega arith, omega arith)
    go false e false g false k h = absurd (false≢true (sym k ∙ h))

-- a narrower pattern without a sign
not_negative : (s t x : ℕ) → signed s ≡ false → 32 ≤ bits t → x < 2 ^ bits s → (signed t ≡ true → bits s < bits t) → negative t (convert s t x) ≡ false
unfolding negative convert residue
not_negative s t x p wide h narrow = go (signed t) refl
  where
    go : (b : Bool) → signed t ≡ b → (b && leb (2 ^ bits t) (2 * cond (eqb t bool) (cond (eqb x 0) 0 1) (residue (2 ^ bits t) (number s x)))) ≡ false
    go false e = refl
    go true e =
        let room : 2 ^ suc (bits s) ≤ 2 ^ bits t = pow-le-pow_right (omega arith) (narrow e) in
        let less : x < 2 ^ bits t = omega (arith, two-pow-succ (bits s)) in
        rw (not_bool t wide, unsigned-plain s x p, mod-eq_of_lt less) (lt-leb (2 ^ bits t) (2 * x) (omega (arith, two-pow-succ (bits s))))

pub unsigned-left : (s t x : ℕ) → signed s ≡ false → signed t ≡ false → x < 2 ^ bits s → negative (together s t) (convert s (together s t) x) ≡ false
unsigned-left s t x p q h = not_negative s (together s t) x p (together-taken s t).wide h (λ e. (signed-together s t p q e).0)

pub unsigned-right : (s t y : ℕ) → signed s ≡ false → signed t ≡ false → y < 2 ^ bits t → negative (together s t) (convert t (together s t) y) ≡ false
unsigned-right s t y p q h = not_negative t (together s t) y q (together-taken s t).wide h (λ e. (signed-together s t p q e).1)
