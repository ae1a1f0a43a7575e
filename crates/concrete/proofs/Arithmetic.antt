-- The arithmetic of flags, for any half of a range: the carry by a test on the wrapped sum, the overflow by signs.
use Rattle.std.proofs.lemmas.Bool.Decides.{nat_tests}
use Prim.Native.Nat.{ℕ, ◌+◌, ◌-◌, ◌*◌, ◌%◌, ◌≤◌, ◌<◌}
use mathlib.Core.Path.{◌≡◌, ◌∙◌}
use mathlib.Core.Bool.{not, ◌||◌}
use native.Mathlib.Nat.{mod-eq_of_lt, mod-eq-sub-mod}
use native.Mathlib.Omega.{arith}
use lib.Dec.{leb, ltb}
use Rattle.alu.specs.Arithmetic.{signs_overflow}
use Rattle.concrete.specs.Concrete.{lifted}

pub wrap-below : {x M : ℕ} → x < M → x % M ≡ x
wrap-below h = mod-eq_of_lt h

pub wrap-above : {x M : ℕ} → M ≤ x → x < M + M → x % M ≡ x - M
wrap-above {x} {M} h k = mod-eq-sub-mod h ∙ mod-eq_of_lt (omega arith)

-- a sum carries where the wrapped sum is below a term
pub carry-law : (M a b : ℕ) → a < M → b < M → ltb ((a + b) % M) a ≡ leb M (a + b)
carry-law M a b ha hb = grind (arith, nat_tests, wrap-above, wrap-below)

module _ (h a b : ℕ) (ha : a < h + h) (hb : b < h + h) where
  -- the signed sum is out of range where two terms of one sign have a wrapped sum of the other
  pub sum-overflow-law : signs_overflow (leb h a) (leb h b) (leb h ((a + b) % (h + h)))
      ≡ (ltb (lifted h a + lifted h b) h || leb (3 * h) (lifted h a + lifted h b))
  sum-overflow-law = grind (arith, nat_tests, wrap-above, wrap-below)

  -- the signed difference is out of range where two terms of different signs have a wrapped difference that has not the
  -- first one's sign
  pub difference-overflow-law : signs_overflow (leb h a) (not (leb h b)) (leb h ((a + (h + h - b)) % (h + h)))
      ≡ (ltb (lifted h a + h) (lifted h b) || leb (lifted h b + h) (lifted h a))
  difference-overflow-law = grind (arith, nat_tests, wrap-above, wrap-below)
