-- Parity is complete: where the low bits of two sides differ for every choice of atom bits, the sum of their polynomials is 1. At
-- any bits by number the sum is the exclusive or of the low bits for a choice that fits, so it is 1 everywhere, and only one
-- polynomial is.
use Prim.Native.Nat.{ℕ}
use mathlib.Core.Path.{◌≡◌, ◌∙◌}
use mathlib.Core.Bool.{Bool, true, false, cond}
use mathlib.Core.List.{[], ◌∷◌}
use Rattle.expr.specs.Codes.{op_equal, op_not_equal}
use Rattle.expr.specs.Tree.{Expr}
use Rattle.expr.specs.Tree.Expr.{binary}
use Rattle.value.specs.Evaluation.{under}
use Rattle.poly.specs.Meaning.{bits, value}
use Rattle.poly.proofs.Values.{value-sum, ascending-sum}
use Rattle.poly.proofs.Unique.{one-everywhere}
use Rattle.parity.specs.Parity.{parity, difference}
use Rattle.parity.specs.LowBit.{AlwaysDiffer}
use Rattle.exact.specs.Exact.{exact_sides}
use Rattle.decide.specs.Decide.{or_else, equal_sides, on_exact, odd_sides, equality, decide}
use Rattle.verdict.specs.declared.Verdict.{Verdict}
use Rattle.verdict.specs.declared.Verdict.TheVariants.{Always, Never, Undecided, NoBranch}
use Rattle.parity.proofs.Ordered.{parity-ascending}
use Rattle.parity.proofs.Choices.{poly-low, some-choice}

-- Where the low bits always differ, the difference is the polynomial 1.
pub differs-one : (a b : Expr) → AlwaysDiffer a b → difference a b ≡ 0 ∷ []
differs-one a b h = one-everywhere (difference a b) (ascending-sum (parity [] a).poly (parity (parity [] a).atoms b).poly (parity-ascending [] a)) all
  where
    all : (m : ℕ) → value (bits m) (difference a b) ≡ true
    all m =
        let c = some-choice (bits m) a b in
        value-sum (bits m) (parity [] a).poly (parity (parity [] a).atoms b).poly
        ∙ rw (poly-low (bits m) [] c.shared (under 0 c.own) a c.both.left, poly-low (bits m) (parity [] a).atoms c.shared (under 1 c.own) b c.both.right)
        (h c.shared c.own)

-- a later step decides where an earlier one does not
else-decided : (v w : Verdict) → (w ≡ Undecided → ⊥) → or_else v w ≡ Undecided → ⊥
else-decided (Always r) w h e = cc
else-decided (Never r) w h e = cc
else-decided Undecided w h e = h e
else-decided NoBranch w h e = cc

-- No equality, == or !=, is left undecided whose sides' low bits differ for every choice of atom bits.
pub decided : (equal : Bool) (a b : Expr) → AlwaysDiffer a b → decide (binary (cond equal op_equal op_not_equal) a b) ≡ Undecided → ⊥
unfolding decide
decided true a b h =
    else-decided (equal_sides op_equal a b) (equality true a b) (else-decided (on_exact true (exact_sides a b)) (odd_sides true a b) (λ e. cc (rw (differs-one a b h) at e)))
decided false a b h =
    else-decided (equal_sides op_not_equal a b) (equality false a b) (else-decided (on_exact false (exact_sides a b)) (odd_sides false a b) (λ e. cc (rw (differs-one a b h) at e)))
