use Rattle.std.proofs.Common.{refl, sym, ◌∙◌}
use Rattle.parity.proofs.Limits.{past, kept}
use Rattle.exact.proofs.Steps.{seen-constant, seen-cast, seen-binary, seen-other, found}
use Rattle.exact.proofs.+exact.Goals as goal

pub returns-in_err-exact-in-Cast : goal.returns-in_err-exact-in-Cast
returns-in_err-exact-in-Cast t c =
    found (seen-cast _ c.child.ensures.tree) (past _ _ _ c.exact.ensures c.in_err-exact-in-Cast.was c.from_residual.ensures.0)

pub returns-in_err-low_bit-in-Even : goal.returns-in_err-low_bit-in-Even
returns-in_err-low_bit-in-Even t c =
    found (seen-binary _ c.sides.ensures.tree c.shape_of.ensures c.argument.ensures c.in-Even.is)
    (past _ _ _ c.low_bit-in-Even.ensures c.in_err-low_bit-in-Even.was c.from_residual-in_err-low_bit-in-Even.ensures.0)

pub returns-in-Constant : goal.returns-in-Constant
returns-in-Constant t c =
    found (seen-constant _ (sym c.root.ensures ∙ c.in-Constant.is)) (rw c.value.ensures refl)

pub returns-in_ok-exact-in-Cast : goal.returns-in_ok-exact-in-Cast
returns-in_ok-exact-in-Cast t c =
    let k = kept _ _ c.exact.ensures c.in_ok-exact-in-Cast.was in
    found (seen-cast _ c.child.ensures.tree) (rw (k.0, c.at_most_one.ensures, k.1) refl)

pub returns-in-LowLeft : goal.returns-in-LowLeft
returns-in-LowLeft t c =
    found (seen-binary _ c.sides.ensures.tree c.shape_of.ensures c.argument.ensures c.in-LowLeft.is) c.low_bit.ensures

pub returns-in-LowRight : goal.returns-in-LowRight
returns-in-LowRight t c =
    found (seen-binary _ c.sides.ensures.tree c.shape_of.ensures c.argument.ensures c.in-LowRight.is) c.low_bit-in-LowRight.ensures

pub returns-in_ok-low_bit-in-Even : goal.returns-in_ok-low_bit-in-Even
returns-in_ok-low_bit-in-Even t c =
    let k = kept _ _ c.low_bit-in-Even.ensures c.in_ok-low_bit-in-Even.was in
    found (seen-binary _ c.sides.ensures.tree c.shape_of.ensures c.argument.ensures c.in-Even.is) (rw (k.0, c.even_only.ensures, k.1) refl)

pub returns-in-Vanishes : goal.returns-in-Vanishes
returns-in-Vanishes t c =
    found (seen-binary _ c.sides.ensures.tree c.shape_of.ensures c.argument.ensures c.in-Vanishes.is) refl

pub returns-in-Other : goal.returns-in-Other
returns-in-Other t c =
    found (seen-binary _ c.sides.ensures.tree c.shape_of.ensures c.argument.ensures c.in-Other.is) refl

pub returns-in_default : goal.returns-in_default
returns-in_default t c =
    found (seen-other _ (λ h. c.in_default.not-Constant (c.root.ensures ∙ h)) (λ h. c.in_default.not-Cast (c.root.ensures ∙ h)) (λ h. c.in_default.not-Binary (c.root.ensures ∙ h))) refl
