use Rattle.std.proofs.Common.{sym, ◌∙◌, ⊎_elim}
use Rattle.exact.proofs.Steps.{seen-constant, seen-cast, seen-binary, seen-other}
use Rattle.exact.proofs.+written.Goals as goal

pub returns-in-Constant : goal.returns-in-Constant
returns-in-Constant t c =
    sym (seen-constant _ (sym c.root.ensures ∙ c.in-Constant.is)).written_is

pub returns-in-Cast : goal.returns-in-Cast
returns-in-Cast t c =
    c.written.ensures ∙ sym (seen-cast _ c.child.ensures.tree).written_is

pub returns-in-LowLeft : goal.returns-in-LowLeft
returns-in-LowLeft t c =
    ⊎_elim
    (λ is. c.written-in-LowLeft.ensures ∙ sym (seen-binary _ c.sides.ensures.tree c.shape_of.ensures c.argument.ensures is).written_is)
    (λ is. c.written-in-LowLeft.ensures ∙ sym (seen-binary _ c.sides.ensures.tree c.shape_of.ensures c.argument.ensures is).written_is)
    c.in-LowLeft.is

pub returns-in-LowRight : goal.returns-in-LowRight
returns-in-LowRight t c =
    c.written-in-LowRight.ensures ∙ sym (seen-binary _ c.sides.ensures.tree c.shape_of.ensures c.argument.ensures c.in-LowRight.is).written_is

pub returns-in-Vanishes : goal.returns-in-Vanishes
returns-in-Vanishes t c =
    ⊎_elim
    (λ is. sym (seen-binary _ c.sides.ensures.tree c.shape_of.ensures c.argument.ensures is).written_is)
    (λ is. sym (seen-binary _ c.sides.ensures.tree c.shape_of.ensures c.argument.ensures is).written_is)
    c.in-Vanishes.is

pub returns-in_default : goal.returns-in_default
returns-in_default t c =
    sym (seen-other _ (λ h. c.in_default.not-Constant (c.root.ensures ∙ h)) (λ h. c.in_default.not-Cast (c.root.ensures ∙ h)) (λ h. c.in_default.not-Binary (c.root.ensures ∙ h))).written_is
