-- Each case is a law of proofs/Judged.antt.
use Rattle.std.proofs.Common.{◌≤◌, ◌<◌, ◌+◌, refl, sym, ◌∙◌, arith}
use Rattle.parity.proofs.Limits.{kept, failed}
use Rattle.decide.proofs.Judged.{one-of-two, neither, decide-true, decide-false, decide-other, halves-kept, halves-past, decide-equality, decide-relation}
use Rattle.decide.proofs.+decide.Goals as goal
use Rattle.decide.proofs.+decide.Goals.{in_default-operator-via-then-this-lt10, in_default-operator-via-else-this-lt10+else-this-lt12}

pub returns-in_err-decide-in-16 : goal.returns-in_err-decide-in-16
returns-in_err-decide-in-16 t c =
    halves-past _ c.sides.ensures.tree c.argument-operator.ensures (rw c.in-16.is refl)
    (rw (failed _ _ c.decide.ensures c.in_err-decide-in-16.was) refl) c.from_residual.ensures.0

pub returns-in_err-decide-in-16-2 : goal.returns-in_err-decide-in-16-2
returns-in_err-decide-in-16-2 t c =
    halves-past _ c.sides.ensures.tree c.argument-operator.ensures (rw c.in-16.is refl)
    (rw ((kept _ _ c.decide.ensures c.in_ok-decide-in-16.was).0, failed _ _ c.decide-in-16.ensures c.in_err-decide-in-16-2.was) refl) c.from_residual-in_err-decide-in-16-2.ensures.0

pub returns-in_ok-decide-in-16-2 : goal.returns-in_ok-decide-in-16-2
returns-in_ok-decide-in-16-2 t c =
    let a = kept _ _ c.decide.ensures c.in_ok-decide-in-16.was in
    let b = kept _ _ c.decide-in-16.ensures c.in_ok-decide-in-16-2.was in
    halves-kept _ c.sides.ensures.tree c.argument-operator.ensures (rw c.in-16.is refl) a.0 b.0 (rw (c.in-16.is, c.both.ensures, a.1, b.1) refl)

pub returns-in_err-decide-in-17 : goal.returns-in_err-decide-in-17
returns-in_err-decide-in-17 t c =
    halves-past _ c.sides.ensures.tree c.argument-operator.ensures (rw c.in-17.is refl)
    (rw (failed _ _ c.decide-in-17.ensures c.in_err-decide-in-17.was) refl) c.from_residual-in_err-decide-in-17.ensures.0

pub returns-in_err-decide-in-17-2 : goal.returns-in_err-decide-in-17-2
returns-in_err-decide-in-17-2 t c =
    halves-past _ c.sides.ensures.tree c.argument-operator.ensures (rw c.in-17.is refl)
    (rw ((kept _ _ c.decide-in-17.ensures c.in_ok-decide-in-17.was).0, failed _ _ c.decide-in-17-2.ensures c.in_err-decide-in-17-2.was) refl) c.from_residual-in_err-decide-in-17-2.ensures.0

pub returns-in_ok-decide-in-17-2 : goal.returns-in_ok-decide-in-17-2
returns-in_ok-decide-in-17-2 t c =
    let a = kept _ _ c.decide-in-17.ensures c.in_ok-decide-in-17.was in
    let b = kept _ _ c.decide-in-17-2.ensures c.in_ok-decide-in-17-2.was in
    halves-kept _ c.sides.ensures.tree c.argument-operator.ensures (rw c.in-17.is refl) a.0 b.0 (rw (c.in-17.is, c.either.ensures, a.1, b.1) refl)

pub returns-in-True : goal.returns-in-True
returns-in-True t c =
    decide-true _ (sym c.root.ensures ∙ c.in-True.is)

pub returns-in-False : goal.returns-in-False
returns-in-False t c =
    decide-false _ (sym c.root.ensures ∙ c.in-False.is)

pub returns-in-10 : goal.returns-in-10
returns-in-10 t c =
    let low : 10 ≤ c.argument-operator.result = omega arith in
    let high : c.argument-operator.result < 10 + 2 = omega arith in
    decide-equality _ c.sides.ensures.tree c.argument-operator.ensures (one-of-two low high) c.equality_in.ensures

pub returns-in-10-2 : goal.returns-in-10-2
returns-in-10-2 t c =
    let low : 10 ≤ c.argument-operator.result = omega arith in
    let high : c.argument-operator.result < 10 + 2 = omega arith in
    decide-equality _ c.sides.ensures.tree c.argument-operator.ensures (one-of-two low high) c.equality_in-in-10-2.ensures

pub returns-in_default-operator : goal.returns-in_default-operator
returns-in_default-operator t c =
    elim c.in_default-operator.branch [
      | in_default-operator-via-then-this-lt10 w ↦
          decide-relation _ c.sides.ensures.tree c.argument-operator.ensures (neither c.argument-operator.result 16 (λ e. omega arith) (λ e. omega arith)) (neither c.argument-operator.result 10 (λ e. omega arith) (λ e. omega arith)) c.relation.ensures
      | in_default-operator-via-else-this-lt10+else-this-lt12 w ↦
          decide-relation _ c.sides.ensures.tree c.argument-operator.ensures (neither c.argument-operator.result 16 (λ e. omega arith) (λ e. omega arith)) (neither c.argument-operator.result 10 (λ e. omega arith) (λ e. omega arith)) c.relation.ensures
    ]

pub returns-in_default : goal.returns-in_default
returns-in_default t c =
    decide-other _ (λ h. c.in_default.not-True (c.root.ensures ∙ h)) (λ h. c.in_default.not-False (c.root.ensures ∙ h)) (λ h. c.in_default.not-Binary (c.root.ensures ∙ h))
