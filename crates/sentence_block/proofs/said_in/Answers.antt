use mathlib.Core.Path.{refl}
use native.Mathlib.Omega.{arith}
use Prim.Native.Nat.{◌-◌}
use Rattle.sentence_text.specs.Promises.{said_text}
use Rattle.sheet.proofs.InCode.{inside}
use Rattle.sentence_block.proofs.Sentences.{sentence-none, sentence-other, sentence-branch}
use Rattle.sentence_block.proofs.said_in.Goals as goal

pub returns-then-range-first-clause-result_value : goal.returns-then-range-first-clause-result_value
unfolding said_text
returns-then-range-first-clause-result_value c =
    sentence-none _ c.args.range.first c.args.range.end c.if-range-first.true

pub returns-in_err-mnemonic-clause-result_value : goal.returns-in_err-mnemonic-clause-result_value
unfolding said_text
returns-in_err-mnemonic-clause-result_value c =
    rw c.from_residual.ensures
    (sentence-other _ c.args.range.first (c.args.range.end - 1) c.args.range.end (omega (arith, c.if-range-first)) (omega (arith, c.if-range-first)) (inside c.args.code.now c.requires.0) c.jump_at.ensures c.in_err-mnemonic.was)

pub returns-in_err-telling-clause-result_value : goal.returns-in_err-telling-clause-result_value
unfolding said_text
returns-in_err-telling-clause-result_value c =
    rw c.from_residual-in_err-telling.ensures
    (sentence-branch _ c.args.range.first (c.args.range.end - 1) c.args.range.end (omega (arith, c.if-range-first)) (omega (arith, c.if-range-first)) (inside c.args.code.now c.requires.0) c.jump_at.ensures c.in_ok-mnemonic.was c.setters_in-setters.ensures c.telling_at.ensures (λ d. rw c.in_err-telling.was refl))

pub returns-clause-result_value : goal.returns-clause-result_value
returns-clause-result_value c =
    sentence-branch _ c.args.range.first (c.args.range.end - 1) c.args.range.end (omega (arith, c.if-range-first)) (omega (arith, c.if-range-first)) (inside c.args.code.now c.requires.0) c.jump_at.ensures c.in_ok-mnemonic.was c.setters_in-setters.ensures c.telling_at.ensures (λ d. rw c.in_ok-telling.was (c.said_by.ensures.result_value d))
