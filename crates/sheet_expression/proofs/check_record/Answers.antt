use Rattle.sheet_expression.proofs.Checks.{kind-refused, kind-small, argument-refused, argument-small, constant-refused, child-lacking, trees-left, constant_wide, record-checked, record-is}
use Rattle.sheet_field.proofs.Steps.{handed}
use native.Mathlib.Omega.{arith}
use Rattle.sheet_expression.proofs.check_record.Goals as goal

pub returns-in_err-kind-clause-reads : goal.returns-in_err-kind-clause-reads
returns-in_err-kind-clause-reads c = handed c.from_residual.ensures.1 (kind-refused _ _ _ _ c.in_err-kind.ensures.reads)

pub returns-in_err-argument-clause-reads : goal.returns-in_err-argument-clause-reads
returns-in_err-argument-clause-reads c =
    let kind = c.in_ok-kind.ensures in
    handed c.from_residual-in_err-argument.ensures.1 (argument-refused _ _ _ _ kind.reads kind.value c.in_err-argument.ensures.reads)

pub returns-in_err-value-clause-reads : goal.returns-in_err-value-clause-reads
returns-in_err-value-clause-reads c =
    let kind = c.in_ok-kind.ensures in let argument = c.in_ok-argument.ensures in
    handed c.from_residual-in_err-value.ensures.1 (constant-refused _ _ _ _ kind.reads kind.value argument.reads argument.value c.in_err-value.ensures.reads)

pub overflow_mul-tag : goal.overflow_mul-tag
overflow_mul-tag c =
    let kind = c.in_ok-kind.ensures in let argument = c.in_ok-argument.ensures in
    omega (arith, argument-small _ c.args.depth c.args.left _ kind.reads kind.value argument.reads argument.value c.requires.0)

pub overflow_add-tag : goal.overflow_add-tag
overflow_add-tag c =
    let kind = c.in_ok-kind.ensures in let argument = c.in_ok-argument.ensures in
    omega (arith, argument-small _ c.args.depth c.args.left _ kind.reads kind.value argument.reads argument.value c.requires.0, kind-small c.args.variables c.args.depth c.args.left _ kind.reads kind.value)

pub returns-then-depth-arity-clause-reads : goal.returns-then-depth-arity-clause-reads
returns-then-depth-arity-clause-reads c =
    let kind = c.in_ok-kind.ensures in let argument = c.in_ok-argument.ensures in let value = c.in_ok-value.ensures in
    rw c.at.ensures (child-lacking _ _ _ _ kind.reads kind.value argument.reads argument.value value.reads value.value c.arity-arity.ensures c.if-depth-arity.true)

pub returns-then-left-after-clause-reads : goal.returns-then-left-after-clause-reads
returns-then-left-after-clause-reads c =
    let kind = c.in_ok-kind.ensures in let argument = c.in_ok-argument.ensures in let value = c.in_ok-value.ensures in
    rw c.at-then-left-after.ensures
    (trees-left _ _ _ _ kind.reads kind.value argument.reads argument.value value.reads value.value c.arity-arity.ensures c.if-depth-arity.false c.if-left-after.true)

pub returns-then-not-fits_width-clause-reads : goal.returns-then-not-fits_width-clause-reads
returns-then-not-fits_width-clause-reads c =
    let kind = c.in_ok-kind.ensures in let argument = c.in_ok-argument.ensures in let value = c.in_ok-value.ensures in
    rw c.at-then-not-fits_width.ensures
    (constant_wide _ _ _ _ kind.reads kind.value argument.reads argument.value value.reads value.value c.arity-arity.ensures c.if-depth-arity.false c.if-left-after.false c.fits_width.ensures c.if-not-fits_width.true)

pub returns-clause-reads : goal.returns-clause-reads
returns-clause-reads c =
    let kind = c.in_ok-kind.ensures in let argument = c.in_ok-argument.ensures in let value = c.in_ok-value.ensures in
    record-checked _ _ _ _ kind.reads kind.value argument.reads argument.value value.reads value.value c.arity-arity.ensures c.if-depth-arity.false c.if-left-after.false c.fits_width.ensures c.if-not-fits_width.false

pub returns-clause-record : goal.returns-clause-record
returns-clause-record c =
    let kind = c.in_ok-kind.ensures in let argument = c.in_ok-argument.ensures in let value = c.in_ok-value.ensures in
    record-is _ _ _ _ kind.reads kind.value argument.reads argument.value value.reads value.value c.arity-arity.ensures
