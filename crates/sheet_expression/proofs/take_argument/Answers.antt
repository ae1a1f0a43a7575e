use Rattle.std.proofs.Common.{rules, refl}
use Rattle.sheet_expression.specs.Expression.{argument_ok, argument_at}
use Rattle.sheet_expression.proofs.take_argument.Goals as goal

pub returns-then-has_argument-clause-reads : goal.returns-then-has_argument-clause-reads
unfolding argument_at
returns-then-has_argument-clause-reads c =
    rw (← c.has_argument.ensures, c.if-has_argument.true) (c.take_checked.ensures.reads (argument_ok c.args.variables c.args.kind) (λ x b lt answers. search rules))

pub returns-then-has_argument-clause-value : goal.returns-then-has_argument-clause-value
unfolding argument_at
returns-then-has_argument-clause-value c =
    rw (← c.has_argument.ensures, c.if-has_argument.true) (c.take_checked.ensures.value (argument_ok c.args.variables c.args.kind) (λ x b lt answers. search rules))

pub returns-else-has_argument-clause-reads : goal.returns-else-has_argument-clause-reads
unfolding argument_at
returns-else-has_argument-clause-reads c = rw (← c.has_argument.ensures, c.if-has_argument.false) (record { same = refl; place = refl })

pub returns-else-has_argument-clause-value : goal.returns-else-has_argument-clause-value
unfolding argument_at
returns-else-has_argument-clause-value c = rw (← c.has_argument.ensures, c.if-has_argument.false) refl
