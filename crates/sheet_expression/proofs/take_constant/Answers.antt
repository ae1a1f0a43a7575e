use Rattle.std.proofs.Common.{refl}
use Rattle.std.proofs.lemmas.Bool.{eq-eqb, ne_eqb}
use Rattle.sheet_expression.specs.Expression.{constant_at}
use Rattle.sheet_expression.proofs.take_constant.Goals as goal

pub returns-then-kind-eq-CONSTANT-clause-reads : goal.returns-then-kind-eq-CONSTANT-clause-reads
unfolding constant_at
returns-then-kind-eq-CONSTANT-clause-reads c = rw (eq-eqb _ _ c.if-kind-eq-CONSTANT.true) c.take_field.ensures.reads

pub returns-then-kind-eq-CONSTANT-clause-value : goal.returns-then-kind-eq-CONSTANT-clause-value
unfolding constant_at
returns-then-kind-eq-CONSTANT-clause-value c = rw (eq-eqb _ _ c.if-kind-eq-CONSTANT.true) c.take_field.ensures.value

pub returns-else-kind-eq-CONSTANT-clause-reads : goal.returns-else-kind-eq-CONSTANT-clause-reads
unfolding constant_at
returns-else-kind-eq-CONSTANT-clause-reads c = rw (ne_eqb _ _ c.if-kind-eq-CONSTANT.false) (record { same = refl; place = refl })

pub returns-else-kind-eq-CONSTANT-clause-value : goal.returns-else-kind-eq-CONSTANT-clause-value
unfolding constant_at
returns-else-kind-eq-CONSTANT-clause-value c = rw (ne_eqb _ _ c.if-kind-eq-CONSTANT.false) refl
