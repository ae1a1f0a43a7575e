use Rattle.sheet_node.proofs.Statements.{statement-whole}
use Rattle.evaluate_node.proofs.Laws.{none_passed, all-passed, refused-here, passed-more}
use mathlib.Core.Path.{refl, ◌∙◌}
use Rattle.evaluate_node.proofs.Run.statements.Goals as goal

pub loop-init : goal.loop-init
loop-init c = record { types = refl; same = refl; passed = none_passed _ _ _ _ _ }

pub statement-requires-clause-went_on : goal.statement-requires-clause-went_on
statement-requires-clause-went_on c =
    let l = c.loop.invariant in
    rw (l.types, l.same) (statement-whole _ _ _ _ _ c.requires.went_on c.loop-test.true l.passed.place)

pub returns-in_err-statement-clause-state : goal.returns-in_err-statement-clause-state
returns-in_err-statement-clause-state c =
    let l = c.loop.invariant in
    rw c.from_residual.ensures (refused-here _ _ _ _ _ _ l.passed c.loop-test.true (rw (l.types, l.same) at c.in_err-statement.ensures.stepped))

pub loop-preserved : goal.loop-preserved
loop-preserved c =
    let l = c.loop.invariant in let e = c.in_ok-statement.ensures in
    record {
      types = e.types ∙ l.types;
      same = e.same ∙ l.same;
      passed = passed-more _ _ _ _ _ _ l.passed c.loop-test.true c.statement.new.r.at c.statement.new.self.going c.statement.new.self.values (rw (l.types, l.same) at e.stepped);
    }

pub returns-clause-state : goal.returns-clause-state
returns-clause-state c =
    all-passed _ _ _ _ _ _ c.loop.invariant.passed c.loop-test.false c.loop.self.going c.loop.self.values refl
