use Rattle.std.proofs.Common.{sym, rules}
use Rattle.sheet_field.proofs.Steps.{handed, tested-stays, tested-taken, tested-failed}
use Rattle.sheet_field.proofs.Reader.take_checked.Goals as goal

pub returns-in_err-x-clause-reads : goal.returns-in_err-x-clause-reads
returns-in_err-x-clause-reads g c test answers =
    handed c.from_residual.ensures.1 (tested-stays _ test c.args.fault c.take_field.ensures.reads c.in_err-x.was)

pub returns-then-check-clause-reads : goal.returns-then-check-clause-reads
returns-then-check-clause-reads g c test answers =
    (tested-taken _ test c.args.fault c.take_field.ensures.reads c.in_ok-x.was c.take_field.ensures.value (sym (answers c.in_ok-x.x _ (search rules) c.if-check.ensures))).0

pub returns-then-check-clause-value : goal.returns-then-check-clause-value
returns-then-check-clause-value g c test answers =
    (tested-taken _ test c.args.fault c.take_field.ensures.reads c.in_ok-x.was c.take_field.ensures.value (sym (answers c.in_ok-x.x _ (search rules) c.if-check.ensures))).1

pub returns-clause-reads : goal.returns-clause-reads
returns-clause-reads g c test answers =
    tested-failed _ test c.args.fault c.take_field.ensures.reads c.in_ok-x.was c.take_field.ensures.value (sym (answers c.in_ok-x.x _ (search rules) c.if-check.ensures)) c.at.ensures
