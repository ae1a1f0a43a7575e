use Rattle.sheet_field.proofs.Steps.{handed}
use Rattle.sheet.proofs.take_section.Goals as goal

pub returns-in_err-count-clause-reads : goal.returns-in_err-count-clause-reads
returns-in_err-count-clause-reads c =
    let r = c.in_err-count.ensures.reads in
    handed c.from_residual.ensures.1 (record { same = r.same; place = r.place })

pub returns-clause-reads : goal.returns-clause-reads
returns-clause-reads c = let r = c.in_ok-count.ensures.reads in record { same = r.same; place = r.place }
