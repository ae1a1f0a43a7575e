use Rattle.sheet.proofs.ByNumber.{nth-instruction-on}
use Rattle.sheet.proofs.Again.{whole}
use Rattle.sheet.proofs.code.Code.record.Goals as goal

pub invariant_of-result : goal.invariant_of-result
invariant_of-result c =
    let code = c.args.self.now in
    record { read = whole (nth-instruction-on code.bytes.now code.sheet code.accepted _ code.placed c.requires) }
