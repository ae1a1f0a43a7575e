use Rattle.sheet.proofs.ByNumber.{nth-target-is}
use Rattle.sheet.proofs.code.Code.nth_target.Goals as goal

pub returns : goal.returns
returns c =
    let code = c.args.self.now in
    let read = rw (c.record.ensures.bytes, c.record.ensures.at) at c.target.ensures in
    nth-target-is code.bytes.now code.sheet code.accepted _ code.placed c.requires read
