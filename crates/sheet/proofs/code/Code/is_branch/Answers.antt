use Rattle.sheet.proofs.ByNumber.{nth-branch-is}
use Rattle.sheet.proofs.code.Code.is_branch.Goals as goal

pub returns : goal.returns
returns c =
    let code = c.args.self.now in
    let read = rw (c.record.ensures.bytes, c.record.ensures.at) at c.is_branch.ensures in
    nth-branch-is code.bytes.now code.sheet code.accepted _ code.placed c.requires read
