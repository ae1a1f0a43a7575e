use Rattle.sheet.proofs.ByNumber.{nth-mnemonic-is}
use Rattle.sheet.proofs.code.Code.nth_mnemonic.Goals as goal

pub returns : goal.returns
returns c =
    let code = c.args.self.now in
    let read = rw (c.record.ensures.bytes, c.record.ensures.at) at c.mnemonic.ensures in
    nth-mnemonic-is code.bytes.now code.sheet code.accepted _ code.placed c.requires read
