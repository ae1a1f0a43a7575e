use Rattle.sheet_accepted.proofs.Records.{content_on, instruction_is}
use Rattle.sheet_accepted.proofs.Record.instruction.Goals as goal

pub take_content-content-requires : goal.take_content-content-requires
take_content-content-requires c =
    let r = c.new-r.ensures in rw (r.bytes, r.at) (content_on _ _ c.args.self.now.read c.map-map.ensures c.operands.ensures)

pub returns : goal.returns
returns c =
    let r = c.new-r.ensures in
    instruction_is _ _ c.args.self.now.read c.map-map.ensures c.operands.ensures c.address.ensures c.mnemonic.ensures c.target.ensures c.is_in.ensures (rw (r.bytes, r.at) at c.take_content-content.ensures)
