use Rattle.exact.proofs.Steps.{lent_whole, low-past, low-told}
use Rattle.exact.proofs.low_bit.Goals as goal

pub parity-requires : goal.parity-requires
parity-requires c = lent_whole c.new-atoms.ensures c.requires.part_len_bound c.requires.buffers

pub returns-in_err-n : goal.returns-in_err-n
returns-in_err-n c =
    low-past _ c.new-atoms.ensures c.parity.ensures c.in_err-n.was c.from_residual.ensures.0

pub returns : goal.returns
returns c =
    low-told _ c.new-atoms.ensures c.parity.ensures c.in_ok-n.was c.decided_bit.ensures
