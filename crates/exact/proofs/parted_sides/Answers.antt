use Rattle.exact.proofs.Steps.{lent_whole, parted-past, parted-told}
use Rattle.exact.proofs.parted_sides.Goals as goal

pub sides-requires : goal.sides-requires
sides-requires c = lent_whole c.new-atoms.ensures c.requires.sides_len_bound c.requires.buffers

pub returns-in_err-n : goal.returns-in_err-n
returns-in_err-n c =
    parted-past _ _ c.new-atoms.ensures c.sides.ensures c.in_err-n.was c.from_residual.ensures.0

pub returns : goal.returns
returns c =
    parted-told _ _ c.new-atoms.ensures c.sides.ensures c.in_ok-n.was c.is_one.ensures
