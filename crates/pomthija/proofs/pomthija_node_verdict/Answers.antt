use Rattle.pomthija.proofs.Host.{returned-none}
use Rattle.pomthija.proofs.pomthija_node_verdict.Goals as goal

pub unreachable-requires : goal.unreachable-requires
unreachable-requires c =
    returned-none _ _ _ c.node_verdict.ensures c.in-Ok-NoBranch.is c.in-Ok-NoBranch.field-0-is
