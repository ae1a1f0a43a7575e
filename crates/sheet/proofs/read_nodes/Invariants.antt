use Rattle.std.proofs.Common.{◌≡◌, Ok}
use Rattle.sheet_field.specs.Reads.{Reads}
use Rattle.sheet.specs.Index.{over}
use Rattle.sheet.specs.Sheet.{nodes_from}
use Rattle.sheet.proofs.read_nodes.Given as goal

abbrev pub invariant-loop-i : goal.invariant-loop-i
invariant-loop-i l =
    Reads l.fn.r l.r (Ok l.n) (nodes_from l.fn.r.bytes.now (Ok l.fn.r.at) l.i).next × (l.places ≡ over (nodes_from l.fn.r.bytes.now (Ok l.fn.r.at) l.i).places l.initial.places)
