use Rattle.std.proofs.Common.{arith}
use Rattle.parity.proofs.Steps.{told, join-few, join-taken, join-ordered}
use Rattle.parity.proofs.join_sides.Goals as goal

pub add-requires : goal.add-requires
add-requires c =
    let t = told c.product_sides.ensures c.in_ok-count.was in
    let long = c.product_sides.auto.scratch in
    let copy = c.copy_to.ensures in
    (omega (arith, join-few c.requires t long copy c.add-sum.ensures, join-taken c.requires t long copy c.add-sum.ensures), join-ordered c.requires t long copy c.add-sum.ensures)
