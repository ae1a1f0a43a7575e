use native.Mathlib.Omega.{arith}
use Rattle.listing.proofs.Printed.{count-few, lines-text, refusal-text}
use Rattle.listing.proofs.text_of.Goals as goal

pub write_branches-requires : goal.write_branches-requires
write_branches-requires c =
    let few = count-few c.args.s.now c.args.list.now c.requires.list_len c.listing.ensures.0 c.in-Ok.is in
    record { count_in_bounds = omega (arith, few, c.requires.list_len, c.listing.auto); lines_in_bounds = omega (arith, few, c.requires.in_bounds) }

pub returns-in-Ok : goal.returns-in-Ok
returns-in-Ok c =
    lines-text c.args.s.now c.args.list.now c.requires.list_len (omega arith) c.listing.ensures.0 c.in-Ok.is c.listing.ensures.1 c.write_branches.ensures

pub returns-in-Err : goal.returns-in-Err
returns-in-Err c =
    refusal-text c.args.s.now c.args.list.now c.requires.list_len (omega arith) c.listing.ensures.0 c.in-Err.is c.number-in-Err.ensures c.write_refusal-in-Err.ensures
