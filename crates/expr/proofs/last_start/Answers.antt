-- `expr::last_start` meets its contract. The invariant is `Back`: the words before `at` are trees, and passing `left` of them leads to the
-- start that is looked for. The measure is `at`.
-- Assumes nothing.
use native.Mathlib.Omega.{arith}
use Rattle.expr.proofs.Parts.{back_start, back_step, back-few, back_end}
use Rattle.expr.proofs.last_start.Goals as goal

pub loop-left-init : goal.loop-left-init
loop-left-init c =
    back_start c.args.rs.now c.requires.trees c.requires.bound

pub overflow_sub-at : goal.overflow_sub-at
overflow_sub-at c =
    omega (arith, ((back_step c.args.rs.now c.loop-left.at c.loop-left.left (omega arith) c.loop-left.invariant)).0)

pub bounds-rs-at : goal.bounds-rs-at
bounds-rs-at c =
    omega (arith, ((back_step c.args.rs.now c.loop-left.at c.loop-left.left (omega arith) c.loop-left.invariant)).0, c.loop-left.invariant.within)

pub overflow_add-left : goal.overflow_add-left
overflow_add-left c =
    omega (arith, back-few c.args.rs.now _ _ ((back_step c.args.rs.now c.loop-left.at c.loop-left.left (omega arith) c.loop-left.invariant)).1, c.loop-left.invariant.within, c.arity.ensures)

pub loop-left-smaller : goal.loop-left-smaller
loop-left-smaller c =
    omega (arith, ((back_step c.args.rs.now c.loop-left.at c.loop-left.left (omega arith) c.loop-left.invariant)).0)

pub loop-left-preserved : goal.loop-left-preserved
loop-left-preserved c =
    rw c.arity.ensures ((back_step c.args.rs.now c.loop-left.at c.loop-left.left (omega arith) c.loop-left.invariant)).1

pub returns : goal.returns
returns c =
    back_end c.args.rs.now c.loop-left.at c.loop-left.left (omega arith) c.loop-left.invariant
