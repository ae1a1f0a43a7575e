use Rattle.std.proofs.Common.{arith}
use Rattle.sheet_field.proofs.Steps.{handed}
use Rattle.sheet_node.specs.Node.{types_from}
use Rattle.sheet_node.proofs.Checks.{types-count-ends, type-read, type-refused, types-inside, part-few, part-table, types-next, types-are}
use Rattle.sheet_node.proofs.check_types.Goals as goal

pub returns-in_err-n-clause-reads : goal.returns-in_err-n-clause-reads
returns-in_err-n-clause-reads c = handed c.from_residual.ensures.1 (types-count-ends _ c.in_err-n.ensures.reads)

pub loop-init : goal.loop-init
unfolding types_from
loop-init c = c.in_ok-n.ensures.reads

pub returns-in_err-code-clause-reads : goal.returns-in_err-code-clause-reads
returns-in_err-code-clause-reads c = handed c.from_residual-in_err-code.ensures.1 (type-refused _ _ c.loop.invariant c.in_err-code.ensures.reads c.in_ok-n.ensures.value (omega arith))

pub loop-preserved : goal.loop-preserved
loop-preserved c = type-read _ _ c.loop.invariant c.in_ok-code.ensures.reads

pub overflow_add-bytes : goal.overflow_add-bytes
overflow_add-bytes c =
    record { fits = omega (arith, types-inside _ c.in_ok-n.ensures.reads c.in_ok-n.ensures.value c.loop.invariant (omega arith)) }

pub slice_bounds-bytes-end : goal.slice_bounds-bytes-end
slice_bounds-bytes-end c = types-inside _ c.in_ok-n.ensures.reads c.in_ok-n.ensures.value c.loop.invariant (omega arith)

pub invariant_of-result : goal.invariant_of-result
invariant_of-result c =
    let n = c.in_ok-n.ensures in
    record { few = part-few _ n.reads n.value c.loop.invariant (omega arith); in_table = part-table _ n.reads n.value c.loop.invariant (omega arith) }

pub returns-clause-reads : goal.returns-clause-reads
returns-clause-reads c = types-next _ c.in_ok-n.ensures.reads c.in_ok-n.ensures.value c.loop.invariant (omega arith)

pub returns-clause-types : goal.returns-clause-types
returns-clause-types c = types-are _ c.in_ok-n.ensures.reads c.in_ok-n.ensures.value c.loop.invariant (omega arith)
