use Rattle.sheet_node.proofs.Checks.{map-ends, other-ends, variable-ends, value-ends, value-declared, types-differ, types_same}
use Rattle.sheet_field.proofs.Steps.{handed}
use Rattle.sheet_node.proofs.check_statement.Goals as goal

pub returns-in_err-map : goal.returns-in_err-map
returns-in_err-map c = handed c.from_residual.ensures.1 (map-ends _ _ c.in_err-map.ensures.reads)

pub returns-then-map-ne3 : goal.returns-then-map-ne3
returns-then-map-ne3 c =
    let map = c.in_ok-map.ensures in
    other-ends _ _ map.reads map.value c.if-map-ne3.true

pub returns-in_err-v : goal.returns-in_err-v
returns-in_err-v c =
    let map = c.in_ok-map.ensures in
    handed c.from_residual-in_err-v.ensures.1 (variable-ends _ _ map.reads map.value c.if-map-ne3.false c.in_err-v.ensures.reads)

pub returns-in_err-t : goal.returns-in_err-t
returns-in_err-t c =
    let map = c.in_ok-map.ensures in let v = c.in_ok-v.ensures in
    handed c.from_residual-in_err-t.ensures.1 (value-ends _ _ map.reads map.value c.if-map-ne3.false v.reads v.value c.in_err-t.ensures.reads)

pub bounds-types-v : goal.bounds-types-v
bounds-types-v c =
    let map = c.in_ok-map.ensures in let v = c.in_ok-v.ensures in
    value-declared _ _ map.reads map.value c.if-map-ne3.false v.reads v.value

pub returns-then-same_type : goal.returns-then-same_type
returns-then-same_type c =
    let map = c.in_ok-map.ensures in let v = c.in_ok-v.ensures in let t = c.in_ok-t.ensures in
    types_same _ _ map.reads map.value c.if-map-ne3.false v.reads v.value t.reads t.typing (rw c.from.ensures at c.same_type.ensures) c.if-same_type.true

pub returns-else-same_type : goal.returns-else-same_type
returns-else-same_type c =
    let map = c.in_ok-map.ensures in let v = c.in_ok-v.ensures in let t = c.in_ok-t.ensures in
    rw c.at.ensures (types-differ _ _ map.reads map.value c.if-map-ne3.false v.reads v.value t.reads t.typing (rw c.from.ensures at c.same_type.ensures) c.if-same_type.false)
