use Rattle.expr.specs.Tree.{argument_of}
use Rattle.sheet_expression.proofs.Tables.{variable-below, operator-below, own-type, truth-type}
use Rattle.expr.specs.Types.{record_type}
use native.Mathlib.Omega.{arith}
use mathlib.Core.Path.{sym, ◌∙◌}
use Rattle.sheet_expression.proofs.checked_type.Goals as goal

pub bounds-types-n : goal.bounds-types-n
bounds-types-n c =
    rw c.argument-n.ensures (variable-below _ _ c.requires.0 (sym c.kind.ensures ∙ c.in-0.is))

pub operator_type-requires : goal.operator_type-requires
operator_type-requires c =
    (rw c.argument-n.ensures (operator-below _ _ c.requires.0 (sym c.kind.ensures ∙ c.in-7.is)), c.requires.1, c.requires.2)

pub returns-in-0 : goal.returns-in-0
unfolding record_type
returns-in-0 c =
    rw (← c.kind.ensures, c.in-0.is, ← c.argument-n.ensures) c.from.ensures

pub returns-in-1 : goal.returns-in-1
unfolding record_type
returns-in-1 c =
    rw (← c.kind.ensures, c.in-1.is, ← c.argument-n.ensures) c.constant_type.ensures

pub returns-in-7 : goal.returns-in-7
unfolding record_type
returns-in-7 c =
    rw (← c.kind.ensures, c.in-7.is, ← c.argument-n.ensures) c.operator_type.ensures

pub returns-in-8 : goal.returns-in-8
unfolding record_type
returns-in-8 c =
    rw (← c.kind.ensures, c.in-8.is) c.together.ensures

pub returns-in-4 : goal.returns-in-4
unfolding record_type
returns-in-4 c =
    let a = c.args in rw (← c.kind.ensures, c.argument-n.ensures) (own-type a.types.now (argument_of a.tag) a.a a.b c.kind.result (omega arith) (omega arith))

pub returns-in-2 : goal.returns-in-2
unfolding record_type
returns-in-2 c =
    let a = c.args in rw (← c.kind.ensures) (truth-type a.types.now (argument_of a.tag) a.a a.b c.kind.result (omega arith) (omega arith))
