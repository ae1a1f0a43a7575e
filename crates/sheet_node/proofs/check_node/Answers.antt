use Rattle.sheet_field.proofs.Steps.{handed}
use Rattle.sheet_node.proofs.Checks.{types-stop, statements-count-ends, statements-stop, condition-ends, node-ends}
use Rattle.sheet_node.proofs.check_node.Goals as goal

pub returns-in_err-types : goal.returns-in_err-types
returns-in_err-types c = handed c.from_residual.ensures.1 (types-stop _ c.in_err-types.ensures.reads)

pub returns-in_err-statements : goal.returns-in_err-statements
returns-in_err-statements c =
    let types = c.in_ok-types.ensures in
    handed c.from_residual-in_err-statements.ensures.1 (statements-count-ends _ types.reads types.types c.in_err-statements.ensures.reads)

pub returns-in_err-check_statements : goal.returns-in_err-check_statements
returns-in_err-check_statements c =
    let types = c.in_ok-types.ensures in let n = c.in_ok-statements.ensures in
    handed c.from_residual-in_err-check_statements.ensures.1 (statements-stop _ types.reads types.types n.reads n.value c.in_err-check_statements.ensures)

pub returns-in_err-check_expression : goal.returns-in_err-check_expression
returns-in_err-check_expression c =
    let types = c.in_ok-types.ensures in let n = c.in_ok-statements.ensures in
    handed c.from_residual-in_err-check_expression.ensures.1 (condition-ends _ types.reads types.types n.reads n.value c.in_ok-check_statements.ensures c.in_err-check_expression.ensures.reads)

pub returns : goal.returns
returns c =
    let types = c.in_ok-types.ensures in let n = c.in_ok-statements.ensures in
    node-ends _ types.reads types.types n.reads n.value c.in_ok-check_statements.ensures c.in_ok-check_expression.ensures.reads c.check_addresses.ensures
