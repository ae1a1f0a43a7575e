use Rattle.sheet_expression.proofs.Tables.{zeros-below}
use Rattle.sheet_expression.proofs.stack.Stack.new.Goals as goal

pub invariant_of-result-clause-in_table : goal.invariant_of-result-clause-in_table
invariant_of-result-clause-in_table c =
    zeros-below 130
