use Rattle.std.specs.Prelude.{Ok}
use Rattle.substitute_node.proofs.Passing.{stepped_other}
use Rattle.sheet_node.specs.Node.{statement_at}
use Rattle.sheet_node.proofs.Statements.{took-declared}
use native.Mathlib.Omega.{arith}
use mathlib.Core.Path.{ap}
use Rattle.std.proofs.Common.{rules, length}
use Rattle.substitute_node.proofs.Room.take_statement.Goals as goal

pub take_assignment-requires : goal.take_assignment-requires
take_assignment-requires g c =
    let took = c.in-Some.ensures.took c.args.types.now c.requires.went_on in
    let declared = took-declared c.args.types.now c.args.r.now.bytes.now (Ok c.args.r.now.at) took.assignment c.requires.went_on in
    (search rules, (omega (arith, declared, c.requires.few), omega (arith, took.assignment.few, ap length took.assignment.words)))

pub returns-then-not-self-clause-stepped : goal.returns-then-not-self-clause-stepped
returns-then-not-self-clause-stepped g c =
    let took = c.take_statement.ensures.took c.args.types.now c.requires.went_on in
    let none = rw c.in_default.is at took.assignment in
    (took.place, λ rest e. rw c.clear.ensures (stepped_other _ (statement_at c.args.types.now c.args.r.now.bytes.now (Ok c.args.r.now.at)) none rest e))

pub returns-else-not-self-clause-stepped : goal.returns-else-not-self-clause-stepped
returns-else-not-self-clause-stepped g c =
    let took = c.take_statement.ensures.took c.args.types.now c.requires.went_on in
    let none = rw c.in_default.is at took.assignment in
    let free = c.requires.idle c.if-not-self.false in
    (took.place, λ rest e. rw free (stepped_other _ (statement_at c.args.types.now c.args.r.now.bytes.now (Ok c.args.r.now.at)) none rest e))
