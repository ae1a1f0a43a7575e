use Rattle.std.specs.Prelude.{Ok}
use native.Mathlib.Omega.{arith}
use Rattle.sheet_node.proofs.Statements.{took-declared}
use Rattle.evaluate_node.proofs.Run.statement.Goals as goal

pub offset_bounds-self-a : goal.offset_bounds-self-a
offset_bounds-self-a c =
    let types = c.args.self.now.types.now in let on = c.requires.went_on in
    omega (arith, took-declared types c.args.r.now.bytes.now (Ok c.args.r.now.at) (c.in_ok-a.ensures.took types on).assignment on, c.requires.few)

pub bounds-self-a : goal.bounds-self-a
bounds-self-a c =
    let types = c.args.self.now.types.now in let on = c.requires.went_on in
    omega (arith, took-declared types c.args.r.now.bytes.now (Ok c.args.r.now.at) (c.in_ok-a.ensures.took types on).assignment on, c.requires.few)
