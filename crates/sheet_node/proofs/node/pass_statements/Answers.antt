use Rattle.sheet_node.proofs.Statements.{statement-whole}
use Rattle.sheet_node.proofs.Nodes.{statements-more}
use Rattle.sheet_node.specs.Node.{statements_from}
use Rattle.std.specs.Prelude.{Ok}
use mathlib.Core.Path.{refl, ◌∙◌}
use native.Mathlib.Omega.{arith}
use Rattle.sheet_node.proofs.node.pass_statements.Goals as goal

pub loop-init : goal.loop-init
unfolding statements_from
loop-init c = record { same = refl; place = λ types on. refl }

pub take_statement-requires : goal.take_statement-requires
take_statement-requires c =
    let s = c.args.r.now.bytes.now in let p = c.requires.0 in let l = c.loop in
    (rw l.invariant.same record { types = p.types; on = statement-whole p.types s c.args.r.now.at c.args.n l.counter p.on (omega arith) (l.invariant.place p.types p.on) }, omega arith)

pub loop-preserved : goal.loop-preserved
loop-preserved c =
    let s = c.args.r.now.bytes.now in let from = c.args.r.now.at in let l = c.loop in
    record {
      same = c.take_statement.ensures.same ∙ l.invariant.same;
      place = λ types on.
          let here = l.invariant.place types on in
          (rw l.invariant.same at c.take_statement.ensures.took types (statement-whole types s from c.args.n l.counter on (omega arith) here)).place
          ∙ rw here (statements-more types s (Ok from) l.counter);
    }
