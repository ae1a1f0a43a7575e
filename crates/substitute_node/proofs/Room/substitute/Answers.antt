use mathlib.Core.Path.{refl, ap, ◌∙◌}
use Rattle.expr.specs.Tree.{tree_of}
use Rattle.substitute_node.proofs.Passing.{condition_read, made_node}
use Rattle.substitute_node.proofs.Room.substitute.Goals as goal

pub returns : goal.returns
returns g c =
    let passed = c.in_ok-take_statements.ensures in
    let e = c.take_expression-condition.ensures in
    let read = condition_read _ _ _ passed.passed.0 c.requires.went_on_2 (rw passed.same at e.took) in
    record { same = e.same ∙ passed.same; made = made_node _ _ passed.passed.1 (ap tree_of read.words) c.substitute.result c.substitute.ensures _ read.place refl }
