-- `expr::Tree::reads` meets its contract. Assumes nothing.
use mathlib.Core.Path.{◌∙◌}
use Rattle.std.proofs.Common.{rules}
use Rattle.expr.specs.Scan.{is_variable, of_variable}
use Rattle.expr.proofs.Laws.{wf-even}
use Rattle.expr.proofs.Scans.{any-run, any-tree, variable-tag}
use Rattle.expr.proofs.Tree.reads.Goals as goal

pub returns : goal.returns
returns c =
    any-run c.any.ensures.runs.0 (of_variable c.args.v) c.args.self.words.now (search rules) c.any.result (wf-even _ c.args.self.wf) (search rules)
    ∙ any-tree (of_variable c.args.v) (is_variable c.args.v) (variable-tag c.args.v) c.args.self.words.now c.args.self.wf
