-- `expr::Tree::has_kind` meets its contract. Assumes nothing.
use Rattle.std.proofs.Common.{rules}
use Rattle.expr.specs.Scan.{of_kind}
use Rattle.expr.proofs.Laws.{wf-even}
use Rattle.expr.proofs.Scans.{any-run}
use Rattle.expr.proofs.Tree.has_kind.Goals as goal

pub returns : goal.returns
returns c =
    any-run c.any.ensures.runs.0 (of_kind c.args.k) c.args.self.words.now (search rules) c.any.result (wf-even _ c.args.self.wf) (search rules)
