use mathlib.Core.Path.{◌∙◌}
use Rattle.std.proofs.Common.{rules}
use Rattle.expr.proofs.Laws.{wf-even}
use Rattle.expr.proofs.Scans.{any-run, any-tree}
use Rattle.substitution.specs.Substitution.{ended}
use Rattle.substitution.specs.Held.{table_of, ended_tag}
use Rattle.substitution.proofs.Entries.{ended-tag}
use Rattle.substitution.proofs.Held.reads_ended.Goals as goal

pub returns : goal.returns
returns g c =
    let h = table_of c.args.self.now in
    let words = c.args.value.words.now in
    any-run c.any.ensures.runs.0 (ended_tag c.args.v h) words (search rules) c.any.result (wf-even words c.args.value.wf) (search rules)
    ∙ any-tree (ended_tag c.args.v h) (ended c.args.v h) (ended-tag c.args.v h) words c.args.value.wf
