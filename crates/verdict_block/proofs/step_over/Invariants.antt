use Rattle.sheet.specs.Sheet.{sheet_at}
use Rattle.machine.specs.Rules.{stepped_all}
use lib.Seq.{slice}
use mathlib.Core.Path.{◌≡◌}
use Rattle.verdict_block.proofs.step_over.Given as goal

abbrev pub invariant-loop-i : goal.invariant-loop-i
invariant-loop-i l = stepped_all l.initial.state (slice l.first l.end (sheet_at l.code.bytes.now).instructions.list)
    ≡ stepped_all l.state (slice l.i l.end (sheet_at l.code.bytes.now).instructions.list)
