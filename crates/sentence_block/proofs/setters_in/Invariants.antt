use Rattle.sheet.specs.Sheet.{sheet_at}
use Rattle.sentence_block.specs.Promises.{Traced}
use Rattle.sentence_block.proofs.setters_in.Given as goal

abbrev pub invariant-loop-i : goal.invariant-loop-i
invariant-loop-i l = Traced (sheet_at l.code.bytes.now).instructions.list l.first l.i l.setters
