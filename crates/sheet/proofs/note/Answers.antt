use Rattle.sheet.proofs.Fronts.{past}
use Rattle.sheet.proofs.note.Goals as goal

pub returns-else-i-list : goal.returns-else-i-list
returns-else-i-list c =
    past _ _ _ c.if-i-list.false
