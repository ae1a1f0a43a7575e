use mathlib.Core.Path.{sym, ◌∙◌}
use native.Mathlib.Nat.{le_trans}
use Rattle.std.proofs.Common.{rules}
use Rattle.sheet.proofs.Accepted.{accepted}
use Rattle.sheet.proofs.ByNumber.{front-addresses, front-places}
use Rattle.sheet.proofs.code.CodeIndex.with_block.Goals as goal

pub new-requires : goal.new-requires
new-requires c =
    let read = sym c.read_index.ensures.reading ∙ c.in_ok-sheet.was in
    let few = (accepted _ _ read).few in
    let index = c.in_ok-sheet.ensures.index in
    record { accepted = read; addressed = front-addresses _ _ read index (le_trans few (search rules)); placed = front-places _ _ read index (le_trans few (search rules)) }
