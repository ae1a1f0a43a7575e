use mathlib.Core.Path.{sym, ◌∙◌}
use native.Mathlib.Omega.{arith}
use native.Mathlib.Nat.{le_trans}
use Rattle.std.proofs.Common.{rules}
use Rattle.sheet.proofs.Accepted.{accepted}
use Rattle.sheet.proofs.ByNumber.{front-nodes}
use Rattle.sheet.proofs.Found.{found_at}
use Rattle.sheet.proofs.find_node.Goals as goal

pub offset_bounds-nodes-number : goal.offset_bounds-nodes-number
offset_bounds-nodes-number c =
    record { fits = omega (arith, c.if-number-sheet.true, (accepted _ _ (sym c.read_index.ensures.reading ∙ c.in_ok-sheet.was)).few_nodes) }

pub bounds-nodes-number : goal.bounds-nodes-number
bounds-nodes-number c =
    omega (arith, c.if-number-sheet.true, (accepted _ _ (sym c.read_index.ensures.reading ∙ c.in_ok-sheet.was)).few_nodes)

pub returns-then-number-sheet : goal.returns-then-number-sheet
returns-then-number-sheet c =
    let read = sym c.read_index.ensures.reading ∙ c.in_ok-sheet.was in
    found_at _ _ read c.if-number-sheet.true (front-nodes _ _ read c.in_ok-sheet.ensures.index (le_trans (accepted _ _ read).few_nodes (search rules)))
