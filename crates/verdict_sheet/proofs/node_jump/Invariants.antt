use mathlib.Core.Path.{◌≡◌}
use Prim.Native.Nat.{ℕ, ◌*◌}
use lib.ListN.{take, drop}
use Rattle.std.specs.Prelude.{Ok}
use Rattle.sheet.specs.Sheet.{sheet_at}
use Rattle.sheet_field.specs.Field.{WentOn}
use Rattle.sheet_node.specs.Node.{addresses_from}
use Rattle.verdict_sheet.proofs.Branches.{Jumping}
use Rattle.verdict_sheet.proofs.node_jump.Given as goal

abbrev pub invariant-loop-address : goal.invariant-loop-address
invariant-loop-address l =
    let s = l.index.code.bytes.now in
    (sites n : ℕ) → l.addresses ≡ take (8 * n) (drop sites s) → WentOn (addresses_from s (Ok sites) n).next
    → Jumping s sites (sheet_at s).instructions.list l.addresses l.address-iterator.rest.now l.address-iterator.size l.jump
