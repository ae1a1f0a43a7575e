use Rattle.sheet_node.specs.Node.{statements_from}
use Rattle.sheet_field.specs.Field.{WentOn}
use Rattle.std.specs.Prelude.{Ok}
use mathlib.Core.List.{List}
use mathlib.Core.Path.{◌≡◌}
use Prim.Native.Nat.{ℕ}
use Rattle.sheet_node.proofs.node.pass_statements.Given as goal

abbrev pub invariant-loop : goal.invariant-loop
invariant-loop l =
    let s = l.fn.r.bytes.now in
    let from = l.fn.r.at in
    record {
      same : l.r.bytes.now ≡ s;
      place : (types : List ℕ) → WentOn (statements_from types s (Ok from) l.n).next → Ok l.r.at ≡ (statements_from types s (Ok from) l.counter).next;
    }
