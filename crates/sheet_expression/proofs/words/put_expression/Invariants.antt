use Rattle.sheet_expression.proofs.Decoding.{up_to}
use Rattle.sheet_expression.proofs.Lists.{Stored}
use Rattle.sheet_expression.specs.Expression.{expression_at}
use Rattle.sheet_field.specs.Field.{little, WentOn}
use Rattle.std.specs.Prelude.{Ok}
use mathlib.Core.Path.{◌≡◌}
use Prim.Native.Nat.{ℕ, ◌≤◌}
use Rattle.sheet_expression.proofs.words.put_expression.Given as goal

abbrev pub invariant-loop-i : goal.invariant-loop-i
invariant-loop-i l =
    let s = l.fn.r.bytes.now in
    let from = l.fn.r.at in
    record {
      same : l.r.bytes.now ≡ s;
      count : l.n ≡ little s from 2;
      few : l.n ≤ 128;
      stored : (variables : ℕ) → WentOn (expression_at variables s (Ok from)).next
          → Stored (up_to variables s from l.i).depth (Ok l.r.at) l.fn.out l.out (up_to variables s from l.i);
    }
