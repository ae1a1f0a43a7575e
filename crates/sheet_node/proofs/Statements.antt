-- Laws of statements: what their readers leave, and one after the other.
use Prim.Native.Nat.{ℕ, ◌+◌, ◌*◌, ◌≤◌, ◌<◌}
use mathlib.Core.Path.{◌≡◌, ◌∙◌}
use mathlib.Core.List.{List}
use native.Mathlib.Omega.{arith}
use lib.ListN.{length, drop, take}
use lib.Seq.{take_at}
use Rattle.std.specs.Prelude.{Option, Some, Ok}
use Rattle.sheet_field.specs.Field.{Place, WentOn}
use Rattle.expr.specs.Tree.{Wf}
use Rattle.sheet_node.proofs.Nodes.{statements-more}
use Rattle.sheet_node.proofs.Accepted.{statements-back, assigned}
use Rattle.sheet_node.specs.declared.node.Assignment.{Assignment}
use Rattle.sheet_node.specs.declared.node.Put.{Put}
use Rattle.sheet_node.specs.Node.{StatementRead, statement_at, statements_from}
use Rattle.sheet_node.specs.Promises.{records_put, PutStatement, TookAssignment}

-- a statement whose words were put: they stand at the start of the list
pub took-words : {f : Option Put} {at : ℕ} {before after : List ℕ} {r : StatementRead} → PutStatement f at before after r
    → take (2 * records_put f) after ≡ r.words
took-words {f} {before = before} {r = r} put = rw put.list (take_at r.words (drop (2 * records_put f) before) (2 * records_put f) put.size)

-- an assignment whose words were put: they are one tree of at most 128 records, and its variable is declared
pub record TookAssigned (types : List ℕ) (variable : ℕ) (words : List ℕ) : Type 0 where
  pub tree : Wf words
  pub short : length words ≤ 256
  pub declared : variable < length types

pub took-assigned : (types s : List ℕ) (p : Place) {f : Put} {at : ℕ} {before after : List ℕ} → PutStatement (Some f) at before after (statement_at types s p)
    → WentOn (statement_at types s p).next → TookAssigned types f.variable (take (2 * f.records) after)
took-assigned types s p put on =
    let a = assigned types s p on.1 put.content.0 in
    rw (took-words put, put.content.1) record { tree = a.tree; short = a.short; declared = a.declared }

-- an assigned variable is declared
pub took-declared : (types s : List ℕ) (p : Place) {f : Assignment} → TookAssignment f (statement_at types s p)
    → WentOn (statement_at types s p).next → f.variable < length types
took-declared types s p took on = rw took.variable (assigned types s p on.1 took.assigned).declared

-- the i-th of statements that were read whole was read whole
pub statement-whole : (types s : List ℕ) (from n i : ℕ) {at : ℕ} → WentOn (statements_from types s (Ok from) n).next → i < n
    → Ok at ≡ (statements_from types s (Ok from) i).next → WentOn (statement_at types s (Ok at)).next
statement-whole types s from n i on below at-is =
    let w = statements-back types s (Ok from) n (i + 1) on.1 (omega arith) in
    (w.0, rw at-is (statements-more types s (Ok from) i ∙ w.1))
