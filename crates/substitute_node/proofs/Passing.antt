-- A node's statements are passed one after the other: what is still due of them, from the table that is held, is what the node's statements make of any
-- condition. A statement that was read whole is one of the list, and its words are one tree.
use Prim.Native.Nat.{ℕ, suc, ◌+◌, ◌≤◌, ◌<◌}
use mathlib.Core.Path.{◌≡◌, refl, sym, ap, subst, ◌∙◌}
use mathlib.Core.Bool.{true, false, cond}
use mathlib.Core.List.{List, [], ◌∷◌}
use native.Mathlib.Omega.{arith}
use native.Mathlib.Numerals.{add-one}
use lib.ListN.{length, get_or, drop, drop_of_length-le}
use lib.Seq.{drop-cons}
use Rattle.std.specs.Prelude.{Ok, Option, Some, None}
use Rattle.sheet_field.specs.Field.{Place, WentOn}
use Rattle.expr.specs.declared.Tree.{Tree}
use Rattle.expr.specs.Tree.{Expr, tree_of}
use Rattle.expr.specs.Statement.{Statement}
use Rattle.expr.specs.Statement.Statement.{other}
use Rattle.sheet_expression.specs.Expression.{Taken, expression_at}
use Rattle.sheet_expression.specs.Promises.{TookTree}
use Rattle.sheet_node.specs.declared.node.Assignment.{Assignment}
use Rattle.sheet_node.specs.Promises.{TookStatement}
use Rattle.sheet_node.specs.Node.{StatementRead, statement_at, statement_of, statements_from}
use Rattle.sheet_node.proofs.Nodes.{statements-more}
use Rattle.sheet_node.proofs.Statements.{statement-whole}
use Rattle.sheet_node.proofs.Accepted.{statements-nth, statements-length}
use Rattle.substitution.specs.Held.{Made, Assigned}
use Rattle.substitution.proofs.Backward.{few-words}
use Rattle.substitute_node.specs.Node.{Stepped, MadeNode}
use Rattle.substitution.specs.Substitution.{Table, nothing_held, substitute, assigned, long, too_long, into, substituted, with_assignments}

-- a statement that is no assignment
pub stepped_other : (h : Table) (r : StatementRead) → r.assigned ≡ false → (rest : List Statement) (c : Expr)
    → substituted h (statement_of r ∷ rest) c ≡ substituted nothing_held rest c
unfolding substituted
stepped_other h r unassigned rest c = rw unassigned

-- an assignment
module _ (h : Table) (r : StatementRead) (is : r.assigned ≡ true) {v : ℕ} {ws : List ℕ} (number : v ≡ r.variable) (words : ws ≡ r.words) where
  pub stepped_assigned : {after : Table} → after ≡ assigned v (substitute h (tree_of ws)) h → long (substitute h (tree_of ws)) ≡ false
      → (rest : List Statement) (c : Expr) → substituted h (statement_of r ∷ rest) c ≡ substituted after rest c
  unfolding substituted
  stepped_assigned after-is short rest c = rw (is, ← number, ← words, short, after-is)

  pub stepped_long : long (substitute h (tree_of ws)) ≡ true → (rest : List Statement) (c : Expr) → substituted h (statement_of r ∷ rest) c ≡ too_long
  unfolding substituted
  stepped_long much rest c = rw (is, ← number, ← words, much)

  pub stepped_by : {A : Type 0} (result : Option A) (after : Table) {at : ℕ} → Ok at ≡ r.next → Assigned result v (tree_of ws) h after → Stepped result at h after r
  stepped_by (Some x) after place made = (place, stepped_assigned made.0 made.1)
  stepped_by None after place made = stepped_long made.1

-- an assignment that was taken
pub stepped_taken : (h : Table) (types s : List ℕ) (at : ℕ) {f : Assignment} {end : ℕ} → TookStatement (Some f) end (statement_at types s (Ok at))
    → {A : Type 0} (result : Option A) (after : Table) → Assigned result f.variable (tree_of f.value.words.now) h after → Stepped result end h after (statement_at types s (Ok at))
stepped_taken h types s at took result after made =
    let own = took.assignment in stepped_by h (statement_at types s (Ok at)) own.assigned own.variable own.words result after took.place made

-- the first i statements are passed
pub record Passing (types s : List ℕ) (from n : ℕ) (h : Table) (at i : ℕ) : Type 0 where
  pub place : Ok at ≡ (statements_from types s (Ok from) i).next
  pub due : (c : Expr) → with_assignments (statements_from types s (Ok from) n).list c ≡ substituted h (drop i (statements_from types s (Ok from) n).list) c

pub passing_start : (types s : List ℕ) (from n : ℕ) {h : Table} → h ≡ nothing_held → Passing types s from n h from 0
unfolding statements_from
passing_start types s from n {h} none = record { place = refl; due = λ c. rw none }

module _ {types s : List ℕ} {from n : ℕ} {h : Table} {at i : ℕ} (g : Passing types s from n h at i) where
  pub passing_whole : WentOn (statements_from types s (Ok from) n).next → i < n → WentOn (statement_at types s (Ok at)).next
  passing_whole on below = statement-whole types s from n i on below g.place

  -- what is due starts with the statement at this offset
  due-here : i < n → (c : Expr) → with_assignments (statements_from types s (Ok from) n).list c
      ≡ substituted h (statement_of (statement_at types s (Ok at)) ∷ drop (suc i) (statements_from types s (Ok from) n).list) c
  due-here below c =
      let size : i < length (statements_from types s (Ok from) n).list = omega (arith, statements-length types s (Ok from) n) in
      let this : get_or (statements_from types s (Ok from) n).list i other ≡ statement_of (statement_at types s (Ok at)) =
      statements-nth types s (Ok from) n i other below ∙ ap (λ (q : Place). statement_of (statement_at types s q)) (sym g.place) in
      g.due c
      ∙ ap (λ (l : List Statement). substituted h l c) (drop-cons (statements_from types s (Ok from) n).list i other size)
      ∙ ap (λ (x : Statement). substituted h (x ∷ drop (suc i) (statements_from types s (Ok from) n).list) c) this

  pub passing_stop : i < n → ((rest : List Statement) (c : Expr) → substituted h (statement_of (statement_at types s (Ok at)) ∷ rest) c ≡ too_long)
      → (c : Expr) → with_assignments (statements_from types s (Ok from) n).list c ≡ too_long
  passing_stop below much c = due-here below c ∙ much (drop (suc i) (statements_from types s (Ok from) n).list) c

  pub passing_more : i < n → {after : Table} {at' : ℕ} → Ok at' ≡ (statement_at types s (Ok at)).next
      → ((rest : List Statement) (c : Expr) → substituted h (statement_of (statement_at types s (Ok at)) ∷ rest) c ≡ substituted after rest c)
      → Passing types s from n after at' (i + 1)
  passing_more below place same = record {
    place = place ∙ ap (λ (q : Place). (statement_at types s q).next) g.place ∙ statements-more types s (Ok from) i;
    due = λ c. rw (add-one i) (due-here below c ∙ same (drop (suc i) (statements_from types s (Ok from) n).list) c);
  }

  pub passing_end : n ≡ i → (Ok at ≡ (statements_from types s (Ok from) n).next) × ((c : Expr) → with_assignments (statements_from types s (Ok from) n).list c ≡ substituted h [] c)
  passing_end end =
      let past : length (statements_from types s (Ok from) n).list ≤ i = omega (arith, statements-length types s (Ok from) n) in
      let all : drop i (statements_from types s (Ok from) n).list ≡ [] = drop_of_length-le (statements_from types s (Ok from) n).list past in
      (g.place ∙ ap (λ (k : ℕ). (statements_from types s (Ok from) k).next) (sym end), λ c. g.due c ∙ ap (λ (l : List Statement). substituted h l c) all)

-- ---- the condition, after all statements

-- the condition, as its reader gave it
pub condition_read : (n : ℕ) (s : List ℕ) (p : Place) {start at : ℕ} {tree : Tree} → Ok start ≡ p → WentOn (expression_at n s p).next
    → ((variables : ℕ) → WentOn (expression_at variables s (Ok start)).next → TookTree tree at (expression_at variables s (Ok start)))
    → TookTree tree at (expression_at n s p)
condition_read n s p {at = at} {tree = tree} here on reader =
    subst (λ (q : Place). WentOn (expression_at n s q).next → TookTree tree at (expression_at n s q)) here (reader n) on

module _ (h : Table) (list : List Statement) (same : (c : Expr) → with_assignments list c ≡ substituted h [] c) {e c : Expr} (read : c ≡ e) where
  last : with_assignments list e ≡ cond (long (substitute h c)) too_long (into (substitute h c))
  unfolding substituted
  last = same e ∙ ap (λ (d : Expr). cond (long (substitute h d)) too_long (into (substitute h d))) (sym read)

  pub made_node : (result : Option Tree) → Made result (substitute h c) → {at : ℕ} (t : Taken) → Ok at ≡ t.next → e ≡ tree_of t.words → MadeNode result at list t
  made_node (Some x) made t place is = (place, few-words _ x.wf made.0 made.1, rw (← is) ((rw made.1 at last) ∙ ap into (sym made.0)))
  made_node None made t place is = rw (← is) (rw made at last)
