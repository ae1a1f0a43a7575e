-- Laws of plain statements and of fitting values.
use Rattle.std.specs.Prelude.{Option, Some, None, Ok}
use Prim.Native.Nat.{ℕ, suc, ◌+◌, ◌≤◌, ◌<◌}
use mathlib.Core.Path.{◌≡◌, refl, sym, ap, ◌∙◌}
use mathlib.Core.List.{List, [], ◌∷◌}
use mathlib.Core.Bool.{Bool, true, false, false≢true}
use native.Mathlib.Omega.{arith}
use native.Mathlib.Numerals.{add-one}
use lib.ListN.{length, get_or, drop, drop_of_length-le}
use lib.Seq.{drop-cons}
use Rattle.sheet_field.specs.Field.{Place}
use Rattle.expr.specs.Tree.{tree_of}
use Rattle.expr.specs.Scan.{plain_expr}
use Rattle.arith.specs.Numbers.{fits}
use Rattle.expr.specs.Statement.{Statement}
use Rattle.expr.specs.Statement.Statement.{assignment, other}
use Rattle.sheet_node.specs.declared.node.Assignment.{Assignment}
use Rattle.sheet_node.specs.Node.{StatementRead, statement_at, statement_of, statements_from}
use Rattle.sheet_node.specs.Promises.{TookAssignment}
use Rattle.sheet_node.proofs.Accepted.{statements-nth, statements-length}
use Rattle.evaluate_node.specs.Evaluate.{plain_statement, plain_all, unfit_from}
use Rattle.evaluate_node.specs.Promises.{After, state_of, go_on, after_statement, assigned_all, StateIs, Stepped}
use Rattle.evaluate_node.specs.Promises.After.{went, stopped}
use Rattle.value.specs.Evaluation.{evaluated}

-- ---- values

module _ (types values : List ℕ) (v : ℕ) (kept : unfit_from 0 types values ≡ unfit_from v (drop v types) (drop v values)) where
  pub unfit-missing : v < length types → length values ≤ v → Some v ≡ unfit_from 0 types values
  unfolding unfit_from
  unfit-missing there out = sym (kept ∙ rw (drop-cons types v 0 there, drop_of_length-le values out))

  pub unfit-here : {ok : Bool} {t : ℕ} → v < length types → v < length values → t ≡ get_or types v 0 → ok ≡ fits t (get_or values v 0)
      → ok ≡ false → Some v ≡ unfit_from 0 types values
  unfolding unfit_from
  unfit-here there here t-is ok-is fails =
      let out : fits (get_or types v 0) (get_or values v 0) ≡ false = rw (← t-is, ← ok-is) fails in
      sym (kept ∙ rw (drop-cons types v 0 there, drop-cons values v 0 here, out))

  pub unfit-next : {ok : Bool} {t : ℕ} → v < length types → v < length values → t ≡ get_or types v 0 → ok ≡ fits t (get_or values v 0)
      → ok ≡ true → unfit_from 0 types values ≡ unfit_from (v + 1) (drop (v + 1) types) (drop (v + 1) values)
  unfolding unfit_from
  unfit-next there here t-is ok-is holds =
      let fit : fits (get_or types v 0) (get_or values v 0) ≡ true = rw (← t-is, ← ok-is) holds in
      kept ∙ rw (drop-cons types v 0 there, drop-cons values v 0 here, fit, add-one v)

  pub unfit-none : length types ≤ v → None ≡ unfit_from 0 types values
  unfolding unfit_from
  unfit-none out = sym (kept ∙ rw (drop_of_length-le types out))

-- ---- statements

pub none-next : (types s : List ℕ) (p : Place) → p ≡ (statements_from types s p 0).next
unfolding statements_from
none-next types s p = refl

-- an assignment that was read whole
pub plain-taken : {x : StatementRead} {f : Assignment} → TookAssignment f x → {plain : Bool} → plain ≡ plain_expr (tree_of f.value.words.now) → plain ≡ plain_statement (statement_of x)
plain-taken took is = rw (took.assigned, ← took.words) is

-- a statement that is no assignment is not plain
pub plain_other : (x : StatementRead) → x.assigned ≡ false → false ≡ plain_statement (statement_of x)
plain_other x other' = rw other'

-- a plain statement is an assignment
pub plain-assigned : (r : StatementRead) → plain_statement (statement_of r) ≡ true → r.assigned ≡ true
plain-assigned r h = go r.assigned refl
  where
    go : (b : Bool) → r.assigned ≡ b → r.assigned ≡ true
    go true q = q
    go false q = let z : false ≡ true = rw q at h in absurd (false≢true z)

-- and its value is plain
pub plain-words : (r : StatementRead) → plain_statement (statement_of r) ≡ true → plain_expr (tree_of r.words) ≡ true
plain-words r h = rw (plain-assigned r h) at h

-- nothing is made after the run stopped
pub rests : (types : List ℕ) (x : Statement) (values : List ℕ) → after_statement types x (stopped values) ≡ stopped values
rests types (assignment v e) values = refl
rests types other values = refl

-- an assignment that is made
pub made : (types : List ℕ) {x : StatementRead} {f : Assignment} → TookAssignment f x → (values : List ℕ) {v : Option ℕ} → v ≡ evaluated types values (tree_of f.value.words.now)
    → after_statement types (statement_of x) (went values) ≡ go_on v f.variable values
made types took values is = rw (took.assigned, took.variable, is, took.words)

-- ---- the loop

module _ (types s : List ℕ) (from n i : ℕ) (start : After) where
  abbrev L : List Statement
  L = (statements_from types s (Ok from) n).list

  -- what holds after i statements: where the next one stands, and that what is left decides
  pub record Passed (at : ℕ) (state : After) : Type 0 where
    pub within : i ≤ n
    pub place : Ok at ≡ (statements_from types s (Ok from) i).next
    pub plain : plain_all L ≡ plain_all (drop i L)
    pub made : assigned_all types L start ≡ assigned_all types (drop i L) state

pub none_passed : (types s : List ℕ) (from n : ℕ) (start : After) → Passed types s from n 0 start from start
none_passed types s from n start = record { within = omega arith; place = none-next types s (Ok from); plain = refl; made = refl }

module _ (types s : List ℕ) (from n i : ℕ) (start : After) {at : ℕ} {state : After} (h : Passed types s from n i start at state) where
  -- past the last one
  pub all-passed : n ≤ i → (going : Bool) (values : List ℕ) → state ≡ state_of going values
      → StateIs (Some (tt {0})) going values (plain_all (statements_from types s (Ok from) n).list) (assigned_all types (statements_from types s (Ok from) n).list start)
  unfolding plain_all assigned_all
  all-passed past going values is =
      let none : drop i (statements_from types s (Ok from) n).list ≡ [] = drop_of_length-le (statements_from types s (Ok from) n).list {i = i} (rw (statements-length types s (Ok from) n) past) in
      (h.plain ∙ rw none, h.made ∙ rw none is)

  module _ (below : i < n) where
    -- the next one
    here : drop i (statements_from types s (Ok from) n).list ≡ statement_of (statement_at types s (Ok at)) ∷ drop (suc i) (statements_from types s (Ok from) n).list
    here =
        drop-cons (statements_from types s (Ok from) n).list i other (rw (statements-length types s (Ok from) n) below)
        ∙ ap (λ (x : Statement). x ∷ drop (suc i) (statements_from types s (Ok from) n).list) (rw h.place (statements-nth types s (Ok from) n i other below))

    pub refused-here : plain_statement (statement_of (statement_at types s (Ok at))) ≡ false → plain_all (statements_from types s (Ok from) n).list ≡ false
    unfolding plain_all
    refused-here q = h.plain ∙ rw (here, q)

    pub passed-more : (end : ℕ) (going : Bool) (values : List ℕ) → Stepped (Some (tt {0})) end going values types state (statement_at types s (Ok at))
        → Passed types s from n (i + 1) start end (state_of going values)
    unfolding plain_all assigned_all statements_from
    passed-more end going values stepped =
        record {
          within = omega arith;
          place = stepped.2 ∙ rw (add-one i, h.place);
          plain = h.plain ∙ rw (here, stepped.0, add-one i);
          made =
              h.made
              ∙ ap (λ (l : List Statement). assigned_all types l state) here
              ∙ ap (assigned_all types (drop (suc i) (statements_from types s (Ok from) n).list)) stepped.1
              ∙ ap (λ (j : ℕ). assigned_all types (drop j (statements_from types s (Ok from) n).list) (state_of going values)) (sym (add-one i));
        }
