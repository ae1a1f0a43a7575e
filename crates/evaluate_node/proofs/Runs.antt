-- A plain node's run on borrowed values is what the assignments and the condition give.
use Rattle.std.specs.Prelude.{Option, Some, None, Ok, Err, is_some}
use Prim.Native.Nat.{ℕ, zero, suc, ◌≤◌, ◌<◌}
use mathlib.Core.Path.{◌≡◌, refl, sym, ap, ◌∙◌}
use mathlib.Core.List.{List, [], ◌∷◌, ◌++◌}
use mathlib.Core.Bool.{Bool, true, false, cond, not, ◌&&◌}
use native.Mathlib.Omega.{arith}
use lib.ListN.{length, set, take, drop, replicate, length-set, length-append, length-take, get_or-append}
use lib.Seq.{length-take-le, get_or-take}
use Rattle.refusal.specs.declared.Fault.TheVariants as fault
use Rattle.refusal.specs.Numbers.{refused}
use Rattle.sheet_field.specs.Field.{Place}
use Rattle.expr.specs.Tree.{Expr, tree_of}
use Rattle.expr.specs.Scan.{plain_expr}
use Rattle.expr.specs.Statement.{Statement}
use Rattle.expr.specs.Statement.Statement.{assignment, other}
use Rattle.sheet_node.specs.Node.{NodeReading, statement_at, statement_of, statements_from, node_of}
use Rattle.sheet_node.proofs.Accepted.{statement-on, assigned}
use Rattle.value.specs.Evaluation.{evaluated}
use Rattle.value.specs.Run.{Choices, run_from, run}
use Rattle.value.proofs.Steps.{lent, assigns, stops, ends}
use Rattle.evaluate_node.specs.Evaluate.{Evaluation, plain_all, unfit_from, on_values, on_fit, on_truth, evaluation_of}
use Rattle.evaluate_node.specs.Promises.{After, state_of, assigned_all, finish, Started, Running}
use Rattle.evaluate_node.specs.Promises.After.{went, stopped}
use Rattle.evaluate_node.proofs.Laws.{rests}
use Rattle.evaluate_node.proofs.Same.{is_plain, same-run}
use Rattle.evaluate_node.proofs.Whole.{fit-enough, none_is}
use Rattle.sheet_node.proofs.Variables.{Below, AllBelow, ReadsDeclared, reads-declared}
use Rattle.laws.proofs.Booleans.{and_left, and_right}

-- every assignment's variable is below n
Declared : ℕ → List Statement → Type 0
Declared n [] = Unit {0}
Declared n (assignment v e ∷ l) = (v < n) × Declared n l
Declared n (other ∷ l) = Declared n l

declared-append : (n : ℕ) (l m : List Statement) → Declared n l → Declared n m → Declared n (l ++ m)
unfolding Declared
declared-append n [] m a b = b
declared-append n (assignment v e ∷ l) m a b = (a.0, declared-append n l m a.1 b)
declared-append n (other ∷ l) m a b = declared-append n l m a b

declared-more : (n k : ℕ) (l : List Statement) → n ≤ k → Declared n l → Declared k l
unfolding Declared
declared-more n k [] h d = tt
declared-more n k (assignment v e ∷ l) h d = (omega (arith, d.0), declared-more n k l h d.1)
declared-more n k (other ∷ l) h d = declared-more n k l h d

declared-one : (types s : List ℕ) (p : Place) {a : ℕ} → (statement_at types s p).next ≡ Ok a → Declared (length types) (statement_of (statement_at types s p) ∷ [])
unfolding Declared
declared-one types s p e = go (statement_at types s p).assigned refl
  where
    go : (b : Bool) → (statement_at types s p).assigned ≡ b → Declared (length types) (statement_of (statement_at types s p) ∷ [])
    go true q = rw q ((assigned types s p e q).declared, tt)
    go false q = rw q tt

declared-all : (types s : List ℕ) (p : Place) (k : ℕ) {a : ℕ} → (statements_from types s p k).next ≡ Ok a → Declared (length types) (statements_from types s p k).list
unfolding statements_from Declared
declared-all types s p zero e = tt
declared-all types s p (suc k) e =
    let t = statements_from types s p k in
    declared-append (length types) t.list _ (declared-all types s p k (statement-on types s t.next e).1) (declared-one types s t.next e)

-- a run that stopped stays so
pub stays : (types : List ℕ) (l : List Statement) (values : List ℕ) → assigned_all types l (stopped values) ≡ stopped values
unfolding assigned_all
stays types [] values = refl
stays types (x ∷ l) values = ap (assigned_all types l) (rests types x values) ∙ stays types l values

run-from : (types : List ℕ) (c : Choices) (condition : Expr) (i : ℕ) (l : List Statement) (values : List ℕ) → plain_all l ≡ true
    → Declared (length values) l → plain_expr condition ≡ true
    → run_from types c condition i l (lent values) ≡ finish types condition (assigned_all types l (went values))
unfolding plain_all Declared assigned_all
run-from types c condition i [] values p d q = ends types c condition i values (is_plain condition q)
run-from types c condition i (other ∷ rest) values p d q = cc
run-from types c condition i (assignment v e ∷ rest) values p d q =
    go (evaluated types values e) refl
    (λ x. run-from types c condition (suc i) rest (set values v x) (and_right (plain_expr e) (plain_all rest) p) (rw length-set d.1) q)
  where
    go : (u : Option ℕ) → evaluated types values e ≡ u
        → ((x : ℕ) → run_from types c condition (suc i) rest (lent (set values v x)) ≡ finish types condition (assigned_all types rest (went (set values v x))))
        → run_from types c condition i (assignment v e ∷ rest) (lent values) ≡ finish types condition (assigned_all types (assignment v e ∷ rest) (went values))
    go (Some x) is rest-is =
        assigns types c condition i values v e rest (is_plain e (and_left (plain_expr e) (plain_all rest) p)) x d.0 is ∙ rw is (rest-is x)
    go None is rest-is =
        stops types c condition i values v e rest (is_plain e (and_left (plain_expr e) (plain_all rest) p)) is ∙ rw (is, stays types rest values)

module _ (s : List ℕ) (node : NodeReading) (place : ℕ) (types values words : List ℕ) (r : Running s node types words)
    (plain : plain_expr (tree_of words) ≡ true) where
  abbrev L : List Statement
  L = (statements_from types s node.body node.statements).list

  abbrev C : Expr
  C = tree_of words

  evaluation-is : evaluation_of (node_of s node) place values
      ≡ cond (plain_all L && plain_expr C) (on_fit (unfit_from 0 types values) (on_truth place (run types L C (on_values values)))) (Err (refused fault.NotPlain place))
  unfolding evaluation_of node_of
  evaluation-is = rw (← r.types_are, ← r.words_are)

  reads : ReadsDeclared (node_of s node)
  reads = rw r.is (reads-declared s r.at {a = r.on.0} (ap (λ (n : NodeReading). n.next) (sym r.is) ∙ r.on.1))

  pub node-refused : plain_all L ≡ false → Err (refused fault.NotPlain place) ≡ evaluation_of (node_of s node) place values
  node-refused p = sym (evaluation-is ∙ rw p)

  module _ (p : plain_all L ≡ true) where
    plain-is : evaluation_of (node_of s node) place values ≡ on_fit (unfit_from 0 types values) (on_truth place (run types L C (on_values values)))
    plain-is = evaluation-is ∙ rw (p, plain)

    -- the run from the borrowed values is the one from the buffer that holds them
    the-run : {start : List ℕ} → start ≡ take (length types) values ++ drop (length types) (replicate 32 0) → length types ≤ length values
        → run types L C (on_values values) ≡ finish types C (assigned_all types L (went start))
    unfolding node_of
    the-run {start} is enough =
        let long : length types ≤ length start = rw (is, length-append, length-take) (omega arith) in
        let all : AllBelow (length types) L = rw r.types_are reads.statements in
        let own : Below (length types) C = rw (r.types_are, r.words_are) reads.condition in
        same-run types (length types) (on_values values) (on_values values) C 0 L (lent values) (lent start) p plain all own
        (λ v below. sym (rw is (get_or-append (take (length types) values) _ 0 v (rw (length-take-le (length types) values enough) below) ∙ get_or-take (length types) values v 0 below)))
        ∙ run-from types (on_values values) C 0 L start p
        (declared-more (length types) _ L long (declared-all types s node.body node.statements r.statements.1)) plain

    module _ {fit : Option ℕ} (fit_is : fit ≡ unfit_from 0 types values) {fits : Bool} (fits_is : is_some fit ≡ not fits) (going : Bool) (start : List ℕ)
        (started : Started fits (length types) values going start) where
      -- a value does not fit
      pub node-unfit : {v : ℕ} → fit ≡ Some v → Err (refused fault.Value v) ≡ evaluation_of (node_of s node) place values
      node-unfit {v} q = sym (plain-is ∙ rw (← fit_is, q))

      module _ (all : fit ≡ None) where
        filled : (going ≡ true) × (start ≡ take (length types) values ++ drop (length types) (replicate 32 0))
        filled = let f = (none_is fit fits fits_is).1 all in (started.0 ∙ f, started.1 f)

        fit-all : unfit_from 0 types values ≡ None
        fit-all = sym fit_is ∙ all

        from-run : {after : After} {t : Option Bool} → assigned_all types L (state_of going start) ≡ after → finish types C after ≡ t
            → on_truth place t ≡ evaluation_of (node_of s node) place values
        from-run {after} {t} out t-is =
            sym (plain-is ∙ rw (fit-all, the-run filled.1 (fit-enough 0 types values fit-all), ← (ap (λ (b : Bool). state_of b start) filled.0), out, t-is))

        pub node-went : {after : After} → assigned_all types L (state_of going start) ≡ after → {t : Option Bool} {e : Evaluation} → t ≡ finish types C after
            → e ≡ on_truth place t → e ≡ evaluation_of (node_of s node) place values
        node-went on t-is e-is = e-is ∙ from-run on (sym t-is)
