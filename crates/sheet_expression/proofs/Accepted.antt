-- An expression that was read whole is exactly one tree.
use Prim.Native.Nat.{ℕ, zero, suc, ◌+◌, ◌-◌, ◌*◌, ◌≤◌}
use mathlib.Core.Path.{◌≡◌, refl, ◌∙◌}
use mathlib.Core.List.{List}
use mathlib.Core.Bool.{Bool, true, false, not, ◌||◌}
use native.Mathlib.Omega.{arith}
use lib.Dec.{eqb}
use lib.ListN.{length, take}
use borrow.Author.Tests.{leb-true, eqb-true, eq-eqb, ne_eqb}
use Rattle.std.specs.Prelude.{Ok}
use Rattle.refusal.specs.declared.Fault.TheVariants.{Code, Tree, Constant}
use Rattle.sheet_field.specs.Field.{Place, field_at, start_of, code_at, count_at, WentOn}
use Rattle.sheet_field.proofs.Fields.{judge-at, check-at, field-at, code-at, count_at_lem}
use Rattle.expr.specs.Tree.{arity_of, Formed, Trees, tree_count, Wf}
use Rattle.expr.proofs.Laws.{formed, trees-nil, count-nil, trees-snoc, count-snoc, trees-wf}
use Rattle.sheet_expression.specs.Expression.{has_argument, argument_at, constant_at, record_at, Taken, taken_more, taken_from, expression_at}
use Rattle.sheet_field.proofs.Counted.{back}
use Rattle.sheet_expression.specs.Promises.{Took}
use Rattle.sheet_expression.proofs.Lists.{taken-length, taken-keep, took-front}

pub constant-at : (kind : ℕ) (s : List ℕ) (p : Place) {a : ℕ} → (constant_at kind s p).next ≡ Ok a → (b : ℕ) × (p ≡ Ok b)
unfolding constant_at
constant-at kind s p {a} e = go (eqb kind 1) refl
  where
    go : (t : Bool) → eqb kind 1 ≡ t → (b : ℕ) × (p ≡ Ok b)
    go true q = let w = field-at 8 s p (rw q at e) in (w.from, w.there)
    go false q = (a, rw q at e)

constant-zero : (kind : ℕ) (s : List ℕ) (p : Place) → (kind ≡ 1 → ⊥) → (constant_at kind s p).value ≡ 0
unfolding constant_at
constant-zero kind s p other = rw (ne_eqb kind 1 other)

pub argument-at : (variables kind : ℕ) (s : List ℕ) (p : Place) {a : ℕ} → (argument_at variables kind s p).next ≡ Ok a → (b : ℕ) × (p ≡ Ok b)
unfolding argument_at
argument-at variables kind s p {a} e = go (has_argument kind) refl
  where
    go : (t : Bool) → has_argument kind ≡ t → (b : ℕ) × (p ≡ Ok b)
    go true q =
        let w = field-at 1 s p (check-at _ Code (start_of p) (field_at 1 s p) (rw q at e)).1 in
        (w.from, w.there)
    go false q = (a, rw q at e)

argument-zero : (variables kind : ℕ) (s : List ℕ) (p : Place) → has_argument kind ≡ false → (argument_at variables kind s p).value ≡ 0
unfolding argument_at
argument-zero variables kind s p none = rw none

-- what a record that was read whole is
pub record Recorded (variables depth left : ℕ) (s : List ℕ) (p : Place) : Type 0 where
  pub from : ℕ
  pub there : p ≡ Ok from
  pub well : Formed (record_at variables depth left s p).tag (record_at variables depth left s p).value
  pub kids : arity_of (record_at variables depth left s p).tag ≤ depth
  pub one : left ≡ 0 → (record_at variables depth left s p).depth ≡ 1
  pub after : (record_at variables depth left s p).depth ≡ depth - arity_of (record_at variables depth left s p).tag + 1

last_one : (left : ℕ) (t : Bool) → (not (eqb left 0) || t) ≡ true → left ≡ 0 → t ≡ true
last_one left t e zero_left = rw (eq-eqb left 0 zero_left) at e

pub record-at : (variables depth left : ℕ) (s : List ℕ) (p : Place) {a : ℕ}
    → (record_at variables depth left s p).next ≡ Ok a → Recorded variables depth left s p
unfolding record_at
record-at variables depth left s p e =
    let kind = code_at 9 s p in
    let argument = argument_at variables kind.value s kind.next in
    let value = constant_at kind.value s argument.next in
    let tag : ℕ = kind.value + 16 * argument.value in
    let fits = judge-at _ Constant (start_of argument.next) _ e in
    let last = judge-at _ Tree (start_of value.next) _ fits.1 in
    let whole = judge-at _ Tree (start_of p) value.next last.1 in
    let behind = constant-at kind.value s argument.next whole.1 in
    let named = argument-at variables kind.value s kind.next behind.1 in
    let code = code-at 9 s p named.1 in
    record {
      from = code.whole.from;
      there = code.whole.there;
      well = formed kind.value argument.value value.value
          (omega (arith, code.below))
          (λ q. argument-zero variables kind.value s kind.next (rw q))
          (λ q. argument-zero variables kind.value s kind.next (rw q))
          (λ q. argument-zero variables kind.value s kind.next (rw q))
          (λ q. constant-zero kind.value s argument.next q);
      kids = leb-true _ _ whole.0;
      one = λ q. eqb-true _ 1 (last_one left _ last.0 q);
      after = refl;
    }

-- what records that were read whole are: trees, as many as were counted
pub record Grown (t : Taken) : Type 0 where
  pub trees : Trees t.words
  pub count : tree_count t.words ≡ t.depth

grown-more : (variables left : ℕ) (s : List ℕ) (t : Taken) → Grown t → Recorded variables t.depth left s t.next
    → Grown (taken_more variables left s t)
unfolding taken_more
grown-more variables left s t g r =
    let tag = (record_at variables t.depth left s t.next).tag in
    let value = (record_at variables t.depth left s t.next).value in
    record {
      trees = trees-snoc t.words tag value g.trees r.well (rw g.count r.kids);
      count = count-snoc t.words tag value g.trees ∙ rw (g.count, r.after);
    }

pub grown : (variables total : ℕ) (s : List ℕ) (p : Place) (k : ℕ) {a : ℕ}
    → (taken_from variables total s p k).next ≡ Ok a → Grown (taken_from variables total s p k)
unfolding taken_from taken_more
grown variables total s p zero e = record { trees = trees-nil; count = count-nil }
grown variables total s p (suc k) e =
    let t = taken_from variables total s p k in
    let r = record-at variables t.depth (total - suc k) s t.next e in
    grown-more variables (total - suc k) s t (grown variables total s p k r.there) r

-- behind the last record there is one tree
last-depth : (variables total : ℕ) (s : List ℕ) (p : Place) (k : ℕ) {a : ℕ} → total ≡ k → 1 ≤ k
    → (taken_from variables total s p k).next ≡ Ok a → (taken_from variables total s p k).depth ≡ 1
unfolding taken_from taken_more
last-depth variables total s p zero all some e = omega arith
last-depth variables total s p (suc k) all some e =
    let t = taken_from variables total s p k in
    (record-at variables t.depth (total - suc k) s t.next e).one (omega arith)

-- an expression that was read whole: where it stood, and its words are exactly one tree of at most 128 records
pub record OneTree (variables : ℕ) (s : List ℕ) (p : Place) : Type 0 where
  pub from : ℕ
  pub there : p ≡ Ok from
  pub tree : Wf (expression_at variables s p).words
  pub short : length (expression_at variables s p).words ≤ 256

pub start-at : (variables total : ℕ) (s : List ℕ) (p : Place) (k : ℕ) {a : ℕ} → (taken_from variables total s p k).next ≡ Ok a → WentOn p
unfolding taken_from
start-at variables total s p k e = back (λ j. (taken_from variables total s p j).next) (taken-keep variables total s p) k 0 e (omega arith)

pub one-tree : (variables : ℕ) (s : List ℕ) (p : Place) {a : ℕ} → (expression_at variables s p).next ≡ Ok a → OneTree variables s p
unfolding expression_at
one-tree variables s p e =
    let n = count_at 1 128 s p in
    let counted = count_at_lem 1 128 s p (start-at variables n.value s n.next n.value e).1 in
    let g = grown variables n.value s n.next n.value e in
    record {
      from = counted.whole.from;
      there = counted.whole.there;
      tree = trees-wf _ g.trees (g.count ∙ last-depth variables n.value s n.next n.value refl counted.at_least e);
      short = rw (taken-length variables n.value s n.next n.value) (omega (arith, counted.at_most));
    }

-- so are the words that its reader left at the start of a list
pub took-tree : (variables : ℕ) (s : List ℕ) (p : Place) {records : ℕ} {next : Place} {before after : List ℕ}
    → Took records next before after (expression_at variables s p) → WentOn (expression_at variables s p).next
    → Wf (take (2 * records) after) × (length (take (2 * records) after) ≤ 256)
took-tree variables s p took on =
    let one = one-tree variables s p on.1 in
    (rw (took-front took on) one.tree, rw (took-front took on) one.short)
