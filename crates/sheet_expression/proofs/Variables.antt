-- An expression that was read whole reads no variable beyond those that are declared. Assumes nothing.
use Prim.Native.Nat.{ℕ, zero, suc, ◌+◌, ◌-◌, ◌*◌, ◌%◌, ◌<◌}
use mathlib.Core.Path.{◌≡◌, refl, sym, ◌∙◌}
use mathlib.Core.List.{List, [], ◌∷◌, ◌++◌}
use mathlib.Core.Bool.{Bool, true, false, ◌&&◌, ◌||◌, false≢true, or-false}
use native.Mathlib.Omega.{arith}
use lib.Dec.{ltb, eqb}
use lib.ListN.{length}
use borrow.Author.Tests.{ltb-true, eqb-true}
use Rattle.std.specs.Prelude.{Ok}
use Rattle.refusal.specs.declared.Fault.TheVariants.{Code, Tree, Constant}
use Rattle.sheet_field.specs.Field.{Place, field_at, start_of, code_at, count_at}
use Rattle.sheet_field.proofs.Fields.{judge-at, check-at, code-at}
use Rattle.expr.specs.Tree.{tree_of}
use Rattle.expr.specs.Scan.{any_tag, is_variable, of_variable, reads}
use Rattle.expr.proofs.Laws.{kind-of, argument-of}
use Rattle.expr.proofs.Scans.{any_append, any-tree, variable-tag}
use Rattle.sheet_expression.specs.Expression.{argument_at, constant_at, record_at, taken_more, taken_from, expression_at}
use Rattle.sheet_expression.proofs.Lists.{taken-length}
use Rattle.sheet_expression.proofs.Accepted.{constant-at, argument-at, record-at, one-tree}

both_left : (a b : Bool) → (a && b) ≡ true → a ≡ true
both_left true b h = refl
both_left false b h = h

both_right : (a b : Bool) → (a && b) ≡ true → b ≡ true
both_right true b h = h
both_right false b h = absurd (false≢true h)

-- a variable's number is below the count of variables
argument-below : (variables : ℕ) (s : List ℕ) (p : Place) {a : ℕ} → (argument_at variables 0 s p).next ≡ Ok a → (argument_at variables 0 s p).value < variables
unfolding argument_at
argument-below variables s p e =
    let c = check-at _ Code (start_of p) (field_at 1 s p) e in
    rw c.2 (go (ltb (field_at 1 s p).value variables) refl c.0)
  where
    go : (b : Bool) → ltb (field_at 1 s p).value variables ≡ b → (b || false || false || false) ≡ true → (field_at 1 s p).value < variables
    go true q h = ltb-true _ _ q
    go false q h = absurd (false≢true h)

argument-declared : (variables kind : ℕ) (s : List ℕ) (p : Place) {a : ℕ} → (argument_at variables kind s p).next ≡ Ok a → kind ≡ 0
    → (argument_at variables kind s p).value < variables
argument-declared variables kind s p e q = rw q (argument-below variables s p (rw q at e))

tag_below : (variables kind argument v : ℕ) → kind < 16 → (kind ≡ 0 → argument < variables) → of_variable v (kind + 16 * argument) ≡ true → v < variables
tag_below variables kind argument v small h e =
    let q : (eqb kind 0 && eqb argument v) ≡ true = rw (kind-of kind argument small, argument-of kind argument small) at e in
    let same : argument ≡ v = eqb-true argument v (both_right (eqb kind 0) (eqb argument v) q) in
    rw same at (h (eqb-true kind 0 (both_left (eqb kind 0) (eqb argument v) q)))

record-below : (variables depth left : ℕ) (s : List ℕ) (p : Place) (v : ℕ) {a : ℕ} → (record_at variables depth left s p).next ≡ Ok a
    → of_variable v (record_at variables depth left s p).tag ≡ true → v < variables
unfolding record_at
record-below variables depth left s p v e h =
    let kind = code_at 9 s p in
    let argument = argument_at variables kind.value s kind.next in
    let value = constant_at kind.value s argument.next in
    let fits = judge-at _ Constant (start_of argument.next) _ e in
    let last = judge-at _ Tree (start_of value.next) _ fits.1 in
    let whole = judge-at _ Tree (start_of p) value.next last.1 in
    let behind = constant-at kind.value s argument.next whole.1 in
    let named = argument-at variables kind.value s kind.next behind.1 in
    let code = code-at 9 s p named.1 in
    tag_below variables kind.value argument.value v (omega (arith, code.below))
    (argument-declared variables kind.value s kind.next behind.1) h

-- a test that holds of words and one record more holds of the words or of the record
snoc-below : {X : Type 0} (test : ℕ → Bool) (words : List ℕ) (tag value : ℕ) → length words % 2 ≡ 0
    → (any_tag test words ≡ true → X) → (test tag ≡ true → X) → any_tag test (words ++ (tag ∷ value ∷ [])) ≡ true → X
unfolding any_tag
snoc-below {X} test words tag value even before here h = go (any_tag test words) refl (sym (any_append test words (tag ∷ value ∷ []) even) ∙ h)
  where
    go : (b : Bool) → any_tag test words ≡ b → (b || (test tag || false)) ≡ true → X
    go true q r = before q
    go false q r = here (sym (or-false (test tag)) ∙ r)

taken-below : (variables total : ℕ) (s : List ℕ) (p : Place) (k v : ℕ) {a : ℕ} → (taken_from variables total s p k).next ≡ Ok a
    → any_tag (of_variable v) (taken_from variables total s p k).words ≡ true → v < variables
unfolding taken_from taken_more any_tag
taken-below variables total s p zero v e h = absurd (false≢true h)
taken-below variables total s p (suc k) v e h =
    let t = taken_from variables total s p k in
    let r = record_at variables t.depth (total - suc k) s t.next in
    snoc-below (of_variable v) t.words r.tag r.value (omega (arith, taken-length variables total s p k))
    (λ q. taken-below variables total s p k v (record-at variables t.depth (total - suc k) s t.next e).there q)
    (λ q. record-below variables t.depth (total - suc k) s t.next v e q) h

-- the theorem, for an expression in a node with that many variables
pub variables-below : (variables : ℕ) (s : List ℕ) (p : Place) (v : ℕ) {a : ℕ} → (expression_at variables s p).next ≡ Ok a
    → reads v (tree_of (expression_at variables s p).words) ≡ true → v < variables
unfolding expression_at
variables-below variables s p v e h =
    let n = count_at 1 128 s p in
    taken-below variables n.value s n.next n.value v e
    (any-tree (of_variable v) (is_variable v) (variable-tag v) (expression_at variables s p).words (one-tree variables s p e).tree ∙ h)
