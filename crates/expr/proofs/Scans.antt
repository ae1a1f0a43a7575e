-- Scans: a test of trees that a test of tag words follows is the same over a tree's words. Assumes nothing.
use mathlib.Core.Path.{◌≡◌, refl, sym, ap, ap₂, ◌∙◌}
use mathlib.Core.Bool.{Bool, true, false, ◌&&◌, ◌||◌, or-false, or_assoc, or_comm}
use mathlib.Core.List.{List, [], ◌∷◌, ◌++◌}
use Prim.Native.Nat.{ℕ, ◌+◌, ◌*◌, ◌%◌, ◌<◌, zero, suc, ◌≤◌}
use denote.Ref.{Bor}
use Rattle.std.specs.Bool.{MatchBool}
use Rattle.std.specs.Prelude.{Option, None, Some, IfSome, IsSomeAnd}
use Rattle.std.specs.List.{IsSubsliceAt, slice_get}
use Rattle.std.specs.Iterator.Runs.{Run, YieldsRun, ItemsMapToExactChunks, AnyItem, AllItems}
use native.Mathlib.Omega.{arith}
use lib.Dec.{eqb, lit<}
use lib.ListN.{length, get_or}
use Rattle.expr.specs.Tree.{Expr, tag_of, own, flat, tree_of, Wf}
use Rattle.expr.specs.Tree.Expr.{variable, constant, condition_true, condition_false, effect, load, cast, binary, ternary}
use Rattle.expr.specs.Scan.{any_node, any_tag, has_own_value, has_load, is_effect, is_load, is_variable, of_kind, of_variable}
use Rattle.expr.proofs.Laws.{kind-of, argument-of, flat-even}

-- words after whole records
pub any_append : (p : ℕ → Bool) (ws rest : List ℕ) → length ws % 2 ≡ 0 → any_tag p (ws ++ rest) ≡ (any_tag p ws || any_tag p rest)
unfolding any_tag
any_append p [] rest h = refl
any_append p (t ∷ []) rest h = absurd (omega (arith, h))
any_append p (t ∷ v ∷ ws) rest h = ap (λ (b : Bool). p t || b) (any_append p ws rest (omega (arith, h))) ∙ sym (or_assoc (p t) (any_tag p ws) (any_tag p rest))

-- a scan of whole records, from where a record passes the test, or that none does
any-place : (p : ℕ → Bool) (ws : List ℕ) (k : ℕ) → k * 2 + 2 ≤ length ws → p (get_or ws (k * 2) 0) ≡ true → any_tag p ws ≡ true
unfolding any_tag
any-place p [] k h e = absurd (omega (arith, h))
any-place p (t ∷ []) k h e = absurd (omega (arith, h))
any-place p (t ∷ v ∷ ws) zero h e = ap (λ (b : Bool). b || any_tag p ws) e
any-place p (t ∷ v ∷ ws) (suc k) h e =
    let next : suc k * 2 ≡ suc (suc (k * 2)) = omega arith in
    ap (λ (b : Bool). p t || b) (any-place p ws k (omega (arith, h)) (rw next at e)) ∙ or_comm (p t) true

none-place : (p : ℕ → Bool) (ws : List ℕ) → length ws % 2 ≡ 0 → ((k : ℕ) → k * 2 + 2 ≤ length ws → p (get_or ws (k * 2) 0) ≡ false) → any_tag p ws ≡ false
unfolding any_tag
none-place p [] even f = refl
none-place p (t ∷ []) even f = absurd (omega (arith, even))
none-place p (t ∷ v ∷ ws) even f =
    ap₂ (λ (a b : Bool). a || b) (f 0 (omega arith)) (none-place p ws (omega (arith, even)) (λ k h.
    let next : suc k * 2 ≡ suc (suc (k * 2)) = omega arith in
    rw next at (f (suc k) (omega (arith, h)))))

slice_get-none : {A : Type 0} (xs : List A) (k : ℕ) → None ≡ slice_get xs k → length xs ≤ k
slice_get-none [] k h = omega arith
slice_get-none (x ∷ xs) zero h = cc
slice_get-none (x ∷ xs) (suc k) h = omega (arith, slice_get-none xs k h)

-- what `any` over the records of words gives is their scan: chunks are what its run reads, and the test is what it asks of each
module _ {S : Type 0} {steps : S → Option (Bor (List ℕ)) → S → Type 0} (run : Run steps) (p : ℕ → Bool) (ws : List ℕ) (chunks : ItemsMapToExactChunks run (λ x. x.now) 2 ws) where
  abbrev pub passes : Bool → Bor (List ℕ) → Type 0
  passes b x = p (get_or x.now 0 0) ≡ b

  abbrev Record : ℕ → Bor (List ℕ) → Type 0
  Record k x = (length x.now ≡ 2) × (k * 2 + 2 ≤ length ws) × IsSubsliceAt 2 ws (k * 2) x.now

  record-passes : (b : Bool) (k : ℕ) (o : Option (Bor (List ℕ))) → IfSome o (Record k) → IsSomeAnd o (passes b) → (k * 2 + 2 ≤ length ws) × (p (get_or ws (k * 2) 0) ≡ b)
  record-passes b k None at t = absurd t
  record-passes b k (Some x) at t =
      let first : k * 2 + 0 ≡ k * 2 = omega arith in
      (at.1, sym (ap p (rw first at (at.2.2 0 0 (lit< tt)))) ∙ t)

  here : (k : ℕ) → k < run.len → (o : Option (Bor (List ℕ))) → o ≡ run.at k → IfSome o (passes false) → IsSomeAnd o (passes false)
  unfolding YieldsRun
  here k l None is t = absurd (omega (arith, slice_get-none run.items k (is ∙ run.gave.1 k), run.long, l))
  here k l (Some x) is t = t

  pub any-run : (r : Bool) → length ws % 2 ≡ 0 → MatchBool r (AnyItem run (passes true)) ((run.whole ≡ true) × AllItems run (passes false)) → r ≡ any_tag p ws
  any-run true even h =
      let f = record-passes true h.0 (run.at h.0) (chunks.2 h.0) h.2 in sym (any-place p ws h.0 f.0 f.1)
  any-run false even h =
      sym (none-place p ws even (λ k l.
      let few : k < run.len = omega (arith, chunks.1 h.0, l) in
      (record-passes false k (run.at k) (chunks.2 k) (here k few (run.at k) refl (h.1 k))).1))

turn : (a b r : Bool) → (a || (b || r)) ≡ (r || (a || b))
turn a b r = sym (or_assoc a b r) ∙ or_comm (a || b) r

module _ (p : ℕ → Bool) (q : Expr → Bool) (agree : (e : Expr) → q e ≡ p (tag_of e)) where
  any-own : (e : Expr) → any_tag p (own e) ≡ q e
  unfolding any_tag
  any-own e = or-false (p (tag_of e)) ∙ sym (agree e)

  any-after : (a : Expr) (rest : List ℕ) (b r : Bool) → any_tag p (flat a) ≡ b → any_tag p rest ≡ r → any_tag p (flat a ++ rest) ≡ (b || r)
  any-after a rest b r e f = any_append p (flat a) rest (flat-even a) ∙ ap₂ (λ (x y : Bool). x || y) e f

  -- a tree's words pass the test of tags where the tree passes the test of trees
  pub any-flat : (e : Expr) → any_tag p (flat e) ≡ any_node q e
  unfolding flat any_node
  any-flat (variable n) = any-own (variable n)
  any-flat (constant w x) = any-own (constant w x)
  any-flat condition_true = any-own condition_true
  any-flat condition_false = any-own condition_false
  any-flat (effect t) = any-own (effect t)
  any-flat (load t a) = any-after a _ _ _ (any-flat a) (any-own (load t a)) ∙ or_comm (any_node q a) (q (load t a))
  any-flat (cast t a) = any-after a _ _ _ (any-flat a) (any-own (cast t a)) ∙ or_comm (any_node q a) (q (cast t a))
  any-flat (binary o a b) =
      any-after a _ _ _ (any-flat a) (any-after b _ _ _ (any-flat b) (any-own (binary o a b)))
      ∙ turn (any_node q a) (any_node q b) (q (binary o a b))
  any-flat (ternary c a b) =
      let r = q (ternary c a b) in
      any-after c _ _ _ (any-flat c) (any-after a _ _ _ (any-flat a) (any-after b _ _ _ (any-flat b) (any-own (ternary c a b))))
      ∙ ap (λ (x : Bool). any_node q c || x) (turn (any_node q a) (any_node q b) r ∙ or_comm r (any_node q a || any_node q b))
      ∙ turn (any_node q c) (any_node q a || any_node q b) r

  -- the same of Wf words and their tree
  pub any-tree : (ws : List ℕ) → Wf ws → any_tag p ws ≡ any_node q (tree_of ws)
  any-tree ws h = ap (any_tag p) (sym h) ∙ any-flat (tree_of ws)

-- the tests of trees and of tags agree
kind-eq : (k a j : ℕ) → k < 16 → eqb k j ≡ of_kind j (k + 16 * a)
kind-eq k a j h = rw (kind-of k a h)

pub effect-tag : (e : Expr) → is_effect e ≡ of_kind 4 (tag_of e)
unfolding is_effect tag_of
effect-tag (variable n) = kind-eq 0 n 4 (lit< tt)
effect-tag (constant w x) = kind-eq 1 w 4 (lit< tt)
effect-tag condition_true = refl
effect-tag condition_false = refl
effect-tag (effect t) = kind-eq 4 t 4 (lit< tt)
effect-tag (load t a) = kind-eq 5 t 4 (lit< tt)
effect-tag (cast t a) = kind-eq 6 t 4 (lit< tt)
effect-tag (binary o a b) = kind-eq 7 o 4 (lit< tt)
effect-tag (ternary c a b) = refl

pub load-tag : (e : Expr) → is_load e ≡ of_kind 5 (tag_of e)
unfolding is_load tag_of
load-tag (variable n) = kind-eq 0 n 5 (lit< tt)
load-tag (constant w x) = kind-eq 1 w 5 (lit< tt)
load-tag condition_true = refl
load-tag condition_false = refl
load-tag (effect t) = kind-eq 4 t 5 (lit< tt)
load-tag (load t a) = kind-eq 5 t 5 (lit< tt)
load-tag (cast t a) = kind-eq 6 t 5 (lit< tt)
load-tag (binary o a b) = kind-eq 7 o 5 (lit< tt)
load-tag (ternary c a b) = refl

-- an effect or a load stands in a tree where a record of its kind stands among the words
pub any_effect : (ws : List ℕ) → Wf ws → any_tag (of_kind 4) ws ≡ has_own_value (tree_of ws)
any_effect = any-tree (of_kind 4) is_effect effect-tag

pub any_load : (ws : List ℕ) → Wf ws → any_tag (of_kind 5) ws ≡ has_load (tree_of ws)
any_load = any-tree (of_kind 5) is_load load-tag

variable-eq : (k a v : ℕ) → k < 16 → (eqb k 0 && eqb a v) ≡ of_variable v (k + 16 * a)
variable-eq k a v h = rw (kind-of k a h, argument-of k a h)

pub variable-tag : (v : ℕ) (e : Expr) → is_variable v e ≡ of_variable v (tag_of e)
unfolding is_variable tag_of
variable-tag v (variable n) = variable-eq 0 n v (lit< tt)
variable-tag v (constant w x) = variable-eq 1 w v (lit< tt)
variable-tag v condition_true = refl
variable-tag v condition_false = refl
variable-tag v (effect t) = variable-eq 4 t v (lit< tt)
variable-tag v (load t a) = variable-eq 5 t v (lit< tt)
variable-tag v (cast t a) = variable-eq 6 t v (lit< tt)
variable-tag v (binary o a b) = variable-eq 7 o v (lit< tt)
variable-tag v (ternary c a b) = refl
