-- A pass over a tree's records that notes which of the first n variables stand in it. Assumes nothing.
use Prim.Native.Nat.{ℕ, ◌%◌, ◌≤◌, ◌<◌}
use mathlib.Core.Path.{◌≡◌, refl, sym, ap, ◌∙◌}
use mathlib.Core.Bool.{Bool, true, false, ◌&&◌, ◌||◌, or-false, or_assoc, or_comm}
use mathlib.Core.List.{List, [], ◌∷◌, ◌++◌}
use native.Mathlib.Decide.{ℕ_discrete}
use native.Mathlib.Omega.{arith}
use lib.Dec.{eqb}
use lib.ListN.{length, get_or, set, replicate, length-append, length-set, length-replicate, get_or-replicate}
use Rattle.std.proofs.lemmas.List.{get_or-set_same, get_or-set_other}
use borrow.Author.Tests.{eq-eqb, ne_eqb}
use Rattle.expr.specs.Tree.{Wf, tree_of, kind_of, argument_of}
use Rattle.expr.specs.Scan.{any_tag, of_variable, is_variable, reads}
use Rattle.expr.proofs.Laws.{wf-even}
use Rattle.expr.proofs.Scans.{any-tree, variable-tag}

any-record : (p : ℕ → Bool) (r rest : List ℕ) → length r ≡ 2 → any_tag p (r ++ rest) ≡ (p (get_or r 0 0) || any_tag p rest)
unfolding any_tag
any-record p [] rest h = absurd (omega (arith, h))
any-record p (t ∷ []) rest h = absurd (omega (arith, h))
any-record p (t ∷ v ∷ []) rest h = refl
any-record p (t ∷ v ∷ u ∷ r) rest h = absurd (omega (arith, h))

any-empty : (p : ℕ → Bool) (rest : List ℕ) → length rest < 2 → length rest % 2 ≡ 0 → any_tag p rest ≡ false
unfolding any_tag
any-empty p [] h e = refl
any-empty p (t ∷ []) h e = absurd (omega (arith, e))
any-empty p (t ∷ v ∷ rest) h e = absurd (omega (arith, h))

-- what the pass has: a variable stands in the tree if it is noted, or in the records that are left
pub record Noting (n : ℕ) (ws : List ℕ) (noted : List Bool) (rest : List ℕ) (size : ℕ) : Type 0 where
  pub same : (v : ℕ) → v < n → (get_or noted v false || any_tag (of_variable v) rest) ≡ any_tag (of_variable v) ws
  pub long : length noted ≡ n
  pub even : length rest % 2 ≡ 0
  pub two : size ≡ 2

pub noting-start : (n : ℕ) {ws rest : List ℕ} {size : ℕ} → Wf ws → rest ≡ ws → size ≡ 2 → Noting n ws (replicate n false) rest size
noting-start n {ws} wf is two = record {
  same = λ v l. rw (get_or-replicate n v false false l, is);
  long = length-replicate n false;
  even = rw is (wf-even ws wf);
  two = two;
}

module _ {n : ℕ} {ws : List ℕ} {noted : List Bool} {rest : List ℕ} {size : ℕ} (h : Noting n ws noted rest size)
    (r after : List ℕ) {size' : ℕ} (is : rest ≡ r ++ after) (long : length r ≡ size) (same : size' ≡ size) where
  tag : ℕ
  tag = get_or r 0 0

  step : (noted' : List Bool) → length noted' ≡ n → ((v : ℕ) → v < n → get_or noted' v false ≡ (get_or noted v false || of_variable v (get_or r 0 0))) → Noting n ws noted' after size'
  step noted' all now = record {
    same = λ v l.
        ap (λ (b : Bool). b || any_tag (of_variable v) after) (now v l)
        ∙ or_assoc (get_or noted v false) (of_variable v (get_or r 0 0)) (any_tag (of_variable v) after)
        ∙ ap (λ (b : Bool). get_or noted v false || b) (sym (any-record (of_variable v) r after (long ∙ h.two)) ∙ ap (any_tag (of_variable v)) (sym is))
        ∙ h.same v l;
    long = all;
    even = omega (arith, h.even, h.two, long, ap length is, length-append r after);
    two = same ∙ h.two;
  }

  -- a record that is no variable, or one that is not among the first n, adds nothing
  pub noting-other : (kind_of (get_or r 0 0) ≡ 0 → ⊥) → Noting n ws noted after size'
  noting-other off = step noted h.long (λ v l. sym (ap (λ (b : Bool). get_or noted v false || b) (rw (ne_eqb (kind_of (get_or r 0 0)) 0 off)) ∙ or-false (get_or noted v false)))

  pub noting-beyond : n ≤ argument_of (get_or r 0 0) → Noting n ws noted after size'
  noting-beyond far = step noted h.long (λ v l. sym (ap (λ (b : Bool). get_or noted v false || b) (none v (λ e. omega (arith, e, l, far))) ∙ or-false (get_or noted v false)))
    where
      none : (v : ℕ) → (argument_of (get_or r 0 0) ≡ v → ⊥) → of_variable v (get_or r 0 0) ≡ false
      none v off = rw (ne_eqb (argument_of (get_or r 0 0)) v off) (and-none (eqb (kind_of (get_or r 0 0)) 0))
        where
          and-none : (b : Bool) → (b && false) ≡ false
          and-none true = refl
          and-none false = refl

  -- one of the first n is noted
  pub noting-on : kind_of (get_or r 0 0) ≡ 0 → (a : ℕ) → a ≡ argument_of (get_or r 0 0) → a < n → Noting n ws (set noted a true) after size'
  noting-on kind a number below = step (set noted a true) (length-set noted a true ∙ h.long) (λ v l. by v (ℕ_discrete v a))
    where
      of : (v : ℕ) → of_variable v (get_or r 0 0) ≡ eqb a v
      of v = rw (eq-eqb (kind_of (get_or r 0 0)) 0 kind, number)

      by : (v : ℕ) → Dec (v ≡ a) → get_or (set noted a true) v false ≡ (get_or noted v false || of_variable v (get_or r 0 0))
      by v (yes e) =
          rw e (get_or-set_same noted a true false (rw h.long below))
          ∙ sym (ap (λ (b : Bool). get_or noted v false || b) (of v ∙ eq-eqb a v (sym e)) ∙ or_comm (get_or noted v false) true)
      by v (no off) =
          get_or-set_other noted a v true false off
          ∙ sym (ap (λ (b : Bool). get_or noted v false || b) (of v ∙ ne_eqb a v (λ e. off (sym e))) ∙ or-false (get_or noted v false))

-- past the last record those are noted that the tree reads
pub noting-end : {n : ℕ} {ws : List ℕ} {noted : List Bool} {rest : List ℕ} {size : ℕ} → Noting n ws noted rest size → Wf ws → length rest < size
    → (v : ℕ) → v < n → get_or noted v false ≡ reads v (tree_of ws)
noting-end {n} {ws} {noted} {rest} h wf less v l =
    sym (or-false (get_or noted v false))
    ∙ ap (λ (b : Bool). get_or noted v false || b) (sym (any-empty (of_variable v) rest (rw h.two at less) h.even))
    ∙ h.same v l
    ∙ any-tree (of_variable v) (is_variable v) (variable-tag v) ws wf
