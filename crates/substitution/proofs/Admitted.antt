-- Substitution keeps every number in its table: what is held was admitted, and so is what is made of it.
use mathlib.Core.Path.{◌≡◌, refl, sym}
use mathlib.Core.Bool.{Bool, true, false, cond}
use mathlib.Core.List.{List, [], ◌∷◌}
use Prim.Native.Nat.{ℕ}
use lib.ListN.{length}
use Rattle.expr.specs.Tree.{Expr}
use Rattle.expr.specs.Tree.Expr.{variable, constant, condition_true, condition_false, effect, load, cast, binary, ternary}
use Rattle.expr.specs.Statement.{Statement}
use Rattle.expr.specs.Statement.Statement.{assignment, other}
use Rattle.expr.specs.Admission.{Admitted, AdmittedAll}
use Rattle.substitution.specs.Substitution.{Entry, free, held, Table, nothing_held, standing, substitute, assigned, long, too_long, into, substituted, with_assignments}
use Rattle.substitution.proofs.Runs.{Held, new, old, held_after, not-held, into-same, never}

abbrev AllAdmitted : ℕ → Table → Type 0
AllAdmitted n h = (v : ℕ) (e : Expr) → h v ≡ held e → Admitted n e

admitted-sub : (n : ℕ) (h : Table) → AllAdmitted n h → (e : Expr) → Admitted n e → Admitted n (substitute h e)
unfolding Admitted substitute
admitted-sub n h all (variable v) a = by (h v) refl
  where
    by : (t : Entry) → h v ≡ t → Admitted n (standing v t)
    by free q = a
    by (held e) q = all v e q
admitted-sub n h all (constant w x) a = a
admitted-sub n h all condition_true a = a
admitted-sub n h all condition_false a = a
admitted-sub n h all (effect t) a = a
admitted-sub n h all (load t e) a = a
admitted-sub n h all (cast t e) a = (a.0, admitted-sub n h all e a.1)
admitted-sub n h all (binary o d e) a = (a.0, admitted-sub n h all d a.1, admitted-sub n h all e a.2)
admitted-sub n h all (ternary c d e) a = (admitted-sub n h all c a.0, admitted-sub n h all d a.1, admitted-sub n h all e a.2)

admitted-after : (n : ℕ) (h : Table) → AllAdmitted n h → (v : ℕ) (s : Expr) → Admitted n s → AllAdmitted n (assigned v s h)
admitted-after n h all v s a w e q = by (held_after v s h w e q)
  where
    by : Held v s h w e → Admitted n e
    by (new p is k) = rw is a
    by (old p is k) = all w e is

-- The substituted condition of an admitted node is admitted.
module _ (types : List ℕ) (condition result : Expr) (a : Admitted (length types) condition) where
  from : (statements : List Statement) → AdmittedAll types statements → (h : Table) → AllAdmitted (length types) h
      → substituted h statements condition ≡ into result → Admitted (length types) result
  unfolding substituted AdmittedAll
  from [] t h all q = by (long (substitute h condition)) q
    where
      by : (b : Bool) → cond b too_long (into (substitute h condition)) ≡ into result → Admitted (length types) result
      by true q = absurd (never q)
      by false q = rw (← into-same q) (admitted-sub (length types) h all condition a)
  from (other ∷ rest) t h all q = from rest t nothing_held (λ v e p. absurd (not-held (sym p))) q
  from (assignment v e ∷ rest) t h all q =
      by (long (substitute h e)) q
      (λ q. from rest t.1 (assigned v (substitute h e) h)
      (admitted-after (length types) h all v (substitute h e) (admitted-sub (length types) h all e t.0.value.tree)) q)
    where
      by : (b : Bool) → cond b too_long (substituted (assigned v (substitute h e) h) rest condition) ≡ into result
          → (substituted (assigned v (substitute h e) h) rest condition ≡ into result → Admitted (length types) result) → Admitted (length types) result
      by true q next = absurd (never q)
      by false q next = next q

  pub admitted-result : (statements : List Statement) → AdmittedAll types statements → with_assignments statements condition ≡ into result
      → Admitted (length types) result
  admitted-result statements t q = from statements t nothing_held (λ v e p. absurd (not-held (sym p))) q
