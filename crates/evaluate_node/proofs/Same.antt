-- A plain node's run depends only on the values that its variables start from. Assumes nothing.
use Rattle.std.specs.Prelude.{Option, Some, None, Bool}
use Prim.Native.Nat.{ℕ, suc, ◌<◌}
use mathlib.Core.Path.{◌≡◌, refl, ap, ◌∙◌}
use mathlib.Core.List.{List, [], ◌∷◌}
use mathlib.Core.Bool.{true, cond, false≢true}
use lib.Dec.{eqb}
use Rattle.expr.specs.Tree.{Expr}
use Rattle.expr.specs.Scan.{plain_expr}
use Rattle.expr.specs.Statement.{Statement}
use Rattle.expr.specs.Statement.Statement.{assignment, other}
use Rattle.expr.proofs.Plainness.{plain-parts}
use Rattle.sheet_node.proofs.Variables.{Below, AllBelow}
use Rattle.value.specs.Operators.{truth_of}
use Rattle.value.specs.Evaluation.{Values, Memory, Effects, shared, ev}
use Rattle.value.specs.Run.{Choices, update, given, run_from}
use Rattle.value.proofs.Independence.{by-variables-read}
use Rattle.value.proofs.Steps.{Plain, plain-ev}
use Rattle.evaluate_node.specs.Evaluate.{plain_all}
use Rattle.laws.proofs.Booleans.{and_left, and_right}

pub is_plain : (e : Expr) → plain_expr e ≡ true → Plain e
is_plain e h =
    let p = plain-parts e h in
    record { no_load = p.1; no_own_value = p.0 }

-- two lists of values that agree at the first n variables
abbrev pub Same : ℕ → Values → Values → Type 0
Same n ρ ρ' = (v : ℕ) → v < n → ρ v ≡ ρ' v

same-value : (types : List ℕ) (n : ℕ) (ρ ρ' : Values) (m m' : Memory) (f f' : Effects) (e : Expr) → plain_expr e ≡ true → Below n e → Same n ρ ρ'
    → ev types ρ ρ m f e ≡ ev types ρ' ρ' m' f' e
same-value types n ρ ρ' m m' f f' e p b h =
    plain-ev types ρ ρ ρ m m' f f' e (is_plain e p)
    ∙ by-variables-read types ρ ρ' ρ ρ' m' f' e (λ v r. h v (b v r)) (λ v r. h v (b v r))

same-given : (u : Option ℕ) (next next' : ℕ → Option Bool) → ((x : ℕ) → next x ≡ next' x) → given u next ≡ given u next'
same-given (Some x) next next' h = h x
same-given None next next' h = refl

same_update : (n v x : ℕ) (ρ ρ' : Values) → Same n ρ ρ' → Same n (update v x ρ) (update v x ρ')
same_update n v x ρ ρ' h k below = ap (λ (y : ℕ). cond (eqb k v) x y) (h k below)

-- a plain node's run depends only on the values that its variables start from
pub same-run : (types : List ℕ) (n : ℕ) (c c' : Choices) (condition : Expr) (i : ℕ) (l : List Statement) (ρ ρ' : Values)
    → plain_all l ≡ true → plain_expr condition ≡ true → AllBelow n l → Below n condition → Same n ρ ρ'
    → run_from types c condition i l ρ ≡ run_from types c' condition i l ρ'
unfolding run_from plain_all
same-run types n c c' condition i [] ρ ρ' p q b d h =
    ap truth_of (same-value types n ρ ρ' (shared c.contents) (shared c'.contents) (c.effects i) (c'.effects i) condition q d h)
same-run types n c c' condition i (other ∷ rest) ρ ρ' p q b d h = absurd (false≢true p)
same-run types n c c' condition i (assignment v e ∷ rest) ρ ρ' p q b d h =
    ap (λ (u : Option ℕ). given u (λ x. run_from types c condition (suc i) rest (update v x ρ)))
    (same-value types n ρ ρ' (c.memory i) (c'.memory i) (c.effects i) (c'.effects i) e (and_left (plain_expr e) (plain_all rest) p) b.0 h)
    ∙ same-given (ev types ρ' ρ' (c'.memory i) (c'.effects i) e) _ _
    (λ x. same-run types n c c' condition (suc i) rest (update v x ρ) (update v x ρ') (and_right (plain_expr e) (plain_all rest) p) q b.1 d (same_update n v x ρ ρ' h))
