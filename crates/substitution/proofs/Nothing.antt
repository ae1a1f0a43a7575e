-- Where nothing is held, nothing changes.
use Prim.Native.Nat.{ℕ, ◌≤◌}
use mathlib.Core.Path.{◌≡◌, refl}
use mathlib.Core.List.{List, []}
use lib.ListN.{length}
use Rattle.expr.specs.Tree.{Expr, Wf, tree_of}
use Rattle.expr.specs.Tree.Expr.{variable, constant, condition_true, condition_false, effect, load, cast, binary, ternary}
use Rattle.substitution.specs.Substitution.{nothing_held, substitute, into, with_assignments, substituted}
use Rattle.substitution.proofs.Backward.{not-long}

nothing-changes : (e : Expr) → substitute nothing_held e ≡ e
unfolding substitute
nothing-changes (variable n) = refl
nothing-changes (constant w x) = refl
nothing-changes condition_true = refl
nothing-changes condition_false = refl
nothing-changes (effect t) = refl
nothing-changes (load t a) = refl
nothing-changes (cast t a) = rw (nothing-changes a)
nothing-changes (binary o a b) = rw (nothing-changes a, nothing-changes b)
nothing-changes (ternary c a b) = rw (nothing-changes c, nothing-changes a, nothing-changes b)

-- a condition without statements before it
pub nothing-assigned : (ws : List ℕ) → Wf ws → length ws ≤ 256 → with_assignments [] (tree_of ws) ≡ into (tree_of ws)
unfolding substituted
nothing-assigned ws wf short = rw (nothing-changes (tree_of ws), not-long (tree_of ws) (rw wf short))
