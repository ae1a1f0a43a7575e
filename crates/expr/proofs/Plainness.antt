-- What is plain: neither value of its own nor load, and so all trees below. Assumes nothing.
use mathlib.Core.Path.{◌≡◌, refl, sym}
use mathlib.Core.Bool.{Bool, true, false, not, ◌||◌, false≢true}
use Prim.Native.Nat.{ℕ}
use Rattle.expr.specs.Tree.{Expr}
use Rattle.expr.specs.Tree.Expr.{effect, load, cast, binary, ternary}
use Rattle.expr.specs.Scan.{any_node, is_effect, is_load, has_own_value, has_load, plain_expr}

-- where neither of two holds
pub nor : (a b : Bool) → not (a || b) ≡ true → (a ≡ false) × (b ≡ false)
nor true b h = absurd (false≢true h)
nor false true h = absurd (false≢true h)
nor false false h = (refl, refl)

-- of two pairs, regrouped
nor-both : (a b c d : Bool) → not ((a || b) || (c || d)) ≡ true → (not (a || c) ≡ true) × (not (b || d) ≡ true)
nor-both true b c d h = absurd (false≢true h)
nor-both false true c d h = absurd (false≢true h)
nor-both false false true d h = absurd (false≢true h)
nor-both false false false true h = absurd (false≢true h)
nor-both false false false false h = (refl, refl)

pub plain-parts : (e : Expr) → plain_expr e ≡ true → (has_own_value e ≡ false) × (has_load e ≡ false)
plain-parts e h = nor (has_own_value e) (has_load e) h

pub plain-cast : (t : ℕ) (a : Expr) → plain_expr (cast t a) ≡ true → plain_expr a ≡ true
unfolding any_node is_effect is_load
plain-cast t a h = h

pub plain-binary : (o : ℕ) (a b : Expr) → plain_expr (binary o a b) ≡ true → (plain_expr a ≡ true) × (plain_expr b ≡ true)
unfolding any_node is_effect is_load
plain-binary o a b h = nor-both (has_own_value a) (has_own_value b) (has_load a) (has_load b) h

pub plain-ternary : (c a b : Expr) → plain_expr (ternary c a b) ≡ true → (plain_expr c ≡ true) × (plain_expr a ≡ true) × (plain_expr b ≡ true)
unfolding any_node is_effect is_load
plain-ternary c a b h =
    let k = nor-both (has_own_value c) (has_own_value a || has_own_value b) (has_load c) (has_load a || has_load b) h in
    let l = nor-both (has_own_value a) (has_own_value b) (has_load a) (has_load b) k.1 in
    (k.0, l.0, l.1)

pub effect-not-plain : (t : ℕ) → plain_expr (effect t) ≡ true → ⊥
unfolding any_node is_effect
effect-not-plain t h = false≢true h

pub load-not-plain : (t : ℕ) (a : Expr) → plain_expr (load t a) ≡ true → ⊥
unfolding any_node is_effect is_load
load-not-plain t a h = false≢true (sym (nor (has_own_value a) true h).1)
