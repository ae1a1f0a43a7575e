-- `expr::arity` meets its contract: kind by kind, two bits of one number are the table's entry.
-- Assumes nothing.
use mathlib.Core.Path.{◌≡◌, refl}
use mathlib.Core.Bool.{Bool, true, false}
use Prim.Native.Nat.{ℕ, ◌+◌, ◌*◌, ◌/◌, ◌%◌, ◌^◌, ◌-◌, ◌<◌}
use native.Mathlib.Omega.{arith}
use borrow.Author.Tests.{ltb-true, ltb-false}
use lib.Dec.{ltb}
use lib.ListN.{get_or}
use mathlib.Core.List.{[], ◌∷◌}
use Rattle.expr.specs.Tree.{arity_of}
use Rattle.expr.proofs.Laws.{nine}
use Rattle.expr.proofs.arity.Goals as goal

abbrev Right : ℕ → Type 0
Right k = 0x39400 / 2 ^ (2 * k) % 4 ≡ get_or (0 ∷ 0 ∷ 0 ∷ 0 ∷ 0 ∷ 1 ∷ 1 ∷ 2 ∷ 3 ∷ []) k 0

-- the kinds, and the numbers up to 15 that are no kind
right : (k : ℕ) → k < 16 → Right k
right k l = go (ltb k 9) refl
  where
    go : (b : Bool) → ltb k 9 ≡ b → Right k
    go true e = nine Right refl refl refl refl refl refl refl refl refl k (omega (arith, ltb-true k 9 e))
    go false e =
        let past : 9 + (k - 9) ≡ k = omega (arith, ltb-false k 9 e) in
        rw past at (nine (λ (j : ℕ). Right (9 + j)) refl refl refl refl refl refl refl refl refl (k - 9) (omega arith))

pub returns : goal.returns
unfolding arity_of
returns c =
    rw (← c.kind.ensures) (right c.kind.result (omega arith))
