-- A register is well formed, as reading tests it, exactly where it is as the format says.
use Prim.Native.Nat.{ℕ, ◌≤◌}
use mathlib.Core.Path.{◌≡◌, refl}
use mathlib.Core.Logic.{◌⊎◌, inl, inr, ⊎_elim}
use mathlib.Core.Bool.{Bool, true, false}
use lib.Dec.{eqb}
use borrow.Author.Tests.{eqb-true, eq-eqb}
use Rattle.isa.specs.declared.Register.{Register}
use Rattle.isa.specs.Register.{well_formed}
use Rattle.format.specs.Valid.{FromZero, SecondByte, ClassOne}
use Rattle.format.proofs.Tests.{Tests, of_eq, of_le, of_and, of_or}

-- what the tests of a register of class 1 say, in their order
abbrev Size : ℕ → Type 0
Size n = (((n ≡ 8) ⊎ (n ≡ 16)) ⊎ (n ≡ 32)) ⊎ (n ≡ 64)

abbrev Tested : Register → Type 0
Tested r = (r.index ≤ 15) × (((r.offset ≡ 0) × Size r.size) ⊎ (((r.offset ≡ 8) × (r.size ≡ 8)) × (r.index ≤ 3)))

tested : (r : Register) → r.class ≡ 1 → Tests (well_formed r) (Tested r)
tested r one =
    let n = r.size in
    let sizes = of_or (of_or (of_or (of_eq n 8) (of_eq n 16)) (of_eq n 32)) (of_eq n 64) in
    let byte = of_and (of_and (of_eq r.offset 8) (of_eq n 8)) (of_le r.index 3) in
    rw (eq-eqb r.class 1 one) (of_and (of_le r.index 15) (of_or (of_and (of_eq r.offset 0) sizes) byte))

to-size : (n : ℕ) → (n ≡ 8) ⊎ ((n ≡ 16) ⊎ ((n ≡ 32) ⊎ (n ≡ 64))) → Size n
to-size n (inl e) = inl (inl (inl e))
to-size n (inr (inl e)) = inl (inl (inr e))
to-size n (inr (inr (inl e))) = inl (inr e)
to-size n (inr (inr (inr e))) = inr e

from-size : (n : ℕ) → Size n → (n ≡ 8) ⊎ ((n ≡ 16) ⊎ ((n ≡ 32) ⊎ (n ≡ 64)))
from-size n (inl (inl (inl e))) = inl e
from-size n (inl (inl (inr e))) = inr (inl e)
from-size n (inl (inr e)) = inr (inr (inl e))
from-size n (inr e) = inr (inr (inr e))

to-tested : (r : Register) → ClassOne r → Tested r
to-tested r h = (
  h.index,
  ⊎_elim (λ (z : FromZero r). inl (z.offset, to-size r.size z.size)) (λ (b : SecondByte r). inr ((b.offset, b.size), b.index)) h.part,
)

from-tested : (r : Register) → Tested r → ClassOne r
from-tested r h =
    record {
      index = h.0;
      part = ⊎_elim (λ z. inl (record { offset = z.0; size = from-size r.size z.1 })) (λ b. inr (record { offset = b.0.0; size = b.0.1; index = b.1 })) h.1;
    }

pub class-one : (r : Register) → well_formed r ≡ true → r.class ≡ 1 → ClassOne r
class-one r e one = from-tested r ((tested r one).holds e)

pub well-formed : (r : Register) → (r.class ≡ 1 → ClassOne r) → well_formed r ≡ true
well-formed r h = go (eqb r.class 1) refl
  where
    go : (t : Bool) → eqb r.class 1 ≡ t → well_formed r ≡ true
    go true q = let one = eqb-true r.class 1 q in (tested r one).passes (to-tested r (h one))
    go false q = rw q
