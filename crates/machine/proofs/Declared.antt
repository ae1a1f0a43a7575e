-- inc, dec and neg that declare the flags of their result.
use Prim.Native.Nat.{ℕ}
use mathlib.Core.Path.{◌≡◌}
use mathlib.Core.Bool.{true}
use Rattle.isa.specs.FlagBits.{PF, ZF, SF, OF, declares}
use Rattle.isa.specs.Modelled.{declares_result}
use Rattle.std.proofs.Common.{arith}

-- each of the four
pub record DeclaresResult (d : ℕ) : Type 0 where
  pub pf : declares d PF ≡ true
  pub zf : declares d ZF ≡ true
  pub sf : declares d SF ≡ true
  pub of : declares d OF ≡ true

pub result_parts : (d : ℕ) → declares_result d ≡ true → DeclaresResult d
result_parts d h =
    record { pf = grind (arith, h); zf = grind (arith, h); sf = grind (arith, h); of = grind (arith, h) }
