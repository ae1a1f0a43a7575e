-- What a slot holds of a decided verdict is not 0.
use mathlib.Core.Path.{◌≡◌}
use native.Mathlib.Omega.{arith}
use Rattle.verdict.specs.declared.Reason.{Reason}
use Rattle.verdict.specs.declared.Verdict.TheVariants.{Always, Never}
use Rattle.verdict_lines.specs.Slots.{slot_of}
use Rattle.verdict_lines.proofs.Decided.{reason-range}

pub always-some : (r : Reason) → slot_of (Always r) ≡ 0 → ⊥
always-some r none = omega (arith, none)

pub never-some : (r : Reason) → slot_of (Never r) ≡ 0 → ⊥
never-some r none = omega (arith, none, (reason-range r).0)
