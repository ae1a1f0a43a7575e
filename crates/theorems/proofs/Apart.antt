-- Answers and options that are not equal, and what equal ones have in common.
use Prim.Native.Nat.{ℕ}
use mathlib.Core.Path.{◌≡◌}
use Rattle.std.specs.Prelude.{None, Some}
use Rattle.verdict.specs.Numbers.Numbers.{decision, refused}

pub no-decision : {X : Type 0} {k at value reason : ℕ} → refused k at ≡ decision value reason → X
no-decision e = cc

pub some_same : {a b : ℕ} → Some a ≡ Some b → a ≡ b
some_same e = cc

pub not_some : {X : Type 0} {a : ℕ} → None ≡ Some a → X
not_some e = cc
