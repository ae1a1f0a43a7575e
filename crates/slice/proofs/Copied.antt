-- A list is copied into another, from an offset on: the first i elements are.
use Prim.Native.Nat.{ℕ, ◌+◌, ◌≤◌, ◌<◌}
use mathlib.Core.Path.{◌≡◌, refl, sym, ap, ◌∙◌}
use mathlib.Core.List.{List}
use native.Mathlib.Numerals.{add-one}
use native.Mathlib.Omega.{arith}
use lib.ListN.{length, get_or, set, length-set}
use lib.Seq.{paste, paste-zero, paste-suc}

pub record Copied (a old new : List ℕ) (at i : ℕ) : Type 0 where
  pub within : i ≤ length a
  pub long : length new ≡ length old
  pub is : new ≡ paste old at a i

pub copied_none : (a l : List ℕ) (at : ℕ) → Copied a l l at 0
copied_none a l at = record { within = omega arith; long = refl; is = paste-zero l at a }

pub copied_more : {a old new : List ℕ} {at i : ℕ} → Copied a old new at i → at + length a ≤ length old → i < length a
    → Copied a old (set new (at + i) (get_or a i 0)) at (i + 1)
copied_more {a} {old} {new} {at} {i} c room less = record {
  within = omega arith;
  long = length-set new (at + i) (get_or a i 0) ∙ c.long;
  is =
      ap (λ (l : List ℕ). set l (at + i) (get_or a i 0)) c.is
      ∙ paste-suc old at a i 0 (omega arith) less
      ∙ ap (paste old at a) (sym (add-one i));
}

pub copied_all : {a old new : List ℕ} {at i : ℕ} → Copied a old new at i → length a ≤ i → new ≡ paste old at a (length a)
copied_all {a} {old} {new} {at} {i} c end =
    let all : i ≡ length a = omega (arith, c.within) in
    rw all at c.is
