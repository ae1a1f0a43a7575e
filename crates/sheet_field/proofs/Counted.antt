-- A count, then that many records: laws that hold whatever the records are. `place k` is where reading stands after the
-- first k records, `list k` what they gave; a record that is read where reading was refused leaves the refusal.
use Prim.Native.Nat.{ℕ, zero, suc, ◌≤◌, ◌<◌}
use mathlib.Core.Path.{◌≡◌, refl, ◌∙◌}
use mathlib.Core.List.{List, [], ◌∷◌, ◌++◌}
use mathlib.Core.Logic.{⊎_elim}
use native.Mathlib.Omega.{arith}
use native.Mathlib.Nat.{eq-or-lt_of_le}
use lib.ListN.{length, get_or, length-append, get_or-append}
use lib.Seq.{get_or_at}
use Rattle.std.specs.Prelude.{Ok, Err}
use Rattle.refusal.specs.declared.Refusal.{Refusal}
use Rattle.sheet_field.specs.Field.{Place, WentOn}

module _ (place : ℕ → Place) (keeps : (j : ℕ) (r : Refusal) → place j ≡ Err r → place (suc j) ≡ Err r) where
  -- a loop may end where reading is refused
  pub stays : (n j : ℕ) (r : Refusal) → place j ≡ Err r → j ≤ n → place n ≡ Err r
  stays zero j r e le = let z : 0 ≡ j = omega arith in rw z e
  stays (suc n) j r e le =
      ⊎_elim (λ (z : j ≡ suc n). rw (← z) e) (λ (lt : j < suc n). keeps n r (stays n j r e (omega arith))) (eq-or-lt_of_le le)

  -- where reading went on after all records, it did so after each
  pub back : (n j : ℕ) {a : ℕ} → place n ≡ Ok a → j ≤ n → WentOn (place j)
  back n j {a} e le = go (place j) refl
    where
      go : (p : Place) → place j ≡ p → WentOn (place j)
      go (Ok b) q = (b, q)
      go (Err r) q = let never = stays n j r q le in absurd cc

module _ {A : Type 0} (list : ℕ → List A) (item : ℕ → A) (none : list 0 ≡ []) (more : (k : ℕ) → list (suc k) ≡ list k ++ (item k ∷ [])) where
  pub counted : (n : ℕ) → length (list n) ≡ n
  counted zero = rw none
  counted (suc n) = rw (more n, length-append, counted n) (omega arith)

  pub nth : (n j : ℕ) (d : A) → j < n → get_or (list n) j d ≡ item j
  nth zero j d lt = absurd (omega arith)
  nth (suc n) j d lt =
      rw (more n)
      (⊎_elim
      (λ (z : j ≡ n). rw z (get_or_at (list n) (item n) [] d n (counted n)))
      (λ (below : j < n). get_or-append (list n) (item n ∷ []) d j (rw (counted n) below) ∙ nth n j d below)
      (eq-or-lt_of_le (omega arith)))
