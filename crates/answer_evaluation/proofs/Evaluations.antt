-- The cases of the evaluation, over plain values.
use Prim.Native.Nat.{ℕ}
use mathlib.Core.Path.{◌≡◌, refl, sym}
use mathlib.Core.List.{List}
use Rattle.std.specs.Prelude.{Ok, Err}
use Rattle.refusal.specs.declared.Refusal.{Refusal}
use Rattle.refusal.specs.Numbers.{number_of}
use Rattle.sheet_field.specs.Field.{Place}
use Rattle.sheet_node.specs.Node.{node_at, node_of}
use Rattle.sheet.specs.Sheet.{Reading, reading_of, node_numbered}
use Rattle.sheet.specs.Promises.{found_on}
use Rattle.sheet.proofs.Found.{found-node, by_place, found-on}
use Rattle.evaluate_node.specs.Evaluate.{Evaluation, evaluation_of}
use Rattle.answer_evaluation.specs.Evaluation.{Evaluated, in_numbers, evaluated_node, node_on, evaluation_answer}
use Rattle.answer_evaluation.specs.Evaluation.Evaluated.{refused}

-- a refusal in numbers
abbrev in_refused : Refusal → Evaluated
in_refused r = refused (number_of r.fault) r.at

module _ (s : List ℕ) (number : ℕ) (values : List ℕ) {p : Place} (found : p ≡ found_on (reading_of s) s number) where
  evaluated-by : evaluation_answer s number values ≡ by_place (λ place. in_numbers (evaluation_of (node_numbered s number) place values)) in_refused p
  unfolding evaluation_answer evaluated_node by_place
  evaluated-by = rw found (by (reading_of s))
    where
      by : (r : Reading) → node_on r s number values ≡ by_place (λ place. in_numbers (evaluation_of (node_numbered s number) place values)) in_refused (found_on r s number)
      by (Err r) = refl
      by (Ok sheet) = sym (found-on (λ place. in_numbers (evaluation_of (node_numbered s number) place values)) in_refused s number sheet)

  pub evaluation-refused : {r : Refusal} → p ≡ Err r → refused (number_of r.fault) r.at ≡ evaluation_answer s number values
  unfolding by_place
  evaluation-refused is = sym (rw is at evaluated-by)

  pub evaluation-is : {at : ℕ} {e : Evaluation} → p ≡ Ok at
      → e ≡ evaluation_of (node_of s (node_at s (Ok at))) at values → in_numbers e ≡ evaluation_answer s number values
  unfolding by_place
  evaluation-is is e-is = rw (e-is, found-node s number found is) (sym (rw is at evaluated-by))
