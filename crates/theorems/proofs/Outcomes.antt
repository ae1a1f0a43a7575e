-- Evaluation, by the answers that its contract speaks of: whatever the bytes, the number and the borrowed values, an answer is what every run of that
-- node does that starts from those values.
use Rattle.std.specs.Prelude.{Bool, Option, None, Ok, Err}
use Prim.Native.Nat.{ℕ, ◌≤◌, ◌<◌}
use mathlib.Core.Path.{◌≡◌, refl, sym, ap, ◌∙◌}
use mathlib.Core.List.{List}
use mathlib.Core.Logic.{◌⊎◌, inl, inr, ⊎_elim, ◌↔◌}
use native.Mathlib.Omega.{arith}
use borrow.Author.Tests.{ltb-true}
use lib.Dec.{ltb}
use lib.ListN.{length, get_or}
use mathlib.Core.Bool.{true, false}
use Rattle.refusal.specs.Numbers.{number_of}
use Rattle.refusal.specs.declared.Fault.TheVariants.{Division}
use Rattle.refusal.specs.declared.Refusal.{Refusal}
use Rattle.refusal.proofs.Apart.{faults-apart}
use Rattle.sheet_node.specs.Node.{node_at}
use Rattle.sheet_node.proofs.Variables.{ReadsDeclared, reads-declared}
use Rattle.sheet.specs.declared.Sheet.{Sheet}
use Rattle.sheet.specs.Sheet.{sheet_at, reading_of, no_node, node_numbered, node_place, Reading}
use Rattle.sheet.proofs.ByNumber.{node-places-count, nth-node-read, nth-node-is}
use Rattle.sheet.proofs.Refusals.{ByReading, reading-number}
use Rattle.value.specs.Run.{Choices}
use Rattle.evaluate_node.specs.Evaluate.{on_truth, StartsFrom, Gives, FromRun, Evaluation}
use Rattle.evaluate_node.proofs.Every.{every-run, evaluation-outcome, evaluation-number}
use Rattle.answer_evaluation.specs.Evaluation.{Evaluated, in_numbers, evaluated_node, node_on, evaluation_answer}
use Rattle.answer_evaluation.specs.Evaluation.Evaluated.{outcome, refused}
use Rattle.pomthija.specs.Returned.{Returned}
use Rattle.laws.proofs.Booleans.{by_test}
use Rattle.theorems.specs.Runs.{node_run, SaysOf, AnswerFromRun}

-- a node of an accepted sheet reads only variables that it declares
declared-only : (s : List ℕ) (sheet : Sheet) → reading_of s ≡ Ok sheet → (number : ℕ) → number < sheet.nodes.count
    → ReadsDeclared (node_numbered s number)
declared-only s sheet read number below =
    let places = (sheet_at s).nodes.places in
    let node = node_at s (Ok (get_or places number 0)) in
    let there : number < length places = rw (node-places-count s sheet read) below in
    let r = nth-node-read s sheet read number {places = places} {r = node} refl there refl in
    rw (← nth-node-is s sheet read number {places = places} {r = node} refl there refl no_node)
    (reads-declared s (Ok (get_or places number 0)) {a = r.on.0} r.on.1)

says : (e : Evaluation) (t : Option Bool) → Gives e t → SaysOf (in_numbers e) t
says (Ok true) t h = h
says (Ok false) t h = h
says (Err r) t h = λ fourteen. h (faults-apart r.fault Division fourteen)

-- The theorem: for all bytes, every number and all borrowed values, the answer is what every run of that node does that starts from those values.
pub answers-run : (s : List ℕ) (number : ℕ) (values : List ℕ) (c : Choices) → StartsFrom (node_numbered s number).types values c
    → SaysOf (evaluation_answer s number values) (node_run s number c)
unfolding evaluation_answer evaluated_node
answers-run s number values c starts = go (reading_of s) refl
  where
    go : (r : Reading) → reading_of s ≡ r → SaysOf (node_on r s number values) (node_run s number c)
    go (Err r) q = λ e. absurd (omega (arith, e, reading-number s q))
    go (Ok sheet) q =
        by_test (ltb number sheet.nodes.count)
        (λ t. rw t
        (says (evaluated_node s number values) (node_run s number c)
        (every-run (node_numbered s number) (node_place s number) values (declared-only s sheet q number (ltb-true _ _ t)) c starts)))
        (λ t. rw t (λ e. absurd (omega (arith, e))))

from-run : (e : Evaluation) → AnswerFromRun (in_numbers e) → FromRun e
from-run (Ok true) h = tt
from-run (Ok false) h = tt
from-run (Err r) h = faults-apart r.fault Division h

-- And back: an answer that comes from the run is the outcome of each of those runs, in numbers.
pub answer-outcome : (s : List ℕ) (number : ℕ) (values : List ℕ) (c : Choices) → StartsFrom (node_numbered s number).types values c
    → AnswerFromRun (evaluation_answer s number values)
    → evaluation_answer s number values ≡ in_numbers (on_truth (node_place s number) (node_run s number c))
unfolding evaluation_answer evaluated_node
answer-outcome s number values c starts from = go (reading_of s) refl from
  where
    go : (r : Reading) → reading_of s ≡ r → AnswerFromRun (node_on r s number values)
        → node_on r s number values ≡ in_numbers (on_truth (node_place s number) (node_run s number c))
    go (Err r) q h = absurd (omega (arith, h, reading-number s q))
    go (Ok sheet) q h =
        by_test (ltb number sheet.nodes.count)
        (λ t. rw t
        (ap in_numbers
        (evaluation-outcome (node_numbered s number) (node_place s number) values (declared-only s sheet q number (ltb-true _ _ t)) c starts
        (from-run (evaluated_node s number values) (rw t at h)))))
        (λ t. let thirteen : 13 ≡ 14 = rw t at h in absurd (omega (arith, thirteen)))

-- a choice that starts from the borrowed values
abbrev pub lent : List ℕ → Choices
lent values =
    record { start = λ v. get_or values v 0; memory = λ i path t a. 0; contents = λ t a. 0; effects = λ i path. 0; renewed = λ i v. 0 }

lent-starts : (types values : List ℕ) → StartsFrom types values (lent values)
lent-starts types values v below = refl

-- The theorem on 14: where an answer comes from the run, it is 14 exactly when no run that starts from the borrowed values has an outcome.
pub fourteen : (s : List ℕ) (number : ℕ) (values : List ℕ) → AnswerFromRun (evaluation_answer s number values)
    → (evaluation_answer s number values ≡ refused 14 (node_place s number))
    ↔ ((c : Choices) → StartsFrom (node_numbered s number).types values c → node_run s number c ≡ None)
fourteen s number values from = (
  (λ e c starts. said (evaluation_answer s number values) (node_run s number c) e (answers-run s number values c starts)),
  (λ none.
      let c = lent values in
      let starts = lent-starts (node_numbered s number).types values in
      answer-outcome s number values c starts from ∙ ap (λ (t : Option Bool). in_numbers (on_truth (node_place s number) t)) (none c starts)),
)
  where
    said : (a : Evaluated) (t : Option Bool) → a ≡ refused 14 (node_place s number) → SaysOf a t → t ≡ None
    said a t e h = let g : SaysOf (refused 14 (node_place s number)) t = rw e at h in g refl

-- the numbers that the evaluation refuses with: reading's 1 to 9, 13, and the node's 14 to 16
abbrev ByEvaluation : ℕ → Type 0
ByEvaluation k = ((1 ≤ k) × (k ≤ 9)) ⊎ ((13 ≤ k) × (k ≤ 16))

-- an evaluation that is a refusal of that number
record RefusedAs (e : Evaluation) (k : ℕ) : Type 0 where
  by : Refusal
  is : e ≡ Err by
  number : number_of by.fault ≡ k

numbered : (e : Evaluation) {k at : ℕ} → in_numbers e ≡ refused k at → RefusedAs e k
numbered (Ok true) e = absurd cc
numbered (Ok false) e = absurd cc
numbered (Err r) e = record { by = r; is = refl; number = cc }

pub refusal-number : (s : List ℕ) (number : ℕ) (values : List ℕ) {k at : ℕ} → evaluation_answer s number values ≡ refused k at → ByEvaluation k
unfolding evaluation_answer evaluated_node
refusal-number s number values {k} {at} e = go (reading_of s) refl e
  where
    go : (r : Reading) → reading_of s ≡ r → node_on r s number values ≡ refused k at → ByEvaluation k
    go (Err r) q h = let same : number_of r.fault ≡ k = cc in inl (rw same at (reading-number s q))
    go (Ok sheet) q h =
        by_test (ltb number sheet.nodes.count)
        (λ t.
        let a = numbered (evaluated_node s number values) (rw t at h) in
        let n = evaluation-number (node_numbered s number) (node_place s number) values a.is in
        let own : (13 ≤ number_of a.by.fault) × (number_of a.by.fault ≤ 16) = (omega (arith, n.0), n.1) in
        inr (rw a.number at own))
        (λ t. let same : 13 ≡ k = thirteen (rw t at h) in inr (omega (arith, same), omega (arith, same)))
      where
        thirteen : refused 13 0 ≡ refused k at → 13 ≡ k
        thirteen e = cc

-- an outcome is 1 or 0
pub outcome-bit : (s : List ℕ) (number : ℕ) (values : List ℕ) (value : ℕ) → evaluation_answer s number values ≡ outcome value → value ≤ 1
unfolding evaluation_answer
outcome-bit s number values value e = go (reading_of s) e
  where
    refused-outcome : {X : Type 0} {k at : ℕ} → refused k at ≡ outcome value → X
    refused-outcome e = cc

    bit : (a : Evaluation) → in_numbers a ≡ outcome value → value ≤ 1
    bit (Ok true) e = let is : 1 ≡ value = cc in omega (arith, is)
    bit (Ok false) e = let is : 0 ≡ value = cc in omega (arith, is)
    bit (Err r) e = refused-outcome e

    go : (r : Reading) → node_on r s number values ≡ outcome value → value ≤ 1
    go (Err r) h = refused-outcome h
    go (Ok sheet) h =
        by_test (ltb number sheet.nodes.count) (λ t. bit (evaluated_node s number values) (rw t at h)) (λ t. refused-outcome (rw t at h))

-- a refusal's number is never 0
pub never-zero : (s : List ℕ) (number : ℕ) (values : List ℕ) {k at : ℕ} → evaluation_answer s number values ≡ refused k at → k ≡ 0 → ⊥
never-zero s number values e zero_is =
    ⊎_elim (λ (h : ByReading _). omega (arith, h.0, zero_is)) (λ h. omega (arith, h.0, zero_is)) (refusal-number s number values e)

-- so a C host that is given 0 has the answer
pub returned-zero : (s : List ℕ) (number : ℕ) (values : List ℕ) (r out : ℕ) → Returned r out (evaluation_answer s number values) → r ≡ 0
    → evaluation_answer s number values ≡ outcome out
returned-zero s number values r out given zero_is = go (evaluation_answer s number values) refl given
  where
    go : (a : Evaluated) → evaluation_answer s number values ≡ a → Returned r out a → a ≡ outcome out
    go (outcome value) q h = ap outcome (sym h.1)
    go (refused k at) q h = absurd (never-zero s number values q (sym h.0 ∙ zero_is))
