-- What a C host is given: the number that a function returns, and what it writes to `out` and `reason`.
use Rattle.std.specs.Prelude.{ℕ, ◌≡◌}
use Rattle.verdict.specs.Numbers.{Numbers}
use Rattle.verdict.specs.Numbers.Numbers.{decision, undecided, no_branch, refused as refused_verdict}
use Rattle.answer_listing.specs.Listing.{ListedNumbers}
use Rattle.answer_listing.specs.Listing.ListedNumbers.{lines, refused as refused_listing}
use Rattle.answer_evaluation.specs.Evaluation.{Evaluated}
use Rattle.answer_evaluation.specs.Evaluation.Evaluated.{outcome, refused}

-- The listing: 0 and the number of lines, or the refusal's number and offset (R1, D3, F4).
abbrev pub ReturnedListing : ℕ → ℕ → ListedNumbers → Type 0
ReturnedListing r out (lines count) = (r ≡ 0) × (out ≡ count)
ReturnedListing r out (refused_listing number place) = (r ≡ number) × (out ≡ place)

-- The evaluation: 0 and 1 where the condition holds, or 0; or the refusal's number and offset (R1, D3, F4).
abbrev pub Returned : ℕ → ℕ → Evaluated → Type 0
Returned r out (outcome value) = (r ≡ 0) × (out ≡ value)
Returned r out (refused number place) = (r ≡ number) × (out ≡ place)

-- The node verdict: 0, with 1 for always, 0 for never or 2 for undecided, and the reason's number, 0 where it is undecided; or the refusal's number and
-- offset, with 0 for the reason. No node's answer is that there is no branch (R1, D3, F4).
abbrev pub ReturnedVerdict : ℕ → ℕ → ℕ → Numbers → Type 0
ReturnedVerdict r out reason (decision value number) = (r ≡ 0) × (out ≡ value) × (reason ≡ number)
ReturnedVerdict r out reason undecided = (r ≡ 0) × (out ≡ 2) × (reason ≡ 0)
ReturnedVerdict r out reason no_branch = ⊥
ReturnedVerdict r out reason (refused_verdict number place) = (r ≡ number) × (out ≡ place) × (reason ≡ 0)

-- The number of the C interface, which changes where a host has to change (F4).
abbrev pub version : ℕ
version = 1
