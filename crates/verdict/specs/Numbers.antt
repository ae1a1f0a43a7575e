-- The scope document's numbers for each case of a verdict and of an answer.
use Rattle.std.specs.Prelude.{ℕ, Result, Ok, Err}
use Rattle.refusal.specs.declared.Refusal.{Refusal}
use Rattle.refusal.specs.Numbers.{number_of}
use Rattle.verdict.specs.declared.Reason.{Reason}
use Rattle.verdict.specs.declared.Reason.TheVariants.{Flags, EqualSides, Truth, UnsignedZero, ExactSides, Parity, Halves}
use Rattle.verdict.specs.declared.Verdict.{Verdict}
use Rattle.verdict.specs.declared.Verdict.TheVariants.{Always, Never, Undecided, NoBranch}

-- The reasons: what is known of flags is 1; for nodes 2 is equal sides, 3 a condition that is true or false itself, 4 an
-- unsigned cast compared with 0, 5 sides whose low bits are exact, 6 sides of different parity, 7 two halves together
-- (L2, D18, F12).
abbrev pub reason_number : Reason → ℕ
reason_number Flags = 1
reason_number EqualSides = 2
reason_number Truth = 3
reason_number UnsignedZero = 4
reason_number ExactSides = 5
reason_number Parity = 6
reason_number Halves = 7

-- what an operation answers
abbrev pub Answer : Type 0
Answer = Result Verdict Refusal

-- An answer in numbers: a decision has a value and a reason, a refusal a number and an offset.
pub data Numbers : Type 0 where
  decision : (value reason : ℕ) → Numbers
  undecided : Numbers
  no_branch : Numbers
  refused : (number place : ℕ) → Numbers

-- Always has the value 1 and never 0, each with its reason's number; the other verdicts have no number (L1, D18).
abbrev pub verdict_numbers : Verdict → Numbers
verdict_numbers (Always r) = decision 1 (reason_number r)
verdict_numbers (Never r) = decision 0 (reason_number r)
verdict_numbers Undecided = undecided
verdict_numbers NoBranch = no_branch

-- The numbers of every answer (D18).
abbrev pub answer_numbers : Answer → Numbers
answer_numbers (Ok v) = verdict_numbers v
answer_numbers (Err r) = refused (number_of r.fault) r.at
