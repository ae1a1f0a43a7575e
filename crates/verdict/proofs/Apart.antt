-- Different answers have different numbers: the numbers give the answer back.
use Prim.Native.Nat.{ℕ}
use mathlib.Core.Path.{◌≡◌, refl, sym, ap, ◌∙◌}
use mathlib.Core.Bool.{cond}
use lib.Dec.{eqb}
use Rattle.std.specs.Prelude.{Ok, Err}
use Rattle.refusal.specs.declared.Fault.{Fault}
use Rattle.refusal.specs.Numbers.{refused}
use Rattle.refusal.proofs.Apart.{fault_of, fault_back}
use Rattle.verdict.specs.declared.Reason.{Reason}
use Rattle.verdict.specs.declared.Reason.TheVariants.{Flags, EqualSides, Truth, UnsignedZero, ExactSides, Parity, Halves}
use Rattle.verdict.specs.declared.Verdict.{Verdict}
use Rattle.verdict.specs.declared.Verdict.TheVariants.{Always, Never, Undecided, NoBranch}
use Rattle.verdict.specs.Numbers.{Answer, Numbers, reason_number, answer_numbers}
use Rattle.verdict.specs.Numbers.Numbers.{decision, undecided, no_branch, refused as numbered_refusal}

-- the reason of a number
abbrev numbered : ℕ → Reason
numbered n =
    cond (eqb n 1) Flags
    (cond (eqb n 2) EqualSides
    (cond (eqb n 3) Truth (cond (eqb n 4) UnsignedZero (cond (eqb n 5) ExactSides (cond (eqb n 6) Parity Halves)))))

back : (r : Reason) → numbered (reason_number r) ≡ r
back Flags = refl
back EqualSides = refl
back Truth = refl
back UnsignedZero = refl
back ExactSides = refl
back Parity = refl
back Halves = refl

-- the verdict of a value and a reason
abbrev valued : ℕ → ℕ → Verdict
valued v r = cond (eqb v 1) (Always (numbered r)) (Never (numbered r))

-- the answer that has these numbers
abbrev answered : Numbers → Answer
answered (decision v r) = Ok (valued v r)
answered undecided = Ok Undecided
answered no_branch = Ok NoBranch
answered (numbered_refusal number place) = Err (refused (fault_of number) place)

answer_back : (a : Answer) → answered (answer_numbers a) ≡ a
answer_back (Ok (Always r)) = ap (λ (x : Reason). Ok (Always x)) (back r)
answer_back (Ok (Never r)) = ap (λ (x : Reason). Ok (Never x)) (back r)
answer_back (Ok Undecided) = refl
answer_back (Ok NoBranch) = refl
answer_back (Err r) = ap (λ (f : Fault). Err (refused f r.at)) (fault_back r.fault)

pub answers-apart : (a b : Answer) → answer_numbers a ≡ answer_numbers b → a ≡ b
answers-apart a b e = sym (answer_back a) ∙ (ap answered e ∙ answer_back b)
