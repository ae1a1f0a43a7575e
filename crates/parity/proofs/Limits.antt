-- Answers within the limits: what a step makes of one, and that it passes the limits on.
use Rattle.std.proofs.Common.{◌≡◌, Bool, true, false, Result, Ok, Err, IsErr, refl}
use Rattle.parity.specs.declared.TooMany.{TooMany}
use Rattle.parity.specs.Lent.{too_many, within}

-- there is one such error
pub only : {A : Type 0} {q : Result A TooMany} → IsErr q → q ≡ Err too_many
only {q = Ok x} is = cc
only {q = Err x} is = refl

-- what passes the limits
pub past : {A B : Type 0} (f : Bool) (v : A) (u : B) {r : Result A TooMany} {x : TooMany} {q : Result B TooMany} → r ≡ within f v → r ≡ Err x → IsErr q → q ≡ within f u
past true v u h e is = cc
past false v u h e is = only is

-- what does not
pub kept : {A : Type 0} (f : Bool) (v : A) {r : Result A TooMany} {y : A} → r ≡ within f v → r ≡ Ok y → (f ≡ true) × (y ≡ v)
kept true v h e = (refl, cc)
kept false v h e = cc

pub failed : {A : Type 0} (f : Bool) (v : A) {r : Result A TooMany} {x : TooMany} → r ≡ within f v → r ≡ Err x → f ≡ false
failed true v h e = cc
failed false v h e = refl
