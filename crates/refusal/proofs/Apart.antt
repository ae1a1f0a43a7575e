-- Different faults have different numbers: the number gives the fault back.
use Rattle.std.proofs.Common.{◌≡◌, ℕ, ◌-◌, List, [], ◌∷◌, get_or, refl, sym, ap, ◌∙◌}
use Rattle.refusal.specs.declared.Fault.{Fault}
use Rattle.refusal.specs.declared.Fault.TheVariants.{Ends, Code, Count, Address, Register, Instruction, Tree, Constant, Typing, Records, Terms, Room, Number, Division, NotPlain, Value, Text}
use Rattle.refusal.specs.Numbers.{number_of}

-- the faults in the order of their numbers
abbrev faults : List Fault
faults =
    Ends ∷ Code ∷ Count ∷ Address ∷ Register ∷ Instruction ∷ Tree ∷ Constant ∷ Typing ∷ Records ∷ Terms ∷ Room ∷ Number ∷ Division ∷ NotPlain ∷ Value
    ∷ Text ∷ []

-- the fault of a number
abbrev pub fault_of : ℕ → Fault
fault_of n = get_or faults (n - 1) Ends

pub fault_back : (f : Fault) → fault_of (number_of f) ≡ f
fault_back Ends = refl
fault_back Code = refl
fault_back Count = refl
fault_back Address = refl
fault_back Register = refl
fault_back Instruction = refl
fault_back Tree = refl
fault_back Constant = refl
fault_back Typing = refl
fault_back Records = refl
fault_back Terms = refl
fault_back Room = refl
fault_back Number = refl
fault_back Division = refl
fault_back NotPlain = refl
fault_back Value = refl
fault_back Text = refl

pub faults-apart : (f g : Fault) → number_of f ≡ number_of g → f ≡ g
faults-apart f g e = sym (fault_back f) ∙ (ap fault_of e ∙ fault_back g)
