-- The low bit of a part for a choice of its atoms' bits, with no polynomial in it, and with a table of its own of what is entered.
-- Of the definitions that the code is proved against it takes only the test for an effect in a part.
use Rattle.std.specs.Prelude.{Option, Some, None, ℕ, zero, suc, ◌%◌, ◌≡◌, Bool, true, false, cond, ◌&&◌, ◌||◌, List, [], ◌∷◌, eqb, ltb, get_or}
use Rattle.std.specs.Bool.{xor}
use Rattle.expr.specs.Codes.{bool}
use Rattle.expr.specs.Tree.{Expr}
use Rattle.expr.specs.Tree.Expr.{variable, constant, condition_true, condition_false, effect, load, cast, binary, ternary}
use Rattle.expr.specs.Scan.{has_own_value}
use Rattle.value.specs.Evaluation.{Values, Contents, Effects, ByPath, under, shared, ev}

-- the low bit of a number
abbrev pub bit : ℕ → Bool
bit n = eqb (n % 2) 1

-- The bit of an atom: equal atoms have one bit, by their tree; each with an effect in it has its own, by its path (N13).
abbrev pub atom_bit : (Expr → Bool) → ByPath Bool → Expr → Bool
atom_bit shared own e = cond (has_own_value e) (own []) (shared e)

-- A rule for an operator: its low bit from the right side, the low bits of the left and of the right side, and the bit that the
-- whole part has as an atom.
abbrev pub Rule : Type 0
Rule = Expr → Bool → Bool → Bool → Bool

-- Addition, subtraction, exclusive or: 1 where the sides' low bits differ (N11).
abbrev pub differing : Rule
differing b x y own = xor x y

-- Multiplication and conjunction of bits: 1 where both are 1 (N11).
abbrev pub both_one : Rule
both_one b x y own = x && y

-- Disjunction of bits: 1 where one of them is 1 (N11).
abbrev pub any_one : Rule
any_one b x y own = x || y

-- Any other operator: the part is an atom (N12).
abbrev pub whole : Rule
whole b x y own = own

-- with a constant on the right what f says of its value, else an atom's bit
abbrev pub by_constant : Expr → (ℕ → Bool) → Bool → Bool
by_constant (constant w k) f own = f k
by_constant (variable n) f own = own
by_constant condition_true f own = own
by_constant condition_false f own = own
by_constant (effect t) f own = own
by_constant (load t a) f own = own
by_constant (cast t a) f own = own
by_constant (binary o a b) f own = own
by_constant (ternary c a b) f own = own

-- The remainder by 0 is an atom; by an even number, one more than an odd n, it has the left side's low bit; by an odd one it is
-- an atom.
abbrev pub remainder_by : Bool → Bool → ℕ → Bool
remainder_by x own zero = own
remainder_by x own (suc n) = cond (bit n) x own

-- The remainder by a constant (N11).
abbrev pub remainder : Rule
remainder b x y own = by_constant b (remainder_by x own) own

-- Shifted to the left by 0 it has the left side's low bit; by 1 to 31 it has 0; by more it is an atom.
abbrev pub shifted_by : Bool → Bool → ℕ → Bool
shifted_by x own zero = x
shifted_by x own (suc n) = cond (ltb n 31) false own

-- A shift to the left by a constant (N11).
abbrev pub shifted : Rule
shifted b x y own = by_constant b (shifted_by x own) own

-- The operators in the order of their numbers, 0 to 17 (S43, N11).
abbrev pub rules : List Rule
-- + - × / %
rules =
    differing ∷ differing ∷ both_one ∷ whole ∷ remainder
    -- & | ^ << >>
    ∷ both_one ∷ any_one ∷ differing ∷ shifted ∷ whole
    -- == != < <= > >= && ||
    ∷ whole ∷ whole ∷ whole ∷ whole ∷ whole ∷ whole ∷ whole ∷ whole ∷ []

-- the rule of an operator, by its number; no other number is one
unfoldable pub rule_of : ℕ → Rule
rule_of o = get_or rules o whole

-- The low bit of a part for a choice of atom bits (N14, D10).
unfoldable pub low_bit : (Expr → Bool) → ByPath Bool → Expr → Bool
low_bit shared own (variable n) = atom_bit shared own (variable n)
low_bit shared own (constant w x) = bit x
low_bit shared own condition_true = atom_bit shared own condition_true
low_bit shared own condition_false = atom_bit shared own condition_false
low_bit shared own (effect t) = atom_bit shared own (effect t)
low_bit shared own (load t a) = atom_bit shared own (load t a)
low_bit shared own (cast t a) = cond (eqb t bool) (atom_bit shared own (cast t a)) (low_bit shared (under 0 own) a)
low_bit shared own (binary o a b) =
    rule_of o b (low_bit shared (under 0 own) a) (low_bit shared (under 1 own) b) (atom_bit shared own (binary o a b))
low_bit shared own (ternary c a b) = atom_bit shared own (ternary c a b)

-- The sides' low bits differ for every choice of atom bits (D10).
abbrev pub AlwaysDiffer : Expr → Expr → Type 0
AlwaysDiffer a b = (shared : Expr → Bool) (own : ByPath Bool) → xor (low_bit shared (under 0 own) a) (low_bit shared (under 1 own) b) ≡ true

-- ---- in an evaluation

-- the low bit of a value, where there is one
abbrev pub low : Option ℕ → Bool
low (Some x) = bit x
low None = false

abbrev pub Has : Option ℕ → Type 0
Has (Some x) = Unit {0}
Has None = ⊥

-- The bits that an expression's atoms have in an evaluation (N14): of one without an effect, the low bit of its value, by its tree; of one with an
-- effect, by its path.
module _ (types : List ℕ) (ρ σ : Values) (m : Contents) where
  abbrev pub shared_bits : Expr → Bool
  shared_bits e = low (ev types ρ σ (shared m) (λ path. 0) e)

  unfoldable pub own_bits : Effects → Expr → ByPath Bool
  own_bits f e [] = low (ev types ρ σ (shared m) f e)
  own_bits f (variable n) (k ∷ path) = false
  own_bits f (constant w x) (k ∷ path) = false
  own_bits f condition_true (k ∷ path) = false
  own_bits f condition_false (k ∷ path) = false
  own_bits f (effect t) (k ∷ path) = false
  own_bits f (load t a) (k ∷ path) = false
  own_bits f (cast t a) (k ∷ path) = own_bits (under 0 f) a path
  own_bits f (binary o a b) (zero ∷ path) = own_bits (under 0 f) a path
  own_bits f (binary o a b) (suc k ∷ path) = own_bits (under 1 f) b path
  own_bits f (ternary c a b) (k ∷ path) = false
