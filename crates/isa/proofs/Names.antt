-- The table of mnemonics and their numbers are one: a number of the table has the mnemonic with that number, and each
-- mnemonic has a number of the table. The table's rows are compared with the numbers one after the other.
use Prim.Native.Nat.{ℕ, zero, suc, ◌+◌, ◌<◌}
use mathlib.Core.Path.{◌≡◌, ◌∙◌}
use mathlib.Core.List.{List, [], ◌∷◌}
use native.Mathlib.Nat.{zero-add}
use Rattle.std.proofs.Common.{arith, rules}
use lib.ListN.{length, get_or}
use Rattle.isa.specs.declared.Mnemonic.{Mnemonic}
use Rattle.isa.specs.declared.Mnemonic.TheVariants.{Other}
use Rattle.isa.specs.Mnemonics.{number_of, table, named}

-- the rows have the numbers from n on
abbrev Numbered : ℕ → List Mnemonic → Type 0
Numbered n [] = Unit {0}
Numbered n (m ∷ l) = (number_of m ≡ n) × Numbered (suc n) l

row : (n : ℕ) (l : List Mnemonic) → Numbered n l → (k : ℕ) → k < length l → number_of (get_or l k Other) ≡ n + k
row n [] h k small = absurd (omega arith)
row n (m ∷ l) h zero small = h.0 ∙ omega arith
row n (m ∷ l) h (suc k) small = row (suc n) l h.1 k (omega arith) ∙ omega arith

numbered : Numbered 0 table
unfolding number_of table
numbered = search rules

-- A number of the table is the number of its mnemonic.
pub number-named : (k : ℕ) → k < 35 → number_of (named k) ≡ k
unfolding named table
number-named k small = row 0 table numbered k small ∙ zero-add k

-- A mnemonic's number names it, and is a number of the table.
pub named-number : (m : Mnemonic) → named (number_of m) ≡ m
unfolding number_of named table
named-number m = grind arith

pub number-below : (m : Mnemonic) → number_of m < 35
unfolding number_of
number-below m = grind arith
