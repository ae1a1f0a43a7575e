-- The index of a sheet: entries for its instructions and nodes, in reading order, at the start of borrowed lists.
use Rattle.std.specs.Prelude.{ℕ, ◌≤◌, ◌≡◌, Bool, List, [], ◌∷◌, map, length, take, is_some, unwrap_or}
use Rattle.isa.specs.declared.Instruction.{Instruction}
use Rattle.sheet.specs.Sheet.{InstructionsRead, SheetRead}

-- entries written over the start of a list, as far as it reaches; the rest is as it was
unfoldable pub over : {A : Type 0} → List A → List A → List A
over [] before = before
over (x ∷ entries) [] = []
over (x ∷ entries) (b ∷ before) = x ∷ over entries before

unfoldable pub addresses_of : List Instruction → List ℕ
addresses_of l = map (λ (i : Instruction). i.address) l

-- where they lead, 0 for one that is no conditional branch
unfoldable pub targets_of : List Instruction → List ℕ
targets_of l = map (λ (i : Instruction). unwrap_or i.target 0) l

-- which instructions are conditional branches
unfoldable pub branches_of : List Instruction → List Bool
branches_of l = map (λ (i : Instruction). is_some i.target) l

-- what the index holds of instructions: each borrowed list, as it was and as it is
pub record Noted (a₀ a p₀ p : List ℕ) (r : InstructionsRead) : Type 0 where
  pub addresses : a ≡ over (addresses_of r.list) a₀
  pub places : p ≡ over r.places p₀

-- the index of a sheet
pub record Indexed (a₀ a p₀ p n₀ n : List ℕ) (r : SheetRead) : Type 0 where
  pub instructions : Noted a₀ a p₀ p r.instructions
  pub nodes : n ≡ over r.nodes.places n₀

-- the first n elements of a list are these
pub record InFront {A : Type 0} (n : ℕ) (list entries : List A) : Type 0 where
  pub room : n ≤ length list
  pub are : take n list ≡ entries
