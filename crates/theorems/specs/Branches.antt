-- Which instructions a block holds, and which branch a block or a node is about: by what is so, not by how it is found.
use Rattle.std.specs.Prelude.{ℕ, ◌≤◌, ◌<◌, ◌≡◌, true, List, [], ◌∷◌, ◌++◌, ◌⊎◌, ◌↔◌, Some, is_some}
use Rattle.std.proofs.Math.Option.{some}
use Rattle.isa.specs.declared.Instruction.{Instruction}
use Rattle.sheet.specs.declared.Block.{Block}
use Rattle.sheet.specs.Sheet.{sheet_at}
use Rattle.sheet_node.specs.Node.{Node}
use Rattle.sheet_bytes.specs.Write.{entry}

-- a value stands in a list
unfoldable pub In : {A : Type 0} → A → List A → Type 0
In x [] = ⊥
In x (y ∷ l) = (x ≡ y) ⊎ In x l

-- each instruction's address is below those of all after it
unfoldable pub InOrder : List Instruction → Type 0
InOrder [] = Unit {0}
InOrder (i ∷ l) = ((j : Instruction) → In j l → i.address < j.address) × InOrder l

-- an instruction of the sheet
abbrev pub Listed : List ℕ → Instruction → Type 0
Listed s i = In i (sheet_at s).instructions.list

-- The instructions of the block of a number: those of the sheet with from ≤ address < to, and no other, in the order of their addresses (S26).
pub record InBlock (s : List ℕ) (number : ℕ) (code : List Instruction) : Type 0 where
  pub block : Block
  pub is : entry (sheet_at s).blocks.list number ≡ some block
  pub holds : (i : Instruction) → In i code ↔ (Listed s i × (block.from ≤ i.address) × (i.address < block.to))
  pub rising : InOrder code

-- A block that ends in a conditional branch: the instructions before it, and the branch (M22).
pub record EndsIn (s : List ℕ) (number : ℕ) (before : List Instruction) (last : Instruction) : Type 0 where
  pub code : InBlock s number (before ++ (last ∷ []))
  pub branch : is_some last.target ≡ true

-- A conditional branch of the sheet, at an address and with a target.
pub record Branch (s : List ℕ) (site target : ℕ) : Type 0 where
  pub instruction : Instruction
  pub listed : Listed s instruction
  pub at : instruction.address ≡ site
  pub to : instruction.target ≡ Some target

-- The jump of the node of a number, by its address: the node lists it, a conditional branch stands there, and at no address that the node lists
-- after it (S33).
pub record JumpAt (s : List ℕ) (number site : ℕ) : Type 0 where
  pub node : Node
  pub is : entry (sheet_at s).nodes.list number ≡ some node
  pub earlier : List ℕ
  pub later : List ℕ
  pub lists : node.addresses ≡ earlier ++ (site ∷ later)
  pub target : ℕ
  pub branch : Branch s site target
  pub last : (other : ℕ) → In other later → (to : ℕ) → Branch s other to → ⊥
