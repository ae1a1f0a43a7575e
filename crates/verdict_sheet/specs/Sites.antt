-- The branch that a record is about.
use Rattle.std.specs.Prelude.{ℕ, List, [], ◌∷◌, Bool, false, cond, eqb, Option, None, Some, is_some}
use Rattle.isa.specs.declared.Instruction.{Instruction}
use Rattle.sheet.specs.Sheet.{sheet_at, node_numbered}
use Rattle.verdict_block.specs.Verdict.{Parts, apart, code_of}
use Rattle.verdict_block.specs.Verdict.Parts.{none as no_instruction, ending}

-- whether the instruction at an address is a conditional branch
unfoldable pub branch_at : List Instruction → ℕ → Bool
branch_at [] address = false
branch_at (i ∷ code) address = cond (eqb i.address address) (is_some i.target) (branch_at code address)

-- an address, unless a later one is taken
abbrev pub unless_later : Option ℕ → Option ℕ → Option ℕ
unless_later earlier None = earlier
unless_later earlier (Some later) = Some later

-- Of some addresses the last one at which a conditional branch stands (S33).
unfoldable pub last_branch : List Instruction → List ℕ → Option ℕ
last_branch code [] = None
last_branch code (a ∷ addresses) = unless_later (cond (branch_at code a) (Some a) None) (last_branch code addresses)

-- the jump of the node of that number, by its address
abbrev pub node_site : List ℕ → ℕ → Option ℕ
node_site s number = last_branch (sheet_at s).instructions.list (node_numbered s number).addresses

-- A block is about its last instruction, where that is a conditional branch (M22).
abbrev pub last_site : Parts → Option ℕ
last_site no_instruction = None
last_site (ending before last) = cond (is_some last.target) (Some last.address) None

-- the branch of the block of that number, by its address
abbrev pub block_site : List ℕ → ℕ → Option ℕ
block_site s number = last_site (apart (code_of s number))
