-- The sheet: its three sections one after the other, and what reading any bytes answers.
--
-- Each check of reading: its number, what has to be, at which byte it is made, where its refusal is placed, and the definition that has it.
--  1 | a field is whole | the sheet's end | the field's first byte | field_at
--  1 | nothing follows the last record | the first byte that follows | that byte | ended
--  2 | a map, a code, a variable's number is in its table | its byte | its byte | map_at (two of them), code_at, argument_at
--  3 | a count is within its limits | its second byte | its first byte | count_at
--  4 | an instruction's address is above the one before | its last byte | its first byte | address_at
--  5 | a register of class 1 is well formed | its offset byte | its class byte | register_at
--  6 | a modelled instruction is not at fault | its last byte | its map byte | instruction_at
--  7 | a record lacks no child | its last byte | its kind byte | record_at
--  7 | an expression is one tree | its last byte | the byte after it | record_at
--  8 | a constant fits its width | its value's last byte | its value's first byte | record_at
--  9 | an assigned value has its variable's type | the statement's last byte | its map byte | typed_at
-- The first check that fails gives the refusal; of two at one byte, the one with the lower number (R2, R3, R4).
use Rattle.std.specs.Prelude.{ℕ, zero, suc, List, [], ◌∷◌, ◌++◌, eqb, leb, length, get_or, Result, Ok}
use Rattle.refusal.specs.declared.Fault.TheVariants.{Ends}
use Rattle.refusal.specs.declared.Refusal.{Refusal}
use Rattle.expr.specs.Tree.Expr.{condition_true}
use Rattle.sheet_field.specs.Field.{Place, field_at, start_of, judge, count_at, read_as}
use Rattle.isa.specs.declared.Instruction.{Instruction}
use Rattle.sheet_instruction.specs.Instruction.{instruction_at}
use Rattle.sheet_node.specs.Node.{Node, node_at, node_of}
use Rattle.sheet.specs.declared.Sheet.{Sheet}
use Rattle.sheet.specs.declared.Block.{Block}

-- what instruction records that were read one after the other give: the instructions, the offset of each, the last address,
-- and the offset after them
pub record InstructionsRead : Type 0 where
  pub list : List Instruction
  pub places : List ℕ
  pub last : ℕ
  pub next : Place

-- after the first k instructions, from an offset on
unfoldable pub instructions_from : List ℕ → Place → ℕ → InstructionsRead
instructions_from s p zero = record { list = []; places = []; last = 0; next = p }
instructions_from s p (suc k) =
    let before = instructions_from s p k in
    let r = instruction_at (eqb k 0) before.last s before.next in
    record {
      list = before.list ++ (r.instruction ∷ []);
      places = before.places ++ (start_of before.next ∷ []);
      last = r.instruction.address;
      next = r.next;
    }

-- a block as it was read, and the offset after it
pub record BlockReading : Type 0 where
  pub from : ℕ
  pub to : ℕ
  pub next : Place

-- A block: two addresses, from and to (S25).
unfoldable pub block_at : List ℕ → Place → BlockReading
block_at s p =
    let from = field_at 8 s p in
    let to = field_at 8 s from.next in
    record { from = from.value; to = to.value; next = to.next }

-- a block that no sheet has, for a number that is out of range
abbrev pub no_block : Block
no_block = record { from = 0; to = 0 }

pub record BlocksRead : Type 0 where
  pub list : List Block
  pub next : Place

-- after the first k blocks
unfoldable pub blocks_from : List ℕ → Place → ℕ → BlocksRead
blocks_from s p zero = record { list = []; next = p }
blocks_from s p (suc k) =
    let before = blocks_from s p k in
    let b = block_at s before.next in
    record { list = before.list ++ (record { from = b.from; to = b.to } ∷ []); next = b.next }

-- the nodes, the offset of each, and the offset after them
pub record NodesRead : Type 0 where
  pub list : List Node
  pub places : List ℕ
  pub next : Place

-- after the first k nodes
unfoldable pub nodes_from : List ℕ → Place → ℕ → NodesRead
nodes_from s p zero = record { list = []; places = []; next = p }
nodes_from s p (suc k) =
    let before = nodes_from s p k in
    let n = node_at s before.next in
    record { list = before.list ++ (node_of s n ∷ []); places = before.places ++ (start_of before.next ∷ []); next = n.next }

-- Refusal 1, reported at the first byte that follows the last record, where one does (R7).
abbrev pub ended : List ℕ → Place → Place
ended s p = judge (leb (length s) (start_of p)) Ends (start_of p) p

-- A sheet as syntax, the offsets of its records, and the offset that reading reached.
pub record SheetRead : Type 0 where
  pub instructions : InstructionsRead
  pub blocks : BlocksRead
  pub nodes : NodesRead
  pub sheet : Sheet
  pub end : Place

-- A sheet: three sections, each a count and that many records: instructions, at most 2,048; blocks and nodes, at most 1,024 each. Then it ends
-- (S3, S4, R2, R23).
unfoldable pub sheet_at : List ℕ → SheetRead
sheet_at s =
    let i = count_at 0 2048 s (Ok 0) in
    let instructions = instructions_from s i.next i.value in
    let b = count_at 0 1024 s instructions.next in
    let blocks = blocks_from s b.next b.value in
    let n = count_at 0 1024 s blocks.next in
    let nodes = nodes_from s n.next n.value in
    record {
      instructions = instructions;
      blocks = blocks;
      nodes = nodes;
      sheet = record {
        instructions = record { count = i.value; at = start_of i.next };
        blocks = record { count = b.value; at = start_of b.next };
        nodes = record { count = n.value; at = start_of n.next };
      };
      end = ended s nodes.next;
    }

-- an accepted sheet, or a refusal
abbrev pub Reading : Type 0
Reading = Result Sheet Refusal

-- Reading: accepted where it came to the end, or else the first refusal (R1, R3, R23, D3).
unfoldable pub reading_of : List ℕ → Reading
reading_of s = read_as (sheet_at s).end (λ end. (sheet_at s).sheet)

-- a node that no sheet has, for a number that is out of range
abbrev pub no_node : Node
no_node = record { types = []; statements = []; condition = condition_true; addresses = [] }

-- the node of that number
abbrev pub node_numbered : List ℕ → ℕ → Node
node_numbered s number = get_or (sheet_at s).nodes.list number no_node

-- where its record starts
abbrev pub node_place : List ℕ → ℕ → ℕ
node_place s number = get_or (sheet_at s).nodes.places number 0
