-- What the contracts of the readers ask and give.
use Rattle.std.specs.Prelude.{ℕ, ◌*◌, ◌≤◌, ◌≡◌, List, ◌++◌, true, false, length, drop, Option, Some, None, Ok}
use Rattle.sheet_field.specs.Field.{Place, WentOn, start_of, count_at}
use Rattle.sheet_node.specs.Node.{StatementRead, statement_at, types_from, types_of, statements_from, addresses_from, NodeReading, node_at}
use Rattle.sheet_node.specs.declared.node.Assignment.{Assignment}
use Rattle.sheet_node.specs.declared.node.NodeFront.{NodeFront}
use Rattle.sheet_node.specs.declared.node.NodeParts.{NodeParts}
use Rattle.sheet_node.specs.declared.node.Put.{Put}

-- how many records of a value were put
abbrev pub records_put : Option Put → ℕ
records_put (Some f) = f.records
records_put None = 0

-- an assignment's variable, and that any other statement is none
abbrev pub PutContent : Option Put → StatementRead → Type 0
PutContent (Some f) r = (r.assigned ≡ true) × (f.variable ≡ r.variable)
PutContent None r = r.assigned ≡ false

-- What a reader of a statement that was read whole leaves: the statement, the offset after it, and a borrowed list that was `before` and is
-- `after`: the value's words stand at its start, and the rest is as it was, after a statement that assigns nothing the whole list.
pub record PutStatement (f : Option Put) (at : ℕ) (before after : List ℕ) (r : StatementRead) : Type 0 where
  pub content : PutContent f r
  pub size : length r.words ≡ 2 * records_put f
  pub few : records_put f ≤ 128
  pub place : Ok at ≡ r.next
  pub list : after ≡ r.words ++ drop (2 * records_put f) before

-- an assignment that was read whole: its variable, and its value as a tree
pub record TookAssignment (f : Assignment) (r : StatementRead) : Type 0 where
  pub assigned : r.assigned ≡ true
  pub variable : f.variable ≡ r.variable
  pub words : f.value.words.now ≡ r.words
  pub few : length r.words ≤ 256

-- any other statement
abbrev pub TookContent : Option Assignment → StatementRead → Type 0
TookContent (Some f) r = TookAssignment f r
TookContent None r = r.assigned ≡ false

-- what a reader of a statement that was read whole gives, and the offset after it
pub record TookStatement (f : Option Assignment) (at : ℕ) (r : StatementRead) : Type 0 where
  pub assignment : TookContent f r
  pub place : Ok at ≡ r.next

-- what stands before a node's statements
abbrev pub front_of : NodeReading → NodeFront
front_of n = record { variables = n.variables; types = start_of n.types; statements = n.statements; body = start_of n.body }

-- the reading of a node whose parts stand at these offsets
abbrev pub reading_of : NodeParts → NodeReading
reading_of n = record {
  variables = n.front.variables;
  types = Ok n.front.types;
  statements = n.front.statements;
  body = Ok n.front.body;
  condition = Ok n.condition;
  addresses = n.addresses;
  sites = Ok n.sites;
  next = Ok n.end;
}

-- a node that was read whole
pub record ReadNode (s : List ℕ) (node : NodeReading) : Type 0 where
  pub at : Place
  pub is : node ≡ node_at s at
  pub on : WentOn node.next

-- after a node's count of variables and their types
unfoldable pub types_end : List ℕ → Place → Place
types_end s p = let v = count_at 0 32 s p in types_from s v.next v.value

-- the types of a node's variables
unfoldable pub node_types : List ℕ → Place → List ℕ
node_types s p = let v = count_at 0 32 s p in types_of (types_from s v.next v.value) (start_of v.next) v.value s

-- after a count of addresses and the addresses
unfoldable pub addresses_end : List ℕ → Place → Place
addresses_end s p = let n = count_at 0 16 s p in (addresses_from s n.next n.value).next

-- at this offset a statement was read whole, in a node of variables of these types
pub record WholeStatement (s : List ℕ) (at : ℕ) : Type 0 where
  pub types : List ℕ
  pub on : WentOn (statement_at types s (Ok at)).next

-- from this offset on n statements were read whole
pub record WholeStatements (s : List ℕ) (from n : ℕ) : Type 0 where
  pub types : List ℕ
  pub on : WentOn (statements_from types s (Ok from) n).next
