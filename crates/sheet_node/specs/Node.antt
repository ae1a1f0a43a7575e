-- Node records: variables' types, statements, a condition, addresses.
use Rattle.std.specs.Prelude.{ℕ, zero, suc, List, [], ◌∷◌, ◌++◌, Bool, true, false, cond, ◌||◌, eqb, length, get_or, take, drop, Ok, Err}
use Rattle.refusal.specs.declared.Fault.TheVariants.{Code, Typing}
use Rattle.sheet_field.specs.Field.{Place, FieldReading, field_at, start_of, judge, check_field, code_at, count_at}
use Rattle.expr.specs.Tree.{Expr, tree_of}
use Rattle.expr.specs.Statement.{Statement}
use Rattle.expr.specs.Statement.Statement.{assignment, other}
use Rattle.expr.specs.Types.{type_of, same_type}
use Rattle.sheet_expression.specs.Expression.{expression_at}

-- what reading a statement gives: whether it is an assignment, its variable, its value's words, and the offset after it
pub record StatementRead : Type 0 where
  pub assigned : Bool
  pub variable : ℕ
  pub words : List ℕ
  pub next : Place

abbrev pub statement_of : StatementRead → Statement
statement_of r = cond r.assigned (assignment r.variable (tree_of r.words)) other

-- A statement's map byte: 3 for an assignment, 0 for anything else; any other is refusal 2, reported there (S31, S32, R9).
unfoldable pub map_at : List ℕ → Place → FieldReading
map_at s p =
    let f = field_at 1 s p in
    check_field (eqb f.value 0 || eqb f.value 3) Code (start_of p) f

-- Refusal 9, made at the statement's last byte and reported at its first: an assigned expression has another type than its variable, pointer being
-- the same as unsigned 64 (R2, R4, R21, R22).
abbrev pub typed_at : List ℕ → ℕ → List ℕ → ℕ → Place → Place
typed_at types variable words begin end = judge (same_type (type_of types (tree_of words)) (get_or types variable 0)) Typing begin end

-- An assignment: the number of one of the node's variables, and an expression (S31, R10).
unfoldable pub assignment_at : List ℕ → ℕ → List ℕ → Place → StatementRead
assignment_at types begin s p =
    let v = code_at (length types) s p in
    let e = expression_at (length types) s v.next in
    record { assigned = true; variable = v.value; words = e.words; next = typed_at types v.value e.words begin e.next }

unfoldable pub statement_at : List ℕ → List ℕ → Place → StatementRead
statement_at types s p =
    let map = map_at s p in
    cond (eqb map.value 3)
    (assignment_at types (start_of p) s map.next)
    (record { assigned = false; variable = 0; words = []; next = map.next })

-- After the first k of a node's type bytes, each below 10 (S27, S45, R8).
unfoldable pub types_from : List ℕ → Place → ℕ → Place
types_from s p zero = p
types_from s p (suc k) = (code_at 10 s (types_from s p k)).next

-- the types of n variables, whose bytes stand from an offset on; none where reading them was refused
abbrev pub types_of : Place → ℕ → ℕ → List ℕ → List ℕ
types_of (Ok end) from n s = take n (drop from s)
types_of (Err r) from n s = []

pub record StatementsRead : Type 0 where
  pub list : List Statement
  pub next : Place

-- After the first k of a node's statements (S28).
unfoldable pub statements_from : List ℕ → List ℕ → Place → ℕ → StatementsRead
statements_from types s p zero = record { list = []; next = p }
statements_from types s p (suc k) =
    let before = statements_from types s p k in
    let r = statement_at types s before.next in
    record { list = before.list ++ (statement_of r ∷ []); next = r.next }

pub record AddressesRead : Type 0 where
  pub list : List ℕ
  pub next : Place

-- After the first k of a node's addresses, 8 bytes each (S30).
unfoldable pub addresses_from : List ℕ → Place → ℕ → AddressesRead
addresses_from s p zero = record { list = []; next = p }
addresses_from s p (suc k) =
    let before = addresses_from s p k in
    let f = field_at 8 s before.next in
    record { list = before.list ++ (f.value ∷ []); next = f.next }

-- a node as it is read: its counts, where its types, its statements (body), its condition and its addresses (sites) start, and where reading
-- has come to after it
pub record NodeReading : Type 0 where
  pub variables : ℕ
  pub types : Place
  pub statements : ℕ
  pub body : Place
  pub condition : Place
  pub addresses : ℕ
  pub sites : Place
  pub next : Place

-- A node's parts in reading order: at most 32 variables, each by its type; at most 64 statements; the condition; at most 16 addresses
-- (S27, S28, S29, S30, R2).
unfoldable pub node_at : List ℕ → Place → NodeReading
node_at s p =
    let v = count_at 0 32 s p in
    let types_end = types_from s v.next v.value in
    let types = types_of types_end (start_of v.next) v.value s in
    let k = count_at 0 64 s types_end in
    let condition = (statements_from types s k.next k.value).next in
    let a = count_at 0 16 s (expression_at (length types) s condition).next in
    record {
      variables = v.value;
      types = v.next;
      statements = k.value;
      body = k.next;
      condition = condition;
      addresses = a.value;
      sites = a.next;
      next = (addresses_from s a.next a.value).next;
    }

-- A node as syntax.
pub record Node : Type 0 where
  pub types : List ℕ
  pub statements : List Statement
  pub condition : Expr
  pub addresses : List ℕ

-- the types of a node that was read whole, as a part of the sheet
abbrev pub types_in : List ℕ → NodeReading → List ℕ
types_in s n = take n.variables (drop (start_of n.types) s)

-- what a node that was read whole holds
unfoldable pub node_of : List ℕ → NodeReading → Node
node_of s n =
    let types = types_in s n in
    record {
      types = types;
      statements = (statements_from types s n.body n.statements).list;
      condition = tree_of (expression_at n.variables s n.condition).words;
      addresses = (addresses_from s n.sites n.addresses).list;
    }
