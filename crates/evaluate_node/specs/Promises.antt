-- What the contracts of the evaluation's parts ask and give.
use Rattle.std.specs.Prelude.{ℕ, ◌≤◌, ◌≡◌, List, [], ◌∷◌, ◌++◌, Bool, true, false, length, set, take, drop, replicate, Option, Some, None, Ok}
use Rattle.expr.specs.Statement.{Statement}
use Rattle.expr.specs.Statement.Statement.{assignment, other}
use Rattle.sheet_field.specs.Field.{Place, start_of, WentOn}
use Rattle.sheet_expression.specs.Expression.{expression_at}
use Rattle.sheet_node.specs.Node.{NodeReading, StatementRead, statement_of, statements_from, node_at}
use Rattle.expr.specs.Tree.{Expr}
use Rattle.value.specs.Evaluation.{evaluated, settled}
use Rattle.evaluate_node.specs.Evaluate.{plain_statement}

-- the values of a run that goes on, or at which it stopped
pub data After : Type 0 where
  went : List ℕ → After
  stopped : List ℕ → After

abbrev pub state_of : Bool → List ℕ → After
state_of true values = went values
state_of false values = stopped values

abbrev pub go_on : Option ℕ → ℕ → List ℕ → After
go_on (Some x) v values = went (set values v x)
go_on None v values = stopped values

-- a statement: an assignment sets its variable, and stops the run where its value divides by zero
abbrev pub after_statement : List ℕ → Statement → After → After
after_statement types (assignment v e) (went values) = go_on (evaluated types values e) v values
after_statement types (assignment v e) (stopped values) = stopped values
after_statement types other a = a

unfoldable pub assigned_all : List ℕ → List Statement → After → After
assigned_all types [] a = a
assigned_all types (x ∷ rest) a = assigned_all types rest (after_statement types x a)

-- what is left to decide after the assignments
abbrev pub finish : List ℕ → Expr → After → Option Bool
finish types condition (went values) = settled types values condition
finish types condition (stopped values) = None

-- what statements leave of a run: that they are plain, and the state after them; or that they are not
abbrev pub StateIs : {A : Type 0} → Option A → Bool → List ℕ → Bool → After → Type 0
StateIs (Some _) going values plain a = (plain ≡ true) × (a ≡ state_of going values)
StateIs None going values plain a = plain ≡ false

-- what one statement leaves, and the offset after it
abbrev pub Stepped : {A : Type 0} → Option A → ℕ → Bool → List ℕ → List ℕ → After → StatementRead → Type 0
Stepped (Some _) at going values types before x =
    (plain_statement (statement_of x) ≡ true) × (after_statement types (statement_of x) before ≡ state_of going values) × (Ok at ≡ x.next)
Stepped None at going values types before x = plain_statement (statement_of x) ≡ false

-- what a run starts from, in 32 places: the first n of the values, where they fit
abbrev pub Started : Bool → ℕ → List ℕ → Bool → List ℕ → Type 0
Started fits n values going start = (going ≡ fits) × (fits ≡ true → start ≡ take n values ++ drop n (replicate 32 0))

-- a node that was read whole, with its types, and its condition's words, which are plain
pub record Running (s : List ℕ) (node : NodeReading) (types words : List ℕ) : Type 0 where
  pub at : Place
  pub is : node ≡ node_at s at
  pub on : WentOn node.next
  pub types_are : types ≡ take node.variables (drop (start_of node.types) s)
  pub words_are : words ≡ (expression_at node.variables s node.condition).words
  pub few : length types ≤ 32
  pub statements : WentOn (statements_from types s node.body node.statements).next
