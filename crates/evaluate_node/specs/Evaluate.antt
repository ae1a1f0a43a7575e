-- The evaluation: a node run on the caller's values.
use Rattle.std.specs.Prelude.{ℕ, suc, ◌<◌, ◌≡◌, List, [], ◌∷◌, Bool, true, false, cond, ◌&&◌, length, get_or, Option, Some, None, Result, Ok, Err}
use Rattle.refusal.specs.declared.Fault.TheVariants.{Division, NotPlain, Value}
use Rattle.refusal.specs.declared.Refusal.{Refusal}
use Rattle.refusal.specs.Numbers.{refused}
use Rattle.expr.specs.Scan.{plain_expr}
use Rattle.expr.specs.Statement.{Statement}
use Rattle.expr.specs.Statement.Statement.{assignment, other}
use Rattle.arith.specs.Numbers.{fits}
use Rattle.sheet_node.specs.Node.{Node}
use Rattle.value.specs.Run.{Choices, run}

-- whether a node's condition holds, or a refusal
abbrev pub Evaluation : Type 0
Evaluation = Result Bool Refusal

-- Refusal 15: an effect or a load, whether or not it would be evaluated, or a 0-statement (E4).
abbrev pub plain_statement : Statement → Bool
plain_statement (assignment v e) = plain_expr e
plain_statement other = false

unfoldable pub plain_all : List Statement → Bool
plain_all [] = true
plain_all (x ∷ l) = plain_statement x && plain_all l

-- Refusal 16: the first declared variable, from number v on, that has no value or one that its type cannot hold. Values beyond the
-- declared variables are not looked at (E2, E5).
unfoldable pub unfit_from : ℕ → List ℕ → List ℕ → Option ℕ
unfit_from v [] values = None
unfit_from v (t ∷ types) [] = Some v
unfit_from v (t ∷ types) (x ∷ values) = cond (fits t x) (unfit_from (suc v) types values) (Some v)

-- A run on the caller's values: each variable starts from the value of its number. What is free beside them has no part in the run of a node without
-- load, effect and 0-statement, and is taken as 0 (E1).
abbrev pub on_values : List ℕ → Choices
on_values values = record {
  start = λ v. get_or values v 0;
  memory = λ i path t a. 0;
  contents = λ t a. 0;
  effects = λ i path. 0;
  renewed = λ i v. 0;
}

-- the choices that start from the caller's values of the declared variables; all else, also what other variables start from, is free
abbrev pub StartsFrom : List ℕ → List ℕ → Choices → Type 0
StartsFrom types values c = (v : ℕ) → v < length types → c.start v ≡ get_or values v 0

-- what an evaluation says of a run's outcome: whether the condition holds, or that there is none (14); other refusals say nothing
abbrev pub Gives : Evaluation → Option Bool → Type 0
Gives (Ok true) t = t ≡ Some true
Gives (Ok false) t = t ≡ Some false
Gives (Err r) t = r.fault ≡ Division → t ≡ None

-- an evaluation that comes from the node's run: whether the condition holds, or 14
abbrev pub FromRun : Evaluation → Type 0
FromRun (Ok holds) = Unit {0}
FromRun (Err r) = r.fault ≡ Division

-- Refusal 16 is reported at the number of the variable (E5).
abbrev pub on_fit : Option ℕ → Evaluation → Evaluation
on_fit None e = e
on_fit (Some v) e = Err (refused Value v)

-- What the outcome of the run makes of the evaluation: where there is none, refusal 14, reported at the node (E1, E7).
abbrev pub on_truth : ℕ → Option Bool → Evaluation
on_truth place (Some true) = Ok true
on_truth place (Some false) = Ok false
on_truth place None = Err (refused Division place)

-- The evaluation of a node that stands at an offset: refusals 15, 16 and 14 in this order, else whether the condition holds at the end of the run
-- (E1, E4, E8).
unfoldable pub evaluation_of : Node → ℕ → List ℕ → Evaluation
evaluation_of n place values =
    cond (plain_all n.statements && plain_expr n.condition)
    (on_fit (unfit_from 0 n.types values)
    (on_truth place (run n.types n.statements n.condition (on_values values))))
    (Err (refused NotPlain place))
