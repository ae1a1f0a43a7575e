-- What an expression means. Evaluation is a total function of all that is free, into an optional value of the expression's static type.
use Rattle.std.specs.Prelude.{Option, Some, None, Bool, List, [], ◌∷◌, ℕ, get_or}
use Rattle.expr.specs.Codes.{pointer, signed8}
use Rattle.expr.specs.Tree.{Expr}
use Rattle.expr.specs.Tree.Expr.{variable, constant, condition_true, condition_false, effect, load, cast, binary, ternary}
use Rattle.expr.specs.Types.{type_of, constant_type, together}
use Rattle.arith.specs.Numbers.{convert}
use Rattle.value.specs.Operators.{chosen, taken, truth_of, operate, choose}

-- Values of the variables, by number.
abbrev pub Values : Type 0
Values = ℕ → ℕ

-- a choice for each position in a tree: by its path from the root, the children's indices one after the other
abbrev pub ByPath : Type 0 → Type 0
ByPath A = List ℕ → A

-- the choices for the tree's child at index k
abbrev pub under : {A : Type 0} → ℕ → ByPath A → ByPath A
under k f path = f (k ∷ path)

-- What each effect of a tree yields: every occurrence has a value of its own, and nothing but memory changes by it (V17, V18).
abbrev pub Effects : Type 0
Effects = ByPath ℕ

-- what stands in memory, for each type and address
abbrev pub Contents : Type 0
Contents = ℕ → ℕ → ℕ

-- What each load of a tree finds. Nothing makes two loads agree: an effect between them may have changed memory (V18).
abbrev pub Memory : Type 0
Memory = ByPath Contents

-- In a condition all loads find the same contents, so that two of one type and address agree (V16).
abbrev pub shared : Contents → Memory
shared m path = m

-- a load of type t: what memory has at the address, a value of type s taken as a pointer
abbrev pub loaded : ℕ → ℕ → Contents → Option ℕ → Option ℕ
loaded t s m (Some x) = chosen t (m t (convert s pointer x))
loaded t s m None = None

-- The value of an expression over variables of these types (V1, V5). ρ gives the variables' values outside loads, σ from a load inwards, m what
-- its loads find in memory, f the effects' values.
unfoldable pub ev : List ℕ → Values → Values → Memory → Effects → Expr → Option ℕ
ev types ρ σ m f (variable n) = chosen (get_or types n signed8) (ρ n)
ev types ρ σ m f (constant w x) = chosen (constant_type w) x
ev types ρ σ m f condition_true = Some 1
ev types ρ σ m f condition_false = Some 0
ev types ρ σ m f (effect t) = chosen t (f [])
ev types ρ σ m f (load t a) = loaded t (type_of types a) (m []) (ev types σ σ (under 0 m) (under 0 f) a)
ev types ρ σ m f (cast t a) = taken (type_of types a) t (ev types ρ σ (under 0 m) (under 0 f) a)
ev types ρ σ m f (binary o a b) =
    operate o (type_of types a) (type_of types b) (ev types ρ σ (under 0 m) (under 0 f) a) (ev types ρ σ (under 1 m) (under 1 f) b)
ev types ρ σ m f (ternary c a b) =
    let t = together (type_of types a) (type_of types b) in
    choose (truth_of (ev types ρ σ (under 0 m) (under 0 f) c)) (taken (type_of types a) t (ev types ρ σ (under 1 m) (under 1 f) a)) (taken (type_of types b) t (ev types ρ σ (under 2 m) (under 2 f) b))

-- The value of an expression on the caller's values. Where it has neither load nor effect, what these would yield plays no part
-- (`proofs/Steps.antt plain-ev`); it is taken as 0.
unfoldable pub evaluated : List ℕ → List ℕ → Expr → Option ℕ
evaluated types values e = ev types (λ n. get_or values n 0) (λ n. get_or values n 0) (λ path t a. 0) (λ path. 0) e

-- a condition on the caller's values
abbrev pub settled : List ℕ → List ℕ → Expr → Option Bool
settled types values e = truth_of (evaluated types values e)
