-- A tree's root as the code sees it: its kind by name, and its argument.
use Rattle.std.specs.Prelude.{ℕ}
use Rattle.expr.specs.Tree.{Expr}
use Rattle.expr.specs.Tree.Expr.{variable, constant, condition_true, condition_false, effect, load, cast, binary, ternary}
use Rattle.expr.specs.declared.Root.{Root}
use Rattle.expr.specs.declared.Root.TheVariants.{Variable, Constant, True, False, Effect, Load, Cast, Binary, Ternary}

-- what a tree's root is
unfoldable pub root_of : Expr → Root
root_of (variable n) = Variable
root_of (constant w x) = Constant
root_of condition_true = True
root_of condition_false = False
root_of (effect t) = Effect
root_of (load t a) = Load
root_of (cast t a) = Cast
root_of (binary o a b) = Binary
root_of (ternary c a b) = Ternary

-- the argument of a tree's root, 0 where its kind has none
unfoldable pub root_argument : Expr → ℕ
root_argument (variable n) = n
root_argument (constant w x) = w
root_argument condition_true = 0
root_argument condition_false = 0
root_argument (effect t) = t
root_argument (load t a) = t
root_argument (cast t a) = t
root_argument (binary o a b) = o
root_argument (ternary c a b) = 0
