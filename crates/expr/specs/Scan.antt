-- What stands in a tree, and when two trees are the same.
use Rattle.std.specs.Prelude.{Bool, true, false, not, ◌&&◌, ◌||◌, List, [], ◌∷◌, ℕ, eqb}
use Rattle.laws.specs.Words.{same_words}
use Rattle.expr.specs.Codes.{kind_variable}
use Rattle.expr.specs.Tree.{Expr, kind_of, argument_of, flat}
use Rattle.expr.specs.Tree.Expr.{variable, constant, condition_true, condition_false, effect, load, cast, binary, ternary}

-- a test that holds of a tree or of a tree below it, a load's address included
unfoldable pub any_node : (Expr → Bool) → Expr → Bool
any_node p (variable n) = p (variable n)
any_node p (constant w x) = p (constant w x)
any_node p condition_true = p condition_true
any_node p condition_false = p condition_false
any_node p (effect t) = p (effect t)
any_node p (load t a) = p (load t a) || any_node p a
any_node p (cast t a) = p (cast t a) || any_node p a
any_node p (binary o a b) = p (binary o a b) || (any_node p a || any_node p b)
any_node p (ternary c a b) = p (ternary c a b) || (any_node p c || (any_node p a || any_node p b))

-- the tree is an effect
unfoldable pub is_effect : Expr → Bool
is_effect (variable n) = false
is_effect (constant w x) = false
is_effect condition_true = false
is_effect condition_false = false
is_effect (effect t) = true
is_effect (load t a) = false
is_effect (cast t a) = false
is_effect (binary o a b) = false
is_effect (ternary c a b) = false

-- the tree is a load
unfoldable pub is_load : Expr → Bool
is_load (variable n) = false
is_load (constant w x) = false
is_load condition_true = false
is_load condition_false = false
is_load (effect t) = false
is_load (load t a) = true
is_load (cast t a) = false
is_load (binary o a b) = false
is_load (ternary c a b) = false

-- the tree is the variable of number v
unfoldable pub is_variable : ℕ → Expr → Bool
is_variable v (variable n) = eqb n v
is_variable v (constant w x) = false
is_variable v condition_true = false
is_variable v condition_false = false
is_variable v (effect t) = false
is_variable v (load t a) = false
is_variable v (cast t a) = false
is_variable v (binary o a b) = false
is_variable v (ternary c a b) = false

-- What has a value of its own at each occurrence: an effect (V17). Whatever asks whether two occurrences are one value asks this.
abbrev pub own_value : Expr → Bool
own_value e = is_effect e

-- something with a value of its own stands in the tree
abbrev pub has_own_value : Expr → Bool
has_own_value e = any_node own_value e

-- A load stands in the tree (S41).
abbrev pub has_load : Expr → Bool
has_load e = any_node is_load e

-- Nothing in the tree has a value of its own, and nothing is loaded: the variables alone give its value.
abbrev pub plain_expr : Expr → Bool
plain_expr e = not (has_own_value e || has_load e)

-- The variable of number v stands in the tree, under a load too (S37).
abbrev pub reads : ℕ → Expr → Bool
reads v e = any_node (is_variable v) e

-- a test that holds of a record's tag word, over words in pairs
unfoldable pub any_tag : (ℕ → Bool) → List ℕ → Bool
any_tag p [] = false
any_tag p (tag ∷ []) = p tag
any_tag p (tag ∷ value ∷ ws) = p tag || any_tag p ws

-- a tag word of kind k
abbrev pub of_kind : ℕ → ℕ → Bool
of_kind k tag = eqb (kind_of tag) k

-- the tag word of the variable v
abbrev pub of_variable : ℕ → ℕ → Bool
of_variable v tag = eqb (kind_of tag) kind_variable && eqb (argument_of tag) v

-- Two trees are the same where their records are, argument, width, type and value.
unfoldable pub same_tree : Expr → Expr → Bool
same_tree d e = same_words (flat d) (flat e)
