-- Expressions as trees, and as the words that hold them: each record is two words, a tag word (the kind and 16 times the argument) and a value
-- word, and a tree's records stand in postfix order, children before their parent.
use Rattle.std.specs.Prelude.{◌≡◌, List, [], ◌∷◌, ◌++◌, ℕ, ◌+◌, ◌*◌, ◌/◌, ◌%◌, ◌-◌, ◌≤◌, length, get_or, drop}
use Rattle.expr.specs.Codes.{kind_variable, kind_constant, kind_true, kind_false, kind_effect, kind_load, kind_cast, kind_binary, kind_ternary}

-- The kinds of record, each with its argument and the trees below it (S37, S38, S39, S40, S41, S42, S43, S44).
pub data Expr : Type 0 where
  variable : (number : ℕ) → Expr
  constant : (width value : ℕ) → Expr
  condition_true condition_false : Expr
  effect : (type : ℕ) → Expr
  load cast : (type : ℕ) → Expr → Expr
  binary : (operator : ℕ) → Expr → Expr → Expr
  ternary : (condition then otherwise : Expr) → Expr

-- The tag word of a tree's root: the number of its kind, and its argument.
unfoldable pub tag_of : Expr → ℕ
tag_of (variable n) = kind_variable + 16 * n
tag_of (constant w x) = kind_constant + 16 * w
tag_of condition_true = kind_true
tag_of condition_false = kind_false
tag_of (effect t) = kind_effect + 16 * t
tag_of (load t a) = kind_load + 16 * t
tag_of (cast t a) = kind_cast + 16 * t
tag_of (binary o a b) = kind_binary + 16 * o
tag_of (ternary c a b) = kind_ternary

-- The value word of a tree's root. Only a constant has a value (S38).
unfoldable pub value_of : Expr → ℕ
value_of (variable n) = 0
value_of (constant w x) = x
value_of condition_true = 0
value_of condition_false = 0
value_of (effect t) = 0
value_of (load t a) = 0
value_of (cast t a) = 0
value_of (binary o a b) = 0
value_of (ternary c a b) = 0

-- the record of a tree's root
abbrev pub own : Expr → List ℕ
own e = tag_of e ∷ value_of e ∷ []

-- A tree's words are its children's, first child first, and then its root's (S36).
unfoldable pub flat : Expr → List ℕ
flat (variable n) = own (variable n)
flat (constant w x) = own (constant w x)
flat condition_true = own condition_true
flat condition_false = own condition_false
flat (effect t) = own (effect t)
flat (load t a) = flat a ++ own (load t a)
flat (cast t a) = flat a ++ own (cast t a)
flat (binary o a b) = flat a ++ (flat b ++ own (binary o a b))
flat (ternary c a b) = flat c ++ (flat a ++ (flat b ++ own (ternary c a b)))

-- how many records a tree has
unfoldable pub size : Expr → ℕ
size (variable n) = 1
size (constant w x) = 1
size condition_true = 1
size condition_false = 1
size (effect t) = 1
size (load t a) = size a + 1
size (cast t a) = size a + 1
size (binary o a b) = size a + size b + 1
size (ternary c a b) = size c + size a + size b + 1

-- the kind and the argument in a tag word
abbrev pub kind_of : ℕ → ℕ
kind_of tag = tag % 16

abbrev pub argument_of : ℕ → ℕ
argument_of tag = tag / 16

-- How many children a record takes, by the kind in its tag word (S41, S42, S43, S44). A kind outside the table takes none; every record of a
-- tree is in it: `proofs/Stack.antt fed-tree`.
unfoldable pub arity_of : ℕ → ℕ
arity_of tag = get_or (0 ∷ 0 ∷ 0 ∷ 0 ∷ 0 ∷ 1 ∷ 1 ∷ 2 ∷ 3 ∷ []) (kind_of tag) 0

-- A tree of a stack of trees whose top is its head; condition_true stands in for one that is lacking.
abbrev pub child : List Expr → ℕ → Expr
child st i = get_or st i condition_true

-- kind by kind, the tree whose root has the argument n and the value x, of the trees on top of a stack: the last child is the topmost
abbrev pub nodes : ℕ → ℕ → List Expr → List Expr
nodes n x st =
    variable n
    ∷ constant n x
    ∷ condition_true
    ∷ condition_false
    ∷ effect n
    ∷ load n (child st 0)
    ∷ cast n (child st 0)
    ∷ binary n (child st 1) (child st 0)
    ∷ ternary (child st 2) (child st 1) (child st 0)
    ∷ []

-- The tree that a record makes. For a kind outside the table, and for a child that is lacking, condition_true stands in; records of a tree
-- never meet it: `proofs/Stack.antt fed-tree`.
unfoldable pub node : ℕ → ℕ → List Expr → Expr
node tag value st = get_or (nodes (argument_of tag) value st) (kind_of tag) condition_true

-- One record takes its children off the stack and leaves its own tree there.
unfoldable pub push : ℕ → ℕ → List Expr → List Expr
push tag value st = node tag value st ∷ drop (arity_of tag) st

-- Reading records in order, on a stack of the trees that are complete so far. A last word without a partner is passed over.
unfoldable pub parse : List Expr → List ℕ → List Expr
parse st [] = st
parse st (tag ∷ []) = st
parse st (tag ∷ value ∷ ws) = parse (push tag value st) ws

-- the tree that ends last in a list of words
unfoldable pub tree_of : List ℕ → Expr
tree_of ws = child (parse [] ws) 0

-- The words are exactly one tree, every word of it used (S36).
abbrev pub Wf : List ℕ → Type 0
Wf ws = flat (tree_of ws) ≡ ws

-- the words of a stack of trees, the top tree's last
unfoldable pub flats : List Expr → List ℕ
flats [] = []
flats (e ∷ st) = flats st ++ flat e

-- The words are exactly some trees, one after the other.
unfoldable pub Trees : List ℕ → Type 0
Trees ws = flats (parse [] ws) ≡ ws

-- how many trees the words hold
abbrev pub tree_count : List ℕ → ℕ
tree_count ws = length (parse [] ws)

-- where the last tree of the words starts
abbrev pub last_start : List ℕ → ℕ
last_start ws = length ws - length (flat (tree_of ws))

-- Two words that can be a record of a tree. The kind is one of the nine, true, false and ternary have no argument, and only
-- constants have a value.
pub record Formed (tag value : ℕ) : Type 0 where
  pub kind : kind_of tag ≤ kind_ternary
  pub bare_true : kind_of tag ≡ kind_true → tag ≡ kind_true
  pub bare_false : kind_of tag ≡ kind_false → tag ≡ kind_false
  pub bare_ternary : kind_of tag ≡ kind_ternary → tag ≡ kind_ternary
  pub plain : (kind_of tag ≡ kind_constant → ⊥) → value ≡ 0
