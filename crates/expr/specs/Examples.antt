-- Worked examples of the definitions.
use Rattle.std.specs.Prelude.{◌≡◌, refl, true, false, List, [], ◌∷◌, ℕ}
use Rattle.expr.specs.Tree.{Expr, tag_of, value_of, flat, arity_of, node, push, parse}
use Rattle.expr.specs.Tree.Expr.{variable, constant, condition_true, load, cast, binary, ternary}
use Rattle.laws.specs.Words.{same_words}
use Rattle.expr.specs.Scan.{any_node, is_variable, reads, same_tree}
use Rattle.expr.specs.Types.{bits, promoted, common, constant_type, binary_type, type_of, plain_type, same_type}

-- x × (x + 1), with x the variable 0 and 1 a constant of width 4
abbrev product : Expr
product = binary 2 (variable 0) (binary 0 (variable 0) (constant 4 1))

words : List ℕ
words = 0 ∷ 0 ∷ 0 ∷ 0 ∷ 65 ∷ 1 ∷ 7 ∷ 0 ∷ 39 ∷ 0 ∷ []

flat-product : flat product ≡ words
unfolding flat tag_of value_of words
flat-product = refl

parse-product : parse [] words ≡ product ∷ []
unfolding parse push node arity_of words
parse-product = refl

-- variable 0 is unsigned 8, variable 1 a pointer, 2 unsigned 32, 3 signed 64, 4 signed 32
types : List ℕ
types = 4 ∷ 8 ∷ 6 ∷ 3 ∷ 2 ∷ []

bytes-add : type_of types (binary 0 (variable 0) (variable 0)) ≡ 2
unfolding type_of types binary_type common promoted plain_type bits
bytes-add = refl

pointer-add : type_of types (binary 0 (variable 1) (variable 4)) ≡ 7
unfolding type_of types binary_type common promoted plain_type bits
pointer-add = refl

bytes-ternary : type_of types (ternary condition_true (variable 0) (variable 0)) ≡ 2
unfolding type_of types binary_type common promoted plain_type bits
bytes-ternary = refl

wider-wins : type_of types (binary 0 (variable 2) (variable 3)) ≡ 3
unfolding type_of types binary_type common promoted plain_type bits
wider-wins = refl

unsigned-at-tie : type_of types (binary 0 (variable 2) (variable 4)) ≡ 6
unfolding type_of types binary_type common promoted plain_type bits
unsigned-at-tie = refl

shift-left-type : type_of types (binary 8 (variable 2) (variable 3)) ≡ 6
unfolding type_of types binary_type common promoted plain_type bits
shift-left-type = refl

comparison : type_of types (binary 10 (variable 3) (variable 3)) ≡ 2
unfolding type_of types binary_type common promoted plain_type bits
comparison = refl

cast-own : type_of types (cast 5 product) ≡ 5
unfolding type_of
cast-own = refl

constant-width : type_of types (constant 2 7) ≡ 5
unfolding type_of constant_type
constant-width = refl

pointer-counts : same_type 8 7 ≡ true
unfolding same_type plain_type
pointer-counts = refl

-- under a load too
reads-address : reads 3 (load 4 (variable 3)) ≡ true
unfolding any_node is_variable
reads-address = refl

-- constants of one value and two widths differ
widths-differ : same_tree (constant 1 5) (constant 2 5) ≡ false
unfolding same_tree same_words flat tag_of value_of
widths-differ = refl
