-- Types by width and sign, and the static types of expressions. Numbers that are no type (`Codes`) have a width here because a function needs
-- one everywhere; what reading lets through never meets it: `proofs/Admission.antt type-in-table`.
use Rattle.std.specs.Prelude.{Bool, cond, List, [], ◌∷◌, ℕ, eqb, ltb, get_or}
use Rattle.expr.specs.Codes.{signed8, signed32, unsigned8, unsigned16, unsigned32, unsigned64, pointer, no_type, op_shl, op_equal, operator_count}
use Rattle.expr.specs.Tree.{Expr, kind_of, argument_of}
use Rattle.expr.specs.Tree.Expr.{variable, constant, condition_true, condition_false, effect, load, cast, binary, ternary}

-- How many bits a value of each type has: four signed types, the same four unsigned, pointer, and bool, which is 0 or 1 (S45).
unfoldable pub bits : ℕ → ℕ
bits t = get_or (8 ∷ 16 ∷ 32 ∷ 64 ∷ 8 ∷ 16 ∷ 32 ∷ 64 ∷ 64 ∷ 1 ∷ []) t 64

-- The types with a sign stand before unsigned 8 (S45).
abbrev pub signed : ℕ → Bool
signed t = ltb t unsigned8

-- A type with a pointer taken as the unsigned 64-bit number that it is (S45, R22).
unfoldable pub plain_type : ℕ → ℕ
plain_type t = cond (eqb t pointer) unsigned64 t

-- The type that an operand is taken at: signed 32 instead of every narrower type, bool among them (V3).
unfoldable pub promoted : ℕ → ℕ
promoted t = cond (ltb (bits t) 32) signed32 (plain_type t)

-- Of two promoted types the one with more bits, and where both have as many the one without a sign (V4).
unfoldable pub common : ℕ → ℕ → ℕ
common a b = cond (ltb (bits a) (bits b)) b (cond (ltb (bits b) (bits a)) a (cond (signed a) b a))

-- The type of two operands, or of a ternary's two arms, together (V4, V5).
abbrev pub together : ℕ → ℕ → ℕ
together a b = common (promoted a) (promoted b)

-- A constant has the unsigned type of its width in bytes (V1). No other width has a type.
unfoldable pub constant_type : ℕ → ℕ
constant_type w = cond (eqb w 1) unsigned8 (cond (eqb w 2) unsigned16 (cond (eqb w 4) unsigned32 (cond (eqb w 8) unsigned64 no_type)))

-- The operators up to ^ have the type of both operands together; << and >> that of the promoted left operand; comparisons and logic are signed
-- 32 (V2, V4, V7). No other operator has a type.
unfoldable pub binary_type : ℕ → ℕ → ℕ → ℕ
binary_type o a b =
    cond (ltb o op_shl) (together a b) (cond (ltb o op_equal) (promoted a) (cond (ltb o operator_count) signed32 no_type))

-- The static type of an expression, given its variables' types (V1, V2). A variable that is not declared, which reading
-- lets nowhere stand (R10), counts as signed 8.
unfoldable pub type_of : List ℕ → Expr → ℕ
type_of types (variable n) = get_or types n signed8
type_of types (constant w x) = constant_type w
type_of types condition_true = signed32
type_of types condition_false = signed32
type_of types (effect t) = t
type_of types (load t a) = t
type_of types (cast t a) = t
type_of types (binary o a b) = binary_type o (type_of types a) (type_of types b)
type_of types (ternary c a b) = together (type_of types a) (type_of types b)

-- kind by kind, the type of a tree whose root has the argument n, from the types of its last child, b, and of the one before, a
abbrev pub record_types : List ℕ → ℕ → ℕ → ℕ → List ℕ
record_types types n a b =
    get_or types n signed8
    ∷ constant_type n
    ∷ signed32
    ∷ signed32
    ∷ n
    ∷ n
    ∷ n
    ∷ binary_type n a b
    ∷ together a b
    ∷ []

-- the type of the tree that a record makes of its children; a kind outside its table has none
unfoldable pub record_type : List ℕ → ℕ → ℕ → ℕ → ℕ
record_type types tag a b = get_or (record_types types (argument_of tag) a b) (kind_of tag) no_type

-- Two types between which an assignment is no fault (R21, R22).
unfoldable pub same_type : ℕ → ℕ → Bool
same_type a b = eqb (plain_type a) (plain_type b)
