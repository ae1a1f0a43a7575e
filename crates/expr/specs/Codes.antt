-- The tables of numbers in expressions, each name once: kinds of records, types, operators.
use Rattle.std.specs.Prelude.{ℕ}

-- Kinds of records (S37, S38, S39, S40, S41, S42, S43, S44).
abbrev pub kind_variable : ℕ
kind_variable = 0

abbrev pub kind_constant : ℕ
kind_constant = 1

abbrev pub kind_true : ℕ
kind_true = 2

abbrev pub kind_false : ℕ
kind_false = 3

abbrev pub kind_effect : ℕ
kind_effect = 4

abbrev pub kind_load : ℕ
kind_load = 5

abbrev pub kind_cast : ℕ
kind_cast = 6

abbrev pub kind_binary : ℕ
kind_binary = 7

abbrev pub kind_ternary : ℕ
kind_ternary = 8

-- how many there are
abbrev pub kind_count : ℕ
kind_count = 9

-- Types (S45).
abbrev pub signed8 : ℕ
signed8 = 0

abbrev pub signed16 : ℕ
signed16 = 1

abbrev pub signed32 : ℕ
signed32 = 2

abbrev pub signed64 : ℕ
signed64 = 3

abbrev pub unsigned8 : ℕ
unsigned8 = 4

abbrev pub unsigned16 : ℕ
unsigned16 = 5

abbrev pub unsigned32 : ℕ
unsigned32 = 6

abbrev pub unsigned64 : ℕ
unsigned64 = 7

abbrev pub pointer : ℕ
pointer = 8

abbrev pub bool : ℕ
bool = 9

-- how many there are
abbrev pub type_count : ℕ
type_count = 10

-- a number that is no type
abbrev pub no_type : ℕ
no_type = 10

-- Operators, in `BinaryOp` order (S43).
abbrev pub op_add : ℕ
op_add = 0

abbrev pub op_sub : ℕ
op_sub = 1

abbrev pub op_mul : ℕ
op_mul = 2

abbrev pub op_div : ℕ
op_div = 3

abbrev pub op_mod : ℕ
op_mod = 4

abbrev pub op_and : ℕ
op_and = 5

abbrev pub op_or : ℕ
op_or = 6

abbrev pub op_xor : ℕ
op_xor = 7

abbrev pub op_shl : ℕ
op_shl = 8

abbrev pub op_shr : ℕ
op_shr = 9

abbrev pub op_equal : ℕ
op_equal = 10

abbrev pub op_not_equal : ℕ
op_not_equal = 11

abbrev pub op_less : ℕ
op_less = 12

abbrev pub op_less_equal : ℕ
op_less_equal = 13

abbrev pub op_greater : ℕ
op_greater = 14

abbrev pub op_greater_equal : ℕ
op_greater_equal = 15

abbrev pub op_logical_and : ℕ
op_logical_and = 16

abbrev pub op_logical_or : ℕ
op_logical_or = 17

-- how many there are
abbrev pub operator_count : ℕ
operator_count = 18
