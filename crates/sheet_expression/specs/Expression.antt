-- Expressions of a sheet: a count, then records in postfix order that form one tree. A record's codes are judged as they come (2), the record itself
-- at its last byte (7, then 8).
use Rattle.std.specs.Prelude.{ℕ, zero, suc, ◌+◌, ◌-◌, ◌*◌, ◌^◌, List, [], ◌∷◌, ◌++◌, Bool, cond, not, ◌&&◌, ◌||◌, leb, ltb, eqb}
use Rattle.refusal.specs.declared.Fault.TheVariants.{Code, Tree, Constant}
use Rattle.sheet_field.specs.Field.{Place, FieldReading, field_at, start_of, judge, check_field, code_at, count_at}
use Rattle.expr.specs.Codes.{kind_variable, kind_constant, kind_true, kind_false, kind_effect, kind_cast, kind_binary, kind_ternary, kind_count, type_count, operator_count}
use Rattle.expr.specs.Tree.{arity_of}

-- True, false and ternary have no argument; every other kind has one, a byte (S39, S44).
abbrev pub has_argument : ℕ → Bool
has_argument kind = not (eqb kind kind_true || eqb kind kind_false || eqb kind kind_ternary)

-- Refusal 2, the tables of arguments: a variable's number is below the node's count of variables; a constant's width is 1, 2, 4 or 8; an effect, a
-- load and a cast have a type, 0 to 9; a binary has an operator, 0 to 17 (S37, S38, S40, S41, S42, S43, S45, R8, R10).
abbrev pub argument_ok : ℕ → ℕ → ℕ → Bool
argument_ok variables kind x =
    (eqb kind kind_variable && ltb x variables)
    || (eqb kind kind_constant && (eqb x 1 || eqb x 2 || eqb x 4 || eqb x 8))
    || (leb kind_effect kind && leb kind kind_cast && ltb x type_count)
    || (eqb kind kind_binary && ltb x operator_count)

unfoldable pub argument_at : ℕ → ℕ → List ℕ → Place → FieldReading
argument_at variables kind s p =
    let f = field_at 1 s p in
    cond (has_argument kind) (check_field (argument_ok variables kind f.value) Code (start_of p) f) (record { value = 0; next = p })

-- A constant has a value of 8 bytes after its width (S38).
unfoldable pub constant_at : ℕ → List ℕ → Place → FieldReading
constant_at kind s p = cond (eqb kind kind_constant) (field_at 8 s p) (record { value = 0; next = p })

-- Refusal 8: a constant of 1, 2 or 4 bytes is below 2 to the 8, 16 or 32; 8 bytes hold any value (R20).
abbrev pub fits_width : ℕ → ℕ → ℕ → Bool
fits_width kind width value =
    not (eqb kind kind_constant)
    || ((not (eqb width 1) || ltb value (2 ^ 8))
    && (not (eqb width 2) || ltb value (2 ^ 16))
    && (not (eqb width 4) || ltb value (2 ^ 32)))

-- A record takes its children from the trees before it and leaves one: how many trees are complete then.
abbrev pub depth_after : ℕ → ℕ → ℕ
depth_after depth arity = depth - arity + 1

-- a record as it is read: its two words, how many trees are complete after it, and where reading has come to after it
pub record RecordReading : Type 0 where
  pub tag : ℕ
  pub value : ℕ
  pub depth : ℕ
  pub next : Place

-- A record, with `depth` complete trees before it and `left` records after it. Its checks are made at its last byte, in the order of their numbers:
-- 7, a record lacks a child, reported at its kind byte; 7, after the last record there is more than one tree, reported at the byte after the
-- expression; 8, a constant above its width, reported at its value (S36, S37, S38, S40, S41, S42, S43, R2, R4, R8, R18, R19, R20).
unfoldable pub record_at : ℕ → ℕ → ℕ → List ℕ → Place → RecordReading
record_at variables depth left s p =
    let kind = code_at kind_count s p in
    let argument = argument_at variables kind.value s kind.next in
    let value = constant_at kind.value s argument.next in
    let tag = kind.value + 16 * argument.value in
    let after = depth_after depth (arity_of tag) in
    let whole = judge (leb (arity_of tag) depth) Tree (start_of p) value.next in
    let one = judge (not (eqb left 0) || eqb after 1) Tree (start_of value.next) whole in
    let fits = judge (fits_width kind.value argument.value value.value) Constant (start_of argument.next) one in
    record { tag = tag; value = value.value; depth = after; next = fits }

-- what records that were read one after the other give: their words, how many trees are complete, and the offset after them
pub record Taken : Type 0 where
  pub words : List ℕ
  pub depth : ℕ
  pub next : Place

-- one record more, with `left` after it
unfoldable pub taken_more : ℕ → ℕ → List ℕ → Taken → Taken
taken_more variables left s before =
    let r = record_at variables before.depth left s before.next in
    record { words = before.words ++ (r.tag ∷ r.value ∷ []); depth = r.depth; next = r.next }

-- after the first k of `total` records, from an offset on
unfoldable pub taken_from : ℕ → ℕ → List ℕ → Place → ℕ → Taken
taken_from variables total s p zero = record { words = []; depth = 0; next = p }
taken_from variables total s p (suc k) = taken_more variables (total - suc k) s (taken_from variables total s p k)

-- A count from 1 to 128, then as many records (S36).
unfoldable pub expression_at : ℕ → List ℕ → Place → Taken
expression_at variables s p =
    let n = count_at 1 128 s p in
    taken_from variables n.value s n.next n.value
