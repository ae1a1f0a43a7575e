-- Static types of expressions, by sign and width. Nothing here is shared with the definitions that reading uses.
use Rattle.std.specs.Prelude.{ℕ, ◌*◌, ◌<◌, ◌≤◌, ◌≡◌, List, [], ◌∷◌, Bool, true, false, ◌&&◌}
use Rattle.std.proofs.Math.Option.{some}
use Rattle.expr.specs.Tree.{Expr}
use Rattle.expr.specs.Tree.Expr.{variable, constant, condition_true, condition_false, effect, load, cast, binary, ternary}
use Rattle.sheet_bytes.specs.Write.{entry}

pub record Integer : Type 0 where
  pub signed : Bool
  pub bits : ℕ

abbrev pub int : ℕ → Integer
int bits = record { signed = true; bits = bits }

abbrev pub uint : ℕ → Integer
uint bits = record { signed = false; bits = bits }

pub data StaticType : Type 0 where
  integer : Integer → StaticType
  bool : StaticType

-- The types in the order of their codes; a pointer, 8, is the same type as 7. (S45, R22)
unfoldable pub types_by_code : List StaticType
types_by_code =
    integer (int 8)
    ∷ integer (int 16)
    ∷ integer (int 32)
    ∷ integer (int 64)
    ∷ integer (uint 8)
    ∷ integer (uint 16)
    ∷ integer (uint 32)
    ∷ integer (uint 64)
    ∷ integer (uint 64)
    ∷ bool
    ∷ []

-- a code is that of a type
abbrev pub Codes : ℕ → StaticType → Type 0
Codes code t = entry types_by_code code ≡ some t

-- Promotion: bool and whatever has fewer than 32 bits become signed 32, the rest stays. (V3)
pub data Promoted : StaticType → Integer → Type 0 where
  truth : Promoted bool (int 32)
  narrow : {t : Integer} → t.bits < 32 → Promoted (integer t) (int 32)
  wide : {t : Integer} → 32 ≤ t.bits → Promoted (integer t) t

-- Of two promoted types the wider; of two that are equally wide a signed one only where both are signed. (V4)
pub data Common : Integer → Integer → Integer → Type 0 where
  left : {t u : Integer} → u.bits < t.bits → Common t u t
  right : {t u : Integer} → t.bits < u.bits → Common t u u
  tie : {t u : Integer} → t.bits ≡ u.bits → Common t u (record { signed = t.signed && u.signed; bits = t.bits })

-- the type of two operands, or two arms, of the types t and u
pub record Together (t u : StaticType) (r : Integer) : Type 0 where
  pub first : Integer
  pub second : Integer
  pub promotes_first : Promoted t first
  pub promotes_second : Promoted u second
  pub common : Common first second r

-- The type of an expression, given the codes of its variables' types. The operators 0 to 7 are arithmetic, 8 and 9 shifts, 10 to 17
-- comparisons and logic. (V1, V2, V5, V7, S43)
pub data HasType (types : List ℕ) : Expr → StaticType → Type 0 where
  of_variable : {n code : ℕ} {t : StaticType} → entry types n ≡ some code → Codes code t → HasType types (variable n) t
  of_constant : {w x : ℕ} → HasType types (constant w x) (integer (uint (8 * w)))
  of_true : HasType types condition_true (integer (int 32))
  of_false : HasType types condition_false (integer (int 32))
  of_effect : {code : ℕ} {t : StaticType} → Codes code t → HasType types (effect code) t
  of_load : {code : ℕ} {a : Expr} {t : StaticType} → Codes code t → HasType types (load code a) t
  of_cast : {code : ℕ} {a : Expr} {t : StaticType} → Codes code t → HasType types (cast code a) t
  of_arithmetic : {o : ℕ} {a b : Expr} {t u : StaticType} {r : Integer} → o ≤ 7 → HasType types a t → HasType types b u → Together t u r → HasType types (binary o a b) (integer r)
  of_shift : {o : ℕ} {a b : Expr} {t : StaticType} {r : Integer} → 8 ≤ o → o ≤ 9 → HasType types a t → Promoted t r → HasType types (binary o a b) (integer r)
  of_test : {o : ℕ} {a b : Expr} → 10 ≤ o → o ≤ 17 → HasType types (binary o a b) (integer (int 32))
  of_ternary : {c a b : Expr} {t u : StaticType} {r : Integer} → HasType types a t → HasType types b u → Together t u r → HasType types (ternary c a b) (integer r)
