-- What holds of expressions that reading lets through: their static types are types, and their constants are values of theirs. Assumes nothing.
use mathlib.Core.Bool.{Bool, true, false, cond}
use mathlib.Core.List.{List}
use mathlib.Core.Logic.{⊎_elim}
use mathlib.Core.Path.{◌≡◌, refl}
use Prim.Native.Nat.{ℕ, ◌*◌, ◌^◌, ◌<◌}
use lib.Dec.{ltb, eqb, lit<}
use lib.ListN.{length}
use borrow.Author.Tests.{lt-ltb}
use Rattle.expr.specs.Codes.{type_count, signed32, unsigned64, pointer, op_shl, op_equal, operator_count}
use Rattle.expr.specs.Tree.{Expr}
use Rattle.expr.specs.Tree.Expr.{variable, constant, condition_true, condition_false, effect, load, cast, binary, ternary}
use Rattle.expr.specs.Types.{bits, signed, plain_type, promoted, common, together, constant_type, binary_type, type_of}
use Rattle.expr.specs.Admission.{InWidth, Admitted, InTable}

choice-in : (b : Bool) (x y : ℕ) → x < type_count → y < type_count → cond b x y < type_count
choice-in true x y h k = h
choice-in false x y h k = k

plain_in : (t : ℕ) → t < type_count → plain_type t < type_count
unfolding plain_type
plain_in t h = choice-in (eqb t pointer) unsigned64 t (lit< tt) h

pub promoted-in : (t : ℕ) → t < type_count → promoted t < type_count
unfolding promoted
promoted-in t h = choice-in (ltb (bits t) 32) signed32 (plain_type t) (lit< tt) (plain_in t h)

pub common-in : (a b : ℕ) → a < type_count → b < type_count → common a b < type_count
unfolding common
common-in a b h k =
    choice-in (ltb (bits a) (bits b)) b _ k (choice-in (ltb (bits b) (bits a)) a _ h (choice-in (signed a) b a k h))

pub together-in : (a b : ℕ) → a < type_count → b < type_count → together a b < type_count
together-in a b h k = common-in (promoted a) (promoted b) (promoted-in a h) (promoted-in b k)

pub binary-in : (o a b : ℕ) → o < operator_count → a < type_count → b < type_count → binary_type o a b < type_count
unfolding binary_type
binary-in o a b l h k =
    choice-in (ltb o op_shl) (together a b) _ (together-in a b h k)
    (choice-in (ltb o op_equal) (promoted a) _ (promoted-in a h) (rw (lt-ltb o operator_count l) (lit< tt)))

pub constant-in : (w x : ℕ) → InWidth w x → constant_type w < type_count
unfolding constant_type
constant-in w x h =
    ⊎_elim (λ e. rw e (lit< tt)) (⊎_elim (λ e. rw e (lit< tt)) (⊎_elim (λ e. rw e (lit< tt)) (λ e. rw e (lit< tt)))) h.width

-- a constant is a value of its type
pub constant-fits : (w x : ℕ) → InWidth w x → x < 2 ^ bits (constant_type w)
unfolding constant_type bits
constant-fits w x h = ⊎_elim (λ e. at e refl) (⊎_elim (λ e. at e refl) (⊎_elim (λ e. at e refl) (λ e. at e refl))) h.width
  where
    at : {k : ℕ} → w ≡ k → bits (constant_type k) ≡ 8 * k → x < 2 ^ bits (constant_type w)
    at e f = rw (e, f, ← e) h.fits

-- the static type of what reading lets through is a type
pub type-in-table : (types : List ℕ) → InTable types → (e : Expr) → Admitted (length types) e → type_of types e < type_count
unfolding type_of Admitted
type-in-table types t (variable v) h = t v h
type-in-table types t (constant w x) h = constant-in w x h
type-in-table types t condition_true h = lit< tt
type-in-table types t condition_false h = lit< tt
type-in-table types t (effect k) h = h
type-in-table types t (load k a) h = h.0
type-in-table types t (cast k a) h = h.0
type-in-table types t (binary o a b) h =
    binary-in o (type_of types a) (type_of types b) h.0 (type-in-table types t a h.1) (type-in-table types t b h.2)
type-in-table types t (ternary c a b) h =
    together-in (type_of types a) (type_of types b) (type-in-table types t a h.1) (type-in-table types t b h.2)
