-- Substitution keeps the static type, up to pointer and unsigned 64, and the value: where what stands for each variable evaluates to the variable's
-- present value, the substituted expression evaluates to what the expression does at the present values. Loads are not substituted: their addresses are
-- evaluated at the present values in both.
use mathlib.Core.Path.{◌≡◌, refl, ap, ap₂, ◌∙◌}
use mathlib.Core.List.{List}
use Prim.Native.Nat.{ℕ}
use lib.ListN.{get_or}
use Rattle.expr.specs.Tree.{Expr}
use Rattle.expr.specs.Tree.Expr.{variable, constant, condition_true, condition_false, effect, load, cast, binary, ternary}
use Rattle.expr.specs.Types.{plain_type, together, type_of}
use Rattle.value.specs.Operators.{chosen, taken, operate}
use Rattle.value.specs.Evaluation.{Values, Memory, Effects, under, ev}
use Rattle.substitution.specs.Substitution.{Table, standing, substitute}
use Rattle.substitution.proofs.Alike.{Alike, taken-alike, together-alike, binary-alike, operate-alike}

-- what stands for each variable has the variable's type
abbrev pub StandsTyped : List ℕ → Table → Type 0
StandsTyped types h = (v : ℕ) → Alike (type_of types (standing v (h v))) (get_or types v 0)

pub type-kept : (types : List ℕ) (h : Table) → StandsTyped types h → (e : Expr) → Alike (type_of types (substitute h e)) (type_of types e)
unfolding substitute type_of
type-kept types h typed (variable n) = typed n
type-kept types h typed (constant w x) = refl
type-kept types h typed condition_true = refl
type-kept types h typed condition_false = refl
type-kept types h typed (effect t) = refl
type-kept types h typed (load t a) = refl
type-kept types h typed (cast t a) = refl
type-kept types h typed (binary o a b) =
    ap plain_type
    (binary-alike o (type_of types (substitute h a)) (type_of types a) (type_of types (substitute h b)) (type_of types b) (type-kept types h typed a)
    (type-kept types h typed b))
type-kept types h typed (ternary c a b) =
    ap plain_type
    (together-alike (type_of types (substitute h a)) (type_of types a) (type_of types (substitute h b)) (type_of types b) (type-kept types h typed a)
    (type-kept types h typed b))

-- what stands for each variable evaluates, outside loads at ρ, to the variable's value in ν
abbrev pub StandsFor : List ℕ → Table → Values → Values → Type 0
StandsFor types h ρ ν = (v : ℕ) (σ : Values) (m : Memory) (f : Effects) → ev types ρ σ m f (standing v (h v)) ≡ chosen (get_or types v 0) (ν v)

module _ (types : List ℕ) (h : Table) (ρ ν : Values) (typed : StandsTyped types h) (stands : StandsFor types h ρ ν) where
  pub value-kept : (m : Memory) (f : Effects) (e : Expr) → ev types ρ ν m f (substitute h e) ≡ ev types ν ν m f e
  unfolding ev substitute
  value-kept m f (variable n) = stands n ν m f
  value-kept m f (constant w x) = refl
  value-kept m f condition_true = refl
  value-kept m f condition_false = refl
  value-kept m f (effect t) = refl
  value-kept m f (load t a) = refl
  value-kept m f (cast t a) =
      ap (taken (type_of types (substitute h a)) t) (value-kept (under 0 m) (under 0 f) a)
      ∙ taken-alike (type_of types (substitute h a)) (type_of types a) t (ev types ν ν (under 0 m) (under 0 f) a) (type-kept types h typed a)
  value-kept m f (binary o a b) =
      ap₂ (operate o (type_of types (substitute h a)) (type_of types (substitute h b))) (value-kept (under 0 m) (under 0 f) a)
      (value-kept (under 1 m) (under 1 f) b)
      ∙ operate-alike o (type_of types (substitute h a)) (type_of types a) (type_of types (substitute h b)) (type_of types b)
      (ev types ν ν (under 0 m) (under 0 f) a) (ev types ν ν (under 1 m) (under 1 f) b) (type-kept types h typed a) (type-kept types h typed b)
  value-kept m f (ternary c a b) =
      let ta : Alike (type_of types (substitute h a)) (type_of types a) = type-kept types h typed a in
      let tb : Alike (type_of types (substitute h b)) (type_of types b) = type-kept types h typed b in
      let t : together (type_of types (substitute h a)) (type_of types (substitute h b)) ≡ together (type_of types a) (type_of types b) =
      together-alike (type_of types (substitute h a)) (type_of types a) (type_of types (substitute h b)) (type_of types b) ta tb in
      rw (
        t,
        value-kept (under 0 m) (under 0 f) c,
        value-kept (under 1 m) (under 1 f) a,
        value-kept (under 2 m) (under 2 f) b,
        taken-alike (type_of types (substitute h a)) (type_of types a) (together (type_of types a) (type_of types b)) (ev types ν ν (under 1 m) (under 1 f) a) ta,
        taken-alike (type_of types (substitute h b)) (type_of types b) (together (type_of types a) (type_of types b)) (ev types ν ν (under 2 m) (under 2 f) b) tb,
      )
