-- What the value of an expression does not depend on: the effects where nothing has a value of its own; memory and what variables are inside
-- loads where there is no load; a variable that is not read; in a condition, the position of a load. Assumes nothing.
use Rattle.std.specs.Prelude.{Option, Some, None}
use mathlib.Core.Path.{◌≡◌, refl, sym, ap, ap₂, ◌∙◌}
use mathlib.Core.Bool.{Bool, true, false, cond, ◌||◌, false≢true}
use mathlib.Core.List.{List, []}
use Prim.Native.Nat.{ℕ}
use lib.Dec.{eqb}
use lib.ListN.{get_or}
use borrow.Author.Tests.{eq-eqb, eqb-true}
use Rattle.expr.specs.Codes.{signed8}
use Rattle.expr.specs.Tree.{Expr}
use Rattle.expr.specs.Tree.Expr.{variable, constant, condition_true, condition_false, effect, load, cast, binary, ternary}
use Rattle.expr.specs.Types.{type_of}
use Rattle.expr.specs.Scan.{any_node, is_effect, is_load, is_variable, has_own_value, has_load, reads}
use Rattle.value.specs.Operators.{chosen, taken, operate}
use Rattle.value.specs.Evaluation.{Values, Contents, Memory, Effects, under, shared, loaded, ev}
use Rattle.value.specs.Run.{update}
use Rattle.laws.proofs.Booleans.{or_left, or_right, in_left, in_right}

-- where nothing has a value of its own, the effects play no part
pub without-own-value : (types : List ℕ) (ρ σ : Values) (m : Memory) (f f' : Effects) (e : Expr) → has_own_value e ≡ false
    → ev types ρ σ m f e ≡ ev types ρ σ m f' e
unfolding ev any_node is_effect
without-own-value types ρ σ m f f' (variable n) h = refl
without-own-value types ρ σ m f f' (constant w x) h = refl
without-own-value types ρ σ m f f' condition_true h = refl
without-own-value types ρ σ m f f' condition_false h = refl
without-own-value types ρ σ m f f' (effect t) h = absurd (false≢true (sym h))
without-own-value types ρ σ m f f' (load t a) h =
    ap (loaded t (type_of types a) (m [])) (without-own-value types σ σ (under 0 m) (under 0 f) (under 0 f') a h)
without-own-value types ρ σ m f f' (cast t a) h = ap (taken (type_of types a) t) (without-own-value types ρ σ (under 0 m) (under 0 f) (under 0 f') a h)
without-own-value types ρ σ m f f' (binary o a b) h =
    ap₂ (operate o (type_of types a) (type_of types b)) (without-own-value types ρ σ (under 0 m) (under 0 f) (under 0 f') a (or_left (has_own_value a) (has_own_value b) h)) (without-own-value types ρ σ (under 1 m) (under 1 f) (under 1 f') b (or_right (has_own_value a) (has_own_value b) h))
without-own-value types ρ σ m f f' (ternary c a b) h =
    let arms = or_right (has_own_value c) (has_own_value a || has_own_value b) h in
    let x = without-own-value types ρ σ (under 0 m) (under 0 f) (under 0 f') c (or_left (has_own_value c) (has_own_value a || has_own_value b) h) in
    let u = without-own-value types ρ σ (under 1 m) (under 1 f) (under 1 f') a (or_left (has_own_value a) (has_own_value b) arms) in
    let v = without-own-value types ρ σ (under 2 m) (under 2 f) (under 2 f') b (or_right (has_own_value a) (has_own_value b) arms) in
    rw (x, u, v)

-- where there is no load, memory and the values inside loads play no part
pub without-load : (types : List ℕ) (ρ σ σ' : Values) (m m' : Memory) (f : Effects) (e : Expr) → has_load e ≡ false
    → ev types ρ σ m f e ≡ ev types ρ σ' m' f e
unfolding ev any_node is_load
without-load types ρ σ σ' m m' f (variable n) h = refl
without-load types ρ σ σ' m m' f (constant w x) h = refl
without-load types ρ σ σ' m m' f condition_true h = refl
without-load types ρ σ σ' m m' f condition_false h = refl
without-load types ρ σ σ' m m' f (effect t) h = refl
without-load types ρ σ σ' m m' f (load t a) h = absurd (false≢true (sym h))
without-load types ρ σ σ' m m' f (cast t a) h = ap (taken (type_of types a) t) (without-load types ρ σ σ' (under 0 m) (under 0 m') (under 0 f) a h)
without-load types ρ σ σ' m m' f (binary o a b) h =
    ap₂ (operate o (type_of types a) (type_of types b)) (without-load types ρ σ σ' (under 0 m) (under 0 m') (under 0 f) a (or_left (has_load a) (has_load b) h)) (without-load types ρ σ σ' (under 1 m) (under 1 m') (under 1 f) b (or_right (has_load a) (has_load b) h))
without-load types ρ σ σ' m m' f (ternary c a b) h =
    let arms = or_right (has_load c) (has_load a || has_load b) h in
    let x = without-load types ρ σ σ' (under 0 m) (under 0 m') (under 0 f) c (or_left (has_load c) (has_load a || has_load b) h) in
    let u = without-load types ρ σ σ' (under 1 m) (under 1 m') (under 1 f) a (or_left (has_load a) (has_load b) arms) in
    let v = without-load types ρ σ σ' (under 2 m) (under 2 m') (under 2 f) b (or_right (has_load a) (has_load b) arms) in
    rw (x, u, v)

-- the values agree at every variable that the expression reads
abbrev pub Agree : Expr → Values → Values → Type 0
Agree e ρ ρ' = (n : ℕ) → reads n e ≡ true → ρ n ≡ ρ' n

abbrev left-agree : {ρ ρ' : Values} (o : ℕ) (a b : Expr) → Agree (binary o a b) ρ ρ' → Agree a ρ ρ'
unfolding any_node is_variable
left-agree o a b h n r = h n (in_left (reads n a) (reads n b) r)

abbrev right-agree : {ρ ρ' : Values} (o : ℕ) (a b : Expr) → Agree (binary o a b) ρ ρ' → Agree b ρ ρ'
unfolding any_node is_variable
right-agree o a b h n r = h n (in_right (reads n a) (reads n b) r)

abbrev condition-agree : {ρ ρ' : Values} (c a b : Expr) → Agree (ternary c a b) ρ ρ' → Agree c ρ ρ'
unfolding any_node is_variable
condition-agree c a b h n r = h n (in_left (reads n c) (reads n a || reads n b) r)

abbrev arms-agree : {ρ ρ' : Values} (c a b : Expr) → Agree (ternary c a b) ρ ρ' → Agree (binary 0 a b) ρ ρ'
unfolding any_node is_variable
arms-agree c a b h n r = h n (in_right (reads n c) (reads n a || reads n b) r)

-- only the variables that are read play a part
pub by-variables-read : (types : List ℕ) (ρ ρ' σ σ' : Values) (m : Memory) (f : Effects) (e : Expr) → Agree e ρ ρ' → Agree e σ σ'
    → ev types ρ σ m f e ≡ ev types ρ' σ' m f e
unfolding ev any_node is_variable
by-variables-read types ρ ρ' σ σ' m f (variable n) h k = ap (chosen (get_or types n signed8)) (h n (eq-eqb n n refl))
by-variables-read types ρ ρ' σ σ' m f (constant w x) h k = refl
by-variables-read types ρ ρ' σ σ' m f condition_true h k = refl
by-variables-read types ρ ρ' σ σ' m f condition_false h k = refl
by-variables-read types ρ ρ' σ σ' m f (effect t) h k = refl
by-variables-read types ρ ρ' σ σ' m f (load t a) h k =
    ap (loaded t (type_of types a) (m [])) (by-variables-read types σ σ' σ σ' (under 0 m) (under 0 f) a k k)
by-variables-read types ρ ρ' σ σ' m f (cast t a) h k =
    ap (taken (type_of types a) t) (by-variables-read types ρ ρ' σ σ' (under 0 m) (under 0 f) a h k)
by-variables-read types ρ ρ' σ σ' m f (binary o a b) h k =
    ap₂ (operate o (type_of types a) (type_of types b)) (by-variables-read types ρ ρ' σ σ' (under 0 m) (under 0 f) a (left-agree o a b h) (left-agree o a b k)) (by-variables-read types ρ ρ' σ σ' (under 1 m) (under 1 f) b (right-agree o a b h) (right-agree o a b k))
by-variables-read types ρ ρ' σ σ' m f (ternary c a b) h k =
    let h-arms = arms-agree c a b h in
    let k-arms = arms-agree c a b k in
    let x = by-variables-read types ρ ρ' σ σ' (under 0 m) (under 0 f) c (condition-agree c a b h) (condition-agree c a b k) in
    let u = by-variables-read types ρ ρ' σ σ' (under 1 m) (under 1 f) a (left-agree 0 a b h-arms) (left-agree 0 a b k-arms) in
    let v = by-variables-read types ρ ρ' σ σ' (under 2 m) (under 2 f) b (right-agree 0 a b h-arms) (right-agree 0 a b k-arms) in
    rw (x, u, v)

update-agree : (v x : ℕ) (ρ : Values) (e : Expr) → reads v e ≡ false → Agree e (update v x ρ) ρ
update-agree v x ρ e h n r = by (eqb n v) refl
  where
    by : (b : Bool) → eqb n v ≡ b → cond b x (ρ n) ≡ ρ n
    by true q = absurd (false≢true (sym h ∙ (ap (λ (k : ℕ). reads k e) (sym (eqb-true n v q)) ∙ r)))
    by false q = refl

-- a variable that is not read plays no part
pub without-variable : (types : List ℕ) (v x y : ℕ) (ρ σ : Values) (m : Memory) (f : Effects) (e : Expr) → reads v e ≡ false
    → ev types (update v x ρ) (update v y σ) m f e ≡ ev types ρ σ m f e
without-variable types v x y ρ σ m f e h =
    by-variables-read types (update v x ρ) ρ (update v y σ) σ m f e (update-agree v x ρ e h) (update-agree v y σ e h)

-- ---- loads in a condition

-- a load by its address as a pointer
found : ℕ → Contents → Option ℕ → Option ℕ
found t m (Some x) = chosen t (m t x)
found t m None = None

loaded_found : (t s : ℕ) (m : Contents) (v : Option ℕ) → loaded t s m v ≡ found t m (taken s 8 v)
unfolding found
loaded_found t s m (Some x) = refl
loaded_found t s m None = refl

-- in a condition two loads of one type agree where their addresses do
pub loads-agree : (types : List ℕ) (ρ σ : Values) (m : Contents) (f f' : Effects) (t : ℕ) (a b : Expr)
    → taken (type_of types a) 8 (ev types σ σ (shared m) (under 0 f) a) ≡ taken (type_of types b) 8 (ev types σ σ (shared m) (under 0 f') b)
    → ev types ρ σ (shared m) f (load t a) ≡ ev types ρ σ (shared m) f' (load t b)
unfolding ev
loads-agree types ρ σ m f f' t a b h =
    loaded_found t (type_of types a) m (ev types σ σ (shared m) (under 0 f) a)
    ∙ (ap (found t m) h ∙ sym (loaded_found t (type_of types b) m (ev types σ σ (shared m) (under 0 f') b)))
