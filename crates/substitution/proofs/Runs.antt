-- Runs of a node, by its substituted condition. Beside the present values ν of the variables stand values ρ, which the substituted expressions are
-- evaluated at: a variable that is not held has its present value there, and one that is held the value from before it was assigned. Every held
-- expression, evaluated at ρ, gives its variable's present value, whatever memory and effects are, as nothing with a load or an effect is held.
-- An assignment changes ρ only at what is not held afterwards. So a held expression keeps its value where it reads no such variable but those that had
-- their present value already. It may read a variable w that is held itself, by the value from before; what ends w must then end it too. That is why
-- it reads all that w's expression reads (`closed`), and why a new value that reads a variable whose held value just ends is not held (N16).
use Rattle.std.specs.Prelude.{Option, Some, None}
use mathlib.Core.Path.{◌≡◌, refl, sym, ap, ◌∙◌}
use mathlib.Core.Bool.{Bool, true, false, cond, not, ◌||◌, false≢true}
use mathlib.Core.List.{List, [], ◌∷◌}
use Prim.Native.Nat.{ℕ, suc, ◌^◌, ◌<◌}
use native.Mathlib.Nat.{mod-eq_of_lt}
use lib.Dec.{eqb}
use lib.ListN.{get_or}
use borrow.Author.Tests.{eq-eqb, ne_eqb, eqb-true, eqb-false, not-true}
use Rattle.expr.specs.Tree.{Expr}
use Rattle.expr.specs.Tree.Expr.{variable, constant, condition_true, condition_false, effect, load, cast, binary, ternary}
use Rattle.expr.specs.Statement.{Statement}
use Rattle.expr.specs.Statement.Statement.{assignment, other}
use Rattle.expr.specs.Scan.{any_node, is_variable, is_load, has_load, plain_expr, reads}
use Rattle.expr.specs.Types.{type_of}
use Rattle.expr.specs.Admission.{AdmittedAll}
use Rattle.expr.proofs.Plainness.{plain-parts}
use Rattle.arith.specs.Numbers.{bits}
use Rattle.value.specs.Operators.{chosen, truth_of}
use Rattle.value.specs.Evaluation.{Values, Contents, Memory, Effects, shared, ev}
use Rattle.value.specs.Run.{Choices, update, given, run_from, run}
use Rattle.value.proofs.Laws.{ev-typed}
use Rattle.value.proofs.Independence.{Agree, by-variables-read}
use Rattle.value.proofs.Steps.{Plain, plain-ev}
use Rattle.substitution.specs.Substitution.{Entry, free, held, Table, nothing_held, standing, substitute, entry_reads, kept, ended, holdable, entry_of, assigned, long, too_long, into, substituted, with_assignments}
use Rattle.substitution.proofs.Alike.{Alike, same_alike, bits-alike}
use Rattle.substitution.proofs.Kept.{StandsTyped, StandsFor, type-kept, value-kept}
use Rattle.laws.proofs.Booleans.{and_left, and_right, or-none}

-- or
or_map : {a b a' b' : Bool} → (a ≡ true → a' ≡ true) → (b ≡ true → b' ≡ true) → (a || b) ≡ true → (a' || b') ≡ true
or_map {a} {b} {a'} {b'} f g h = by a a' f h
  where
    by : (a a' : Bool) → (a ≡ true → a' ≡ true) → (a || b) ≡ true → (a' || b') ≡ true
    by true a' f h = rw (f refl)
    by false true f h = refl
    by false false f h = g h

pub not-held : {e : Expr} → held e ≡ free → ⊥
not-held h = cc

pub record Present (types : List ℕ) (h : Table) (ρ ν : Values) : Type 0 where
  pub held_typed : (v : ℕ) (e : Expr) → h v ≡ held e → Alike (type_of types e) (get_or types v 0)
  pub value : (v : ℕ) (e : Expr) → h v ≡ held e → (σ : Values) (m : Memory) (f : Effects) → ev types ρ σ m f e ≡ chosen (get_or types v 0) (ν v)
  pub same : (v : ℕ) → h v ≡ free → ρ v ≡ ν v
  pub closed : (v w : ℕ) (e d : Expr) → h v ≡ held e → h w ≡ held d → reads w e ≡ true → (x : ℕ) → reads x d ≡ true → reads x e ≡ true

-- nothing is held, and the values are the present ones
present-none : (types : List ℕ) (ν : Values) → Present types nothing_held ν ν
present-none types ν = record {
  held_typed = λ v e p. absurd (not-held (sym p));
  value = λ v e p. absurd (not-held (sym p));
  same = λ v p. refl;
  closed = λ v w e d p. absurd (not-held (sym p));
}

module _ {types : List ℕ} {h : Table} {ρ ν : Values} (p : Present types h ρ ν) where
  stands-typed : StandsTyped types h
  unfolding type_of
  stands-typed v = by (h v) refl
    where
      by : (t : Entry) → h v ≡ t → Alike (type_of types (standing v t)) (get_or types v 0)
      by free q = refl
      by (held e) q = p.held_typed v e q

  stands-for : StandsFor types h ρ ν
  unfolding ev
  stands-for v σ m f = by (h v) refl
    where
      by : (t : Entry) → h v ≡ t → ev types ρ σ m f (standing v t) ≡ chosen (get_or types v 0) (ν v)
      by free q = ap (chosen (get_or types v 0)) (p.same v q)
      by (held e) q = p.value v e q σ m f

-- what a substituted expression without a load reads: with a held variable all that is read for it
module _ {types : List ℕ} {h : Table} {ρ ν : Values} (p : Present types h ρ ν) (w : ℕ) (d : Expr) (q : h w ≡ held d) (x : ℕ) (r : reads x d ≡ true) where
  reads-closed : (e : Expr) → has_load (substitute h e) ≡ false → reads w (substitute h e) ≡ true → reads x (substitute h e) ≡ true
  unfolding substitute any_node is_variable is_load
  reads-closed (variable n) l s = by (h n) refl s
    where
      by : (t : Entry) → h n ≡ t → reads w (standing n t) ≡ true → reads x (standing n t) ≡ true
      by free k s =
          let same : h n ≡ held d = ap h (eqb-true n w s) ∙ q in
          absurd (not-held (sym same ∙ k))
      by (held e) k s = p.closed n w e d k q s x r
  reads-closed (constant c y) l s = absurd (false≢true s)
  reads-closed condition_true l s = absurd (false≢true s)
  reads-closed condition_false l s = absurd (false≢true s)
  reads-closed (effect t) l s = absurd (false≢true s)
  reads-closed (load t a) l s = absurd (false≢true (sym l))
  reads-closed (cast t a) l s = reads-closed a l s
  reads-closed (binary o a b) l s =
      let no = or-none (has_load (substitute h a)) (has_load (substitute h b)) l in
      or_map (λ k. reads-closed a no.0 k) (λ k. reads-closed b no.1 k) s
  reads-closed (ternary c a b) l s =
      let no = or-none (has_load (substitute h c)) (has_load (substitute h a) || has_load (substitute h b)) l in
      let arms = or-none (has_load (substitute h a)) (has_load (substitute h b)) no.1 in
      or_map (λ k. reads-closed c no.0 k) (λ k. or_map (λ k. reads-closed a arms.0 k) (λ k. reads-closed b arms.1 k) k) s

-- what is held for w after s was assigned to v: s itself, or what was held and does not read v
pub data Held (v : ℕ) (s : Expr) (h : Table) (w : ℕ) (e : Expr) : Type 0 where
  new : w ≡ v → e ≡ s → holdable v h s ≡ true → Held v s h w e
  old : (w ≡ v → ⊥) → h w ≡ held e → reads v e ≡ false → Held v s h w e

-- where nothing is: it is v, or nothing was held, or what was held reads v
data Lacks (v : ℕ) (h : Table) (w : ℕ) : Type 0 where
  here : w ≡ v → Lacks v h w
  before : (w ≡ v → ⊥) → h w ≡ free → Lacks v h w
  stopped : (w ≡ v → ⊥) → (d : Expr) → h w ≡ held d → reads v d ≡ true → Lacks v h w

module _ (v : ℕ) (s : Expr) (h : Table) (w : ℕ) where
  pub held_after : (e : Expr) → assigned v s h w ≡ held e → Held v s h w e
  unfolding assigned kept
  held_after e p = by (eqb w v) refl p
    where
      fresh : (b : Bool) → holdable v h s ≡ b → w ≡ v → cond b (held s) free ≡ held e → Held v s h w e
      fresh true k q p = new q (cc) k
      fresh false k q p = absurd (not-held (sym p))

      still : (b : Bool) (d : Expr) → reads v d ≡ b → (w ≡ v → ⊥) → h w ≡ held d → cond b free (held d) ≡ held e → Held v s h w e
      still true d k q r p = absurd (not-held (sym p))
      still false d k q r p =
          let same : d ≡ e = cc in
          old q (rw same at r) (rw same at k)

      rest : (t : Entry) → h w ≡ t → (w ≡ v → ⊥) → cond (entry_reads v t) free t ≡ held e → Held v s h w e
      rest free k q p = absurd (not-held (sym p))
      rest (held d) k q p = still (reads v d) d refl q k p

      by : (b : Bool) → eqb w v ≡ b → cond b (entry_of v h s) (cond (b || entry_reads v (h w)) free (h w)) ≡ held e → Held v s h w e
      by true q p = fresh (holdable v h s) refl (eqb-true w v q) p
      by false q p = rest (h w) refl (eqb-false w v q) p

  free-after : assigned v s h w ≡ free → Lacks v h w
  unfolding assigned kept
  free-after p = by (eqb w v) refl p
    where
      still : (b : Bool) (d : Expr) → reads v d ≡ b → (w ≡ v → ⊥) → h w ≡ held d → cond b free (held d) ≡ free → Lacks v h w
      still true d k q r p = stopped q d r k
      still false d k q r p = absurd (not-held p)

      rest : (t : Entry) → h w ≡ t → (w ≡ v → ⊥) → cond (entry_reads v t) free t ≡ free → Lacks v h w
      rest free k q p = before q k
      rest (held d) k q p = still (reads v d) d refl q k p

      by : (b : Bool) → eqb w v ≡ b → cond b (entry_of v h s) (cond (b || entry_reads v (h w)) free (h w)) ≡ free → Lacks v h w
      by true q p = here (eqb-true w v q)
      by false q p = rest (h w) refl (eqb-false w v q) p

-- what a held value is
record Kind (v : ℕ) (s : Expr) (h : Table) : Type 0 where
  plain : Plain s
  none-ended : any_node (ended v h) s ≡ false

holdable-is : (v : ℕ) (s : Expr) (h : Table) → holdable v h s ≡ true → Kind v s h
unfolding holdable
holdable-is v s h k = record {
  plain = let parts = plain-parts s (and_left (plain_expr s) (not (any_node (ended v h) s)) k) in record { no_load = parts.1; no_own_value = parts.0 };
  none-ended = not-true (any_node (ended v h) s) (and_right (plain_expr s) (not (any_node (ended v h) s)) k);
}

-- it reads no other variable whose held value ends
ended-read : (v w : ℕ) (h : Table) → ended v h (variable w) ≡ true → (e : Expr) → reads w e ≡ true → any_node (ended v h) e ≡ true
unfolding any_node is_variable ended
ended-read v w h k (variable n) r = rw (eqb-true n w r) k
ended-read v w h k (constant c y) r = absurd (false≢true r)
ended-read v w h k condition_true r = absurd (false≢true r)
ended-read v w h k condition_false r = absurd (false≢true r)
ended-read v w h k (effect t) r = absurd (false≢true r)
ended-read v w h k (load t a) r = ended-read v w h k a r
ended-read v w h k (cast t a) r = ended-read v w h k a r
ended-read v w h k (binary o a b) r = or_map (λ q. ended-read v w h k a q) (λ q. ended-read v w h k b q) r
ended-read v w h k (ternary c a b) r =
    or_map (λ q. ended-read v w h k c q) (λ q. or_map (λ q. ended-read v w h k a q) (λ q. ended-read v w h k b q) q) r

ended_is : (v w : ℕ) (h : Table) (d : Expr) → (w ≡ v → ⊥) → h w ≡ held d → reads v d ≡ true → ended v h (variable w) ≡ true
unfolding ended
ended_is v w h d q k r = simp (ne_eqb w v q, k, r)

-- The assignment of s, which has the value x, to v: the values that substituted expressions are evaluated at afterwards, and that all is as it was.
beside : Entry → ℕ → ℕ → ℕ
beside free x y = y
beside (held e) x y = x

module _ {types : List ℕ} {h : Table} {ρ ν : Values} (p : Present types h ρ ν) (v : ℕ) (s : Expr) (x : ℕ) (m₀ : Memory) (f₀ : Effects)
    (alike : Alike (type_of types s) (get_or types v 0)) (is : ev types ρ ν m₀ f₀ s ≡ Some x)
    (closed-new : has_load s ≡ false → (w : ℕ) (d : Expr) → h w ≡ held d → reads w s ≡ true → (y : ℕ) → reads y d ≡ true → reads y s ≡ true) where
  after : Values
  after w = beside (assigned v s h w) (ρ w) (update v x ν w)

  elsewhere : (w : ℕ) → (w ≡ v → ⊥) → update v x ν w ≡ ν w
  elsewhere w q = rw (ne_eqb w v q)

  -- an expression that reads only what keeps its value: v only where it is held, and nothing whose held value ends
  agree : (e : Expr) → (assigned v s h v ≡ free → reads v e ≡ false)
      → ((w : ℕ) (d : Expr) → (w ≡ v → ⊥) → h w ≡ held d → reads v d ≡ true → reads w e ≡ true → ⊥) → Agree e ρ after
  unfolding after beside
  agree e own others w r = by (assigned v s h w) refl
    where
      gone : assigned v s h w ≡ free → Lacks v h w → ρ w ≡ update v x ν w
      gone q (here k) = absurd (false≢true (sym (own (rw k at q)) ∙ rw k at r))
      gone q (before k free-before) = p.same w free-before ∙ sym (elsewhere w k)
      gone q (stopped k d held-before reads-it) = absurd (others w d k held-before reads-it r)

      by : (t : Entry) → assigned v s h w ≡ t → ρ w ≡ beside t (ρ w) (update v x ν w)
      by free q = gone q (free-after v s h w q)
      by (held d) q = refl

  -- the value fits its variable
  fits : Some x ≡ chosen (get_or types v 0) x
  fits =
      let small : x < 2 ^ bits (type_of types s) = rw is at (ev-typed types ρ ν m₀ f₀ s) in
      let width : bits (type_of types s) ≡ bits (get_or types v 0) = bits-alike (type_of types s) (get_or types v 0) alike in
      ap Some (sym (mod-eq_of_lt (rw width at small)))

  value-new : holdable v h s ≡ true → (σ : Values) (m : Memory) (f : Effects) → ev types after σ m f s ≡ chosen (get_or types v 0) x
  unfolding assigned
  value-new k σ m f =
      sym (by-variables-read types ρ after σ σ m f s (agree s (λ q. absurd (not-held (sym now ∙ q))) others) (λ n r. refl))
      ∙ plain-ev types ρ σ ν m m₀ f f₀ s kind.plain
      ∙ is
      ∙ fits
    where
      kind : Kind v s h
      kind = holdable-is v s h k

      now : assigned v s h v ≡ held s
      now = rw (eq-eqb v v refl, k)

      others : (w : ℕ) (d : Expr) → (w ≡ v → ⊥) → h w ≡ held d → reads v d ≡ true → reads w s ≡ true → ⊥
      others w d q r t u = false≢true (sym kind.none-ended ∙ ended-read v w h (ended_is v w h d q r t) s u)

  value-old : (w : ℕ) (e : Expr) → (w ≡ v → ⊥) → h w ≡ held e → reads v e ≡ false → (σ : Values) (m : Memory) (f : Effects)
      → ev types after σ m f e ≡ chosen (get_or types w 0) (update v x ν w)
  value-old w e q r k σ m f =
      sym (by-variables-read types ρ after σ σ m f e (agree e (λ t. k) others) (λ n r. refl))
      ∙ p.value w e r σ m f
      ∙ ap (chosen (get_or types w 0)) (sym (elsewhere w q))
    where
      others : (u : ℕ) (d : Expr) → (u ≡ v → ⊥) → h u ≡ held d → reads v d ≡ true → reads u e ≡ true → ⊥
      others u d t i j l = false≢true (sym k ∙ p.closed w u e d r i l v j)

  value_after : (w : ℕ) (e : Expr) → Held v s h w e → (σ : Values) (m : Memory) (f : Effects)
      → ev types after σ m f e ≡ chosen (get_or types w 0) (update v x ν w)
  value_after w e (new q r k) σ m f = rw (q, r, eq-eqb v v refl) (value-new k σ m f)
  value_after w e (old q r k) σ m f = value-old w e q r k σ m f

  typed-after : (w : ℕ) (e : Expr) → Held v s h w e → Alike (type_of types e) (get_or types w 0)
  typed-after w e (new q r k) = rw (q, r) alike
  typed-after w e (old q r k) = p.held_typed w e r

  closed_after : (w u : ℕ) (e d : Expr) → Held v s h w e → Held v s h u d → reads u e ≡ true → (y : ℕ) → reads y d ≡ true → reads y e ≡ true
  closed_after w u e d (new q r k) (new q' r' k') i y j = rw r (rw r' at j)
  closed_after w u e d (new q r k) (old q' r' k') i y j =
      rw r (closed-new (holdable-is v s h k).plain.no_load u d r' (rw r at i) y j)
  closed_after w u e d (old q r k) (new q' r' k') i y j = absurd (false≢true (sym k ∙ (rw q' at i)))
  closed_after w u e d (old q r k) (old q' r' k') i y j = p.closed w u e d r r' i y j

  present-after : Present types (assigned v s h) after (update v x ν)
  unfolding after beside
  present-after = record {
    held_typed = λ w e q. typed-after w e (held_after v s h w e q);
    value = λ w e q σ m f. value_after w e (held_after v s h w e q) σ m f;
    same = λ w q. rw q;
    closed = λ w u e d q r i y j. closed_after w u e d (held_after v s h w e q) (held_after v s h u d r) i y j;
  }

-- One assignment of a run.
record Next (types : List ℕ) (h : Table) (ν : Values) : Type 0 where
  at : Values
  present : Present types h at ν

assigns : {types : List ℕ} {h : Table} {ρ ν : Values} → Present types h ρ ν → (v x : ℕ) (e : Expr) (m : Memory) (f : Effects)
    → Alike (type_of types e) (get_or types v 0) → ev types ν ν m f e ≡ Some x → Next types (assigned v (substitute h e) h) (update v x ν)
assigns {types} {h} {ρ} {ν} p v x e m f alike is = record {
  at = after p v (substitute h e) x m f same value reads_all;
  present = present-after p v (substitute h e) x m f same value reads_all;
}
  where
    same : Alike (type_of types (substitute h e)) (get_or types v 0)
    same = type-kept types h (stands-typed p) e ∙ alike

    value : ev types ρ ν m f (substitute h e) ≡ Some x
    value = value-kept types h ρ ν (stands-typed p) (stands-for p) m f e ∙ is

    reads_all : has_load (substitute h e) ≡ false → (w : ℕ) (d : Expr) → h w ≡ held d → reads w (substitute h e) ≡ true
        → (y : ℕ) → reads y d ≡ true → reads y (substitute h e) ≡ true
    reads_all l w d q i y j = reads-closed p w d q y j e l i

pub into-same : {a b : Expr} → into a ≡ into b → a ≡ b
into-same q = cc

pub never : {a : Expr} → too_long ≡ into a → ⊥
never q = cc

-- What holds of every evaluation of the substituted condition, and where there is no outcome, holds of the outcome of every run.
module _ (types : List ℕ) (condition result : Expr) (P : Option Bool → Type 0) (without : P None)
    (each : (ρ σ : Values) (m : Contents) (f : Effects) → P (truth_of (ev types ρ σ (shared m) f result))) (c : Choices) where
  from : (statements : List Statement) → AdmittedAll types statements → (h : Table) (ρ ν : Values) → Present types h ρ ν → (i : ℕ)
      → substituted h statements condition ≡ into result → P (run_from types c condition i statements ν)
  unfolding substituted run_from AdmittedAll
  from [] t h ρ ν p i q = by (long (substitute h condition)) q
    where
      by : (b : Bool) → cond b too_long (into (substitute h condition)) ≡ into result
          → P (truth_of (ev types ν ν (shared c.contents) (c.effects i) condition))
      by true q = absurd (never q)
      by false q =
          rw (← value-kept types h ρ ν (stands-typed p) (stands-for p) (shared c.contents) (c.effects i) condition, into-same q)
          (each ρ ν c.contents (c.effects i))
  from (other ∷ rest) t h ρ ν p i q =
      from rest t nothing_held (c.renewed i) (c.renewed i) (present-none types (c.renewed i)) (suc i) q
  from (assignment v e ∷ rest) t h ρ ν p i q =
      by (ev types ν ν (c.memory i) (c.effects i) e) refl (long (substitute h e)) q
      (λ x is q. let next = assigns p v x e (c.memory i) (c.effects i) (same_alike (type_of types e) (get_or types v 0) t.0.typed) is in
      from rest t.1 (assigned v (substitute h e) h) next.at (update v x ν) next.present (suc i) q)
    where
      by : (u : Option ℕ) → ev types ν ν (c.memory i) (c.effects i) e ≡ u → (b : Bool)
          → cond b too_long (substituted (assigned v (substitute h e) h) rest condition) ≡ into result
          → ((x : ℕ) → ev types ν ν (c.memory i) (c.effects i) e ≡ Some x
          → substituted (assigned v (substitute h e) h) rest condition ≡ into result → P (run_from types c condition (suc i) rest (update v x ν)))
          → P (given u (λ x. run_from types c condition (suc i) rest (update v x ν)))
      by u is true q next = absurd (never q)
      by None is false q next = without
      by (Some x) is false q next = next x is q

  pub every-run : (statements : List Statement) → AdmittedAll types statements → with_assignments statements condition ≡ into result
      → P (run types statements condition c)
  every-run statements t q = from statements t nothing_held c.start c.start (present-none types c.start) 0 q
