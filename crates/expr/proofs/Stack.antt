-- A pass over a tree's records that keeps a stack: every record finds its children there, and the types of the stack's trees can stand in for
-- the trees. Assumes nothing.
use mathlib.Core.Path.{◌≡◌, refl, sym, ap, ap₂, subst, ◌∙◌}
use mathlib.Core.List.{List, [], ◌∷◌, ◌++◌, append_assoc, append-nil}
use Prim.Native.Nat.{ℕ, zero, suc, ◌+◌, ◌/◌, ◌%◌, ◌-◌, ◌≤◌, ◌<◌}
use native.Mathlib.Omega.{arith}
use lib.ListN.{length, get_or, drop, set, length-append, length-drop, length-set, get_or-map}
use lib.Seq.{get_or-set_same, get_or-set_other}
use Rattle.expr.specs.Tree.{Expr, kind_of, own, flat, arity_of, child, nodes, node, push, parse, tree_of, Wf, Formed}
use Rattle.expr.specs.Tree.Expr.{variable, constant, condition_true, condition_false, effect, load, cast, binary, ternary}
use Rattle.expr.specs.Codes.{kind_ternary, signed32, no_type}
use Rattle.expr.specs.Types.{type_of, record_types, record_type}
use Rattle.expr.proofs.Laws.{get_d_any, kids, kids-arity, push-own, formed-own, length_push, wf-parse, wf-even, nine}

-- every record of the words is formed, and finds its children on the stack
unfoldable pub Fed : List Expr → List ℕ → Type 0
Fed st [] = Unit {0}
Fed st (tag ∷ []) = ⊥
Fed st (tag ∷ value ∷ ws) = Formed tag value × (arity_of tag ≤ length st) × Fed (push tag value st) ws

fed-own : (e : Expr) (st : List Expr) (rest : List ℕ) → Fed (e ∷ st) rest → Fed (kids e ++ st) (own e ++ rest)
unfolding Fed
fed-own e st rest h =
    (formed-own e, simp length-append (omega (arith, kids-arity e)), subst (λ (s : List Expr). Fed s rest) (sym (push-own e st)) h)

-- a tree's words are fed, whatever they stand on
pub fed-flat : (e : Expr) (st : List Expr) (rest : List ℕ) → Fed (e ∷ st) rest → Fed st (flat e ++ rest)
unfolding flat kids
fed-flat (variable n) st rest h = fed-own (variable n) st rest h
fed-flat (constant w x) st rest h = fed-own (constant w x) st rest h
fed-flat condition_true st rest h = fed-own condition_true st rest h
fed-flat condition_false st rest h = fed-own condition_false st rest h
fed-flat (effect t) st rest h = fed-own (effect t) st rest h
fed-flat (load t a) st rest h = rw append_assoc (fed-flat a st _ (fed-own (load t a) st rest h))
fed-flat (cast t a) st rest h = rw append_assoc (fed-flat a st _ (fed-own (cast t a) st rest h))
fed-flat (binary o a b) st rest h = simp append_assoc (fed-flat a st _ (fed-flat b (a ∷ st) _ (fed-own (binary o a b) st rest h)))
fed-flat (ternary c a b) st rest h =
    simp append_assoc (fed-flat c st _ (fed-flat a (c ∷ st) _ (fed-flat b (a ∷ c ∷ st) _ (fed-own (ternary c a b) st rest h))))

pub fed-tree : (ws : List ℕ) → Wf ws → Fed [] ws
unfolding Fed
fed-tree ws h = subst (Fed []) (append-nil (flat (tree_of ws)) ∙ h) (fed-flat (tree_of ws) [] [] tt)

-- the next record of fed words l, and what is behind it
pub record Next (st : List Expr) (l : List ℕ) (tag value : ℕ) (rest : List ℕ) : Type 0 where
  pub formed : Formed tag value
  pub enough : arity_of tag ≤ length st
  pub fed : Fed (push tag value st) rest
  pub parsed : parse st l ≡ parse (push tag value st) rest

pub next : (st : List Expr) (r rest : List ℕ) → length r ≡ 2 → Fed st (r ++ rest) → Next st (r ++ rest) (get_or r 0 0) (get_or r 1 0) rest
unfolding Fed parse
next st [] rest h f = absurd (omega (arith, h))
next st (x ∷ []) rest h f = absurd (omega (arith, h))
next st (x ∷ y ∷ []) rest h f = record { formed = f.0; enough = f.1; fed = f.2; parsed = refl }
next st (x ∷ y ∷ z ∷ r) rest h f = absurd (omega (arith, h))

empty : (l : List ℕ) → length l < 2 → length l % 2 ≡ 0 → l ≡ []
empty [] h e = refl
empty (x ∷ []) h e = absurd (omega (arith, e))
empty (x ∷ y ∷ l) h e = absurd (omega (arith, h))

-- the types of a stack of trees, in an array from entry 2 up
unfoldable pub Held : List ℕ → List ℕ → List Expr → Type 0
Held types stack [] = Unit {0}
Held types stack (e ∷ st) = (get_or stack (length st + 2) 0 ≡ type_of types e) × Held types stack st

-- a store above the stack
held-set : (types stack : List ℕ) (st : List Expr) (at v : ℕ) → length st + 2 ≤ at → Held types stack st → Held types (set stack at v) st
unfolding Held
held-set types stack [] at v h k = tt
held-set types stack (e ∷ st) at v h k =
    (get_or-set_other stack at (length st + 2) v 0 (omega (arith, h)) ∙ k.0, held-set types stack st at v (omega (arith, h)) k.1)

held-drop : (types stack : List ℕ) (n : ℕ) (st : List Expr) → Held types stack st → Held types stack (drop n st)
unfolding Held
held-drop types stack zero st h = h
held-drop types stack (suc n) [] h = tt
held-drop types stack (suc n) (e ∷ st) h = held-drop types stack n st h.1

-- a record's type, from its children's
pub node-type : (types : List ℕ) (tag value : ℕ) (st : List Expr) → kind_of tag ≤ kind_ternary
    → type_of types (node tag value st) ≡ record_type types tag (type_of types (child st 1)) (type_of types (child st 0))
unfolding node type_of record_type
node-type types tag value st h =
    sym (get_or-map (type_of types) (nodes (tag / 16) value st) (tag % 16) condition_true)
    ∙ get_d_any (record_types types (tag / 16) (type_of types (child st 1)) (type_of types (child st 0))) (tag % 16) signed32 no_type (omega arith)

-- only records of two children or more look at their children's types
pub record-agrees : (types : List ℕ) (tag a b a' b' : ℕ) → tag % 16 ≤ 8 → (2 ≤ arity_of tag → (a ≡ a') × (b ≡ b'))
    → record_type types tag a b ≡ record_type types tag a' b'
unfolding record_type arity_of
record-agrees types tag a b a' b' l h =
    nine (λ (k : ℕ). tag % 16 ≡ k → record_type types tag a b ≡ record_type types tag a' b')
    (λ e. rw e) (λ e. rw e) (λ e. rw e) (λ e. rw e) (λ e. rw e) (λ e. rw e) (λ e. rw e)
    (λ e. both e (h (rw e (omega arith)))) (λ e. both e (h (rw e (omega arith))))
    (tag % 16) l refl
  where
    both : {k : ℕ} → tag % 16 ≡ k → (a ≡ a') × (b ≡ b') → record_type types tag a b ≡ record_type types tag a' b'
    both e p = ap₂ (record_type types tag) p.0 p.1

at_place : (stack : List ℕ) (i j v : ℕ) → i ≡ j → get_or stack j 0 ≡ v → get_or stack i 0 ≡ v
at_place stack i j v e h = ap (λ (n : ℕ). get_or stack n 0) e ∙ h

held_two : (types stack : List ℕ) (st : List Expr) (top : ℕ) → top ≡ length st + 2 → Held types stack st → 2 ≤ length st
    → (get_or stack (top - 2) 0 ≡ type_of types (child st 1)) × (get_or stack (top - 1) 0 ≡ type_of types (child st 0))
unfolding Held
held_two types stack [] top e h l = absurd (omega (arith, l))
held_two types stack (a ∷ []) top e h l = absurd (omega (arith, l))
held_two types stack (a ∷ b ∷ st) top e h l = (
  at_place stack (top - 2) (length st + 2) (type_of types b) (omega (arith, e)) h.1.0,
  at_place stack (top - 1) (suc (length st) + 2) (type_of types a) (omega (arith, e)) h.0,
)

-- one record: its type, stored where its first child's stood, is the type of its tree
module _ (types stack : List ℕ) (st : List Expr) (top tag value : ℕ) (kind : kind_of tag ≤ kind_ternary) (enough : arity_of tag ≤ length st) (height : top ≡ length st + 2) where
  pub held-push : (n v : ℕ) → n ≡ arity_of tag → v ≡ record_type types tag (get_or stack (top - 2) 0) (get_or stack (top - 1) 0)
      → top - n < length stack → Held types stack st → Held types (set stack (top - n) v) (push tag value st)
  unfolding Held push
  held-push n v e f l h = (
    at_place (set stack (top - n) v) (length (drop (arity_of tag) st) + 2) (top - n) v (omega (arith, e, enough, height, length-drop (arity_of tag) st)) (get_or-set_same stack (top - n) v 0 l)
        ∙ f
        ∙ record-agrees types tag (get_or stack (top - 2) 0) (get_or stack (top - 1) 0) (type_of types (child st 1)) (type_of types (child st 0)) kind
        (λ two. held_two types stack st top height h (omega (arith, two, enough)))
        ∙ sym (node-type types tag value st kind),
    held-set types stack (drop (arity_of tag) st) (top - n) v (omega (arith, e, enough, height, length-drop (arity_of tag) st)) (held-drop types stack (arity_of tag) st h),
  )

-- what a pass over the records has, with the records that are left: the trees so far, whose types the array holds below `top`
pub record Typed (rs types stack : List ℕ) (top : ℕ) (left : List ℕ) (size : ℕ) : Type 0 where
  pub trees : List Expr
  pub rest : parse trees left ≡ tree_of rs ∷ []
  pub fed : Fed trees left
  pub held : Held types stack trees
  pub room : length stack ≡ 130
  pub height : top ≡ length trees + 2
  pub few : length trees + length trees + length left ≤ length rs
  pub whole : length left % 2 ≡ 0
  pub two : size ≡ 2

module _ (rs types : List ℕ) where
  pub typed-start : (stack : List ℕ) {left : List ℕ} {size : ℕ} → Wf rs → length stack ≡ 130 → left ≡ rs → size ≡ 2 → Typed rs types stack 2 left size
  unfolding Held
  typed-start stack {left} {size} w l is two =
      record {
        trees = [];
        rest = rw is (wf-parse rs w);
        fed = rw is (fed-tree rs w);
        held = tt;
        room = l;
        height = refl;
        few = omega (arith, ap length is);
        whole = rw is (wf-even rs w);
        two = two;
      }

  module _ {stack left : List ℕ} {top size : ℕ} (t : Typed rs types stack top left size) where
    here : (r after : List ℕ) → left ≡ r ++ after → length r ≡ size → Next t.trees (r ++ after) (get_or r 0 0) (get_or r 1 0) after
    here r after is long = next t.trees r after (long ∙ t.two) (rw is at t.fed)

    -- the record's children are there to be taken
    pub typed-enough : (r after : List ℕ) → left ≡ r ++ after → length r ≡ size → arity_of (get_or r 0 0) + 2 ≤ top
    typed-enough r after is long = omega (arith, (here r after is long).enough, t.height)

    -- and there is room
    pub typed-few : (r after : List ℕ) → left ≡ r ++ after → length r ≡ size → length rs ≤ 256 → top < 130
    typed-few r after is long h = omega (arith, h, t.few, t.height, t.two, long, ap length is, length-append r after)

    -- one record: its type is stored where its first child's stood
    pub typed-push : (r after : List ℕ) {size' : ℕ} (n v : ℕ) → left ≡ r ++ after → length r ≡ size → size' ≡ size → n ≡ arity_of (get_or r 0 0)
        → v ≡ record_type types (get_or r 0 0) (get_or stack (top - 2) 0) (get_or stack (top - 1) 0)
        → top - n < 130 → Typed rs types (set stack (top - n) v) (top - n + 1) after size'
    unfolding push
    typed-push r after n v is long same e f l =
        let st = t.trees in
        let tag = get_or r 0 0 in
        let value = get_or r 1 0 in
        let more = here r after is long in
        let left-is = ap length is in
        record {
          trees = push tag value st;
          rest = sym more.parsed ∙ ap (parse st) (sym is) ∙ t.rest;
          fed = more.fed;
          held = held-push types stack st top tag value more.formed.kind more.enough t.height n v e f (omega (arith, l, t.room)) t.held;
          room = length-set stack (top - n) v ∙ t.room;
          height = omega (arith, e, more.enough, t.height, length_push tag value st);
          few = omega (arith, t.few, length-drop (arity_of tag) st, left-is, length-append r after, long, t.two);
          whole = omega (arith, t.whole, t.two, long, left-is, length-append r after);
          two = same ∙ t.two;
        }

  -- past the last record the one tree's type stands in entry 2
  pub typed-end : {stack left : List ℕ} {top size : ℕ} → Typed rs types stack top left size → length left < size → get_or stack 2 0 ≡ type_of types (tree_of rs)
  unfolding Held parse
  typed-end {stack} {left} t l =
      let none : left ≡ [] = empty left (rw t.two at l) t.whole in
      let last : t.trees ≡ tree_of rs ∷ [] = rw none at t.rest in
      let h : Held types stack (tree_of rs ∷ []) = subst (Held types stack) last t.held in
      h.0
