-- A root's children as parts of the words, by the root's kind: their trees are the tree's children. n is where the root's
-- record stands, m where the last child starts, and l where the one before starts.
-- Assumes nothing.
use mathlib.Core.Path.{◌≡◌, refl, sym, ap, ap₂, subst, ◌∙◌}
use mathlib.Core.List.{List, [], ◌∷◌}
use Prim.Native.Nat.{ℕ, ◌+◌, ◌/◌, ◌%◌, ◌-◌, ◌≤◌, ◌<◌}
use native.Mathlib.Omega.{arith}
use lib.Dec.{lit≤}
use lib.ListN.{length, get_or, take, drop}
use Rattle.expr.specs.Codes.{kind_load, kind_ternary}
use Rattle.expr.specs.Types.{type_of, record_type}
use Rattle.expr.specs.Tree.{Expr, kind_of, flat, flats, arity_of, child, nodes, node, tree_of, tree_count, last_start, Wf, Trees, Formed}
use Rattle.expr.specs.Tree.Expr.{condition_true, load, cast, binary, ternary}
use Rattle.expr.proofs.Laws.{kids, kids-arity, formed-own, parse-of-flats, tree_of-flat, wf-flat, trees-flats, nine}
use Rattle.expr.proofs.Stack.{node-type, record-agrees}
use Rattle.expr.proofs.Parts.{root, Split, split}

-- words that are a tree's
part : (l : List ℕ) (e : Expr) → l ≡ flat e → Wf l × (tree_of l ≡ e)
part l e h = (subst Wf (sym h) (wf-flat e), ap tree_of h ∙ tree_of-flat e)

-- words that are a stack's
parts : (l : List ℕ) (st : List Expr) → l ≡ flats st → 1 ≤ length st → Trees l × (1 ≤ tree_count l)
parts l st h n = (subst Trees (sym h) (trees-flats st), omega (arith, ap tree_count h, ap length (parse-of-flats st)))

-- kinds 5 to 8 take a child
some-child : (tag : ℕ) → tag % 16 ≤ 8 → 5 ≤ tag % 16 → 1 ≤ arity_of tag
unfolding arity_of
some-child tag l h =
    nine (λ (k : ℕ). tag % 16 ≡ k → 5 ≤ k → 1 ≤ arity_of tag)
    (λ e h. absurd (omega arith)) (λ e h. absurd (omega arith)) (λ e h. absurd (omega arith)) (λ e h. absurd (omega arith)) (λ e h. absurd (omega arith))
    (λ e h. rw e (lit≤ tt)) (λ e h. rw e (lit≤ tt)) (λ e h. rw e (lit≤ tt)) (λ e h. rw e (lit≤ tt))
    (tag % 16) l refl h

-- and kinds below 5 none
leaf-arity : (tag : ℕ) → kind_of tag < kind_load → arity_of tag ≡ 0
unfolding arity_of
leaf-arity tag h =
    nine (λ (k : ℕ). tag % 16 ≡ k → k < 5 → arity_of tag ≡ 0)
    (λ e h. rw e) (λ e h. rw e) (λ e h. rw e) (λ e h. rw e) (λ e h. rw e)
    (λ e h. absurd (omega arith)) (λ e h. absurd (omega arith)) (λ e h. absurd (omega arith)) (λ e h. absurd (omega arith))
    (tag % 16) (omega arith) refl h

arity-kind : (tag k : ℕ) → tag % 16 ≡ k → arity_of tag ≡ get_or (0 ∷ 0 ∷ 0 ∷ 0 ∷ 0 ∷ 1 ∷ 1 ∷ 2 ∷ 3 ∷ []) k 0
unfolding arity_of
arity-kind tag k h = rw h

-- a stack of one, two or three trees
one : (s : List Expr) → length s ≡ 1 → s ≡ child s 0 ∷ []
one [] h = absurd (omega (arith, h))
one (a ∷ []) h = refl
one (a ∷ b ∷ s) h = absurd (omega (arith, h))

two : (s : List Expr) → length s ≡ 2 → s ≡ child s 0 ∷ child s 1 ∷ []
two [] h = absurd (omega (arith, h))
two (a ∷ s) h = ap (λ (r : List Expr). a ∷ r) (one s (omega (arith, h)))

three : (s : List Expr) → length s ≡ 3 → s ≡ child s 0 ∷ child s 1 ∷ child s 2 ∷ []
three [] h = absurd (omega (arith, h))
three (a ∷ s) h = ap (λ (r : List Expr). a ∷ r) (two s (omega (arith, h)))

-- the root's one child
pub record OneChild (ws : List ℕ) (n : ℕ) (make : Expr → Expr) : Type 0 where
  pub tree : tree_of ws ≡ make (tree_of (take n ws))
  pub wf : Wf (take n ws)

-- the root's two children
pub record TwoChildren (ws : List ℕ) (n m : ℕ) (make : Expr → Expr → Expr) : Type 0 where
  pub within : m ≤ n
  pub tree : tree_of ws ≡ make (tree_of (take m ws)) (tree_of (take (n - m) (drop m ws)))
  pub left_wf : Wf (take m ws)
  pub right_wf : Wf (take (n - m) (drop m ws))

-- the root's three children
pub record ThreeChildren (ws : List ℕ) (n m l : ℕ) : Type 0 where
  pub within : m ≤ n
  pub within_front : l ≤ m
  pub tree : tree_of ws ≡ ternary (tree_of (take l ws)) (tree_of (take (m - l) (drop l ws))) (tree_of (take (n - m) (drop m ws)))
  pub condition_wf : Wf (take l ws)
  pub then_wf : Wf (take (m - l) (drop l ws))
  pub otherwise_wf : Wf (take (n - m) (drop m ws))

module _ (ws : List ℕ) (n : ℕ) (w : Wf ws) (e : n + 2 ≡ length ws) where
  -- the tree by its root's kind: of a leaf this is the leaf itself
  pub root-kind : (k : ℕ) → get_or ws n 0 % 16 ≡ k
      → tree_of ws ≡ get_or (nodes (get_or ws n 0 / 16) (get_or ws (n + 1) 0) (kids (tree_of ws))) k condition_true
  unfolding node
  root-kind k h =
      (root ws n w e).made ∙ ap (λ (i : ℕ). get_or (nodes (get_or ws n 0 / 16) (get_or ws (n + 1) 0) (kids (tree_of ws))) i condition_true) h

  -- the static type of a tree of one record, below kind 5
  pub leaf_type : (types : List ℕ) → kind_of (get_or ws n 0) < kind_load → type_of types (tree_of ws) ≡ record_type types (get_or ws n 0) 0 0
  unfolding arity_of
  leaf_type types h =
      let tag = get_or ws n 0 in
      let l : kind_of tag ≤ kind_ternary = omega arith in
      ap (type_of types) (root ws n w e).made
      ∙ node-type types tag (get_or ws (n + 1) 0) (kids (tree_of ws)) l
      ∙ record-agrees types tag _ _ 0 0 l (λ two. absurd (omega (arith, leaf-arity tag h)))

  -- the record at n is formed
  pub root-formed : Formed (get_or ws n 0) (get_or ws (n + 1) 0)
  root-formed =
      let r = root ws n w e in
      rw (r.tag, r.value) (formed-own (tree_of ws))

  kids-count : length (kids (tree_of ws)) ≡ arity_of (get_or ws n 0)
  kids-count = kids-arity (tree_of ws) ∙ ap arity_of (sym (root ws n w e).tag)

  -- from kind 5 up there are children, and the words before the root are theirs
  pub has-children : 5 ≤ get_or ws n 0 % 16 → Trees (take n ws) × (1 ≤ tree_count (take n ws))
  has-children h =
      let some : 1 ≤ arity_of (get_or ws n 0) = some-child (get_or ws n 0) root-formed.kind h in
      parts (take n ws) (kids (tree_of ws)) (root ws n w e).body (omega (arith, kids-count))

  one-child : (make : Expr → Expr) → arity_of (get_or ws n 0) ≡ 1 → tree_of ws ≡ make (child (kids (tree_of ws)) 0) → OneChild ws n make
  unfolding flats
  one-child make a t =
      let b = child (kids (tree_of ws)) 0 in
      let words : take n ws ≡ flat b = (root ws n w e).body ∙ ap flats (one (kids (tree_of ws)) (kids-count ∙ a)) in
      let p = part (take n ws) b words in
      record { tree = t ∙ ap make (sym p.1); wf = p.0 }

  -- kind 5
  pub load-child : get_or ws n 0 % 16 ≡ 5 → OneChild ws n (load (get_or ws n 0 / 16))
  load-child h = one-child (load (get_or ws n 0 / 16)) (arity-kind (get_or ws n 0) 5 h) (root-kind 5 h)

  -- kind 6
  pub cast-child : get_or ws n 0 % 16 ≡ 6 → OneChild ws n (cast (get_or ws n 0 / 16))
  cast-child h = one-child (cast (get_or ws n 0 / 16)) (arity-kind (get_or ws n 0) 6 h) (root-kind 6 h)

  -- kind 7
  pub binary-children : (m : ℕ) → m ≡ last_start (take n ws) → get_or ws n 0 % 16 ≡ 7 → TwoChildren ws n m (binary (get_or ws n 0 / 16))
  unfolding flats
  binary-children m s h =
      let a = child (kids (tree_of ws)) 1 in
      let b = child (kids (tree_of ws)) 0 in
      let stack : kids (tree_of ws) ≡ b ∷ a ∷ [] = two (kids (tree_of ws)) (kids-count ∙ arity-kind (get_or ws n 0) 7 h) in
      let d = split ws n m b (a ∷ []) (omega arith) ((root ws n w e).body ∙ ap flats stack) s in
      let p = part (take m ws) a d.front in
      let q = part (take (n - m) (drop m ws)) b d.last in
      record {
        within = omega (arith, d.start);
        tree = root-kind 7 h ∙ ap₂ (binary (get_or ws n 0 / 16)) (sym p.1) (sym q.1);
        left_wf = p.0;
        right_wf = q.0;
      }

  module _ (m : ℕ) (s : m ≡ last_start (take n ws)) (h : get_or ws n 0 % 16 ≡ 8) where
    behind : Split ws n m (child (kids (tree_of ws)) 0) (child (kids (tree_of ws)) 1 ∷ child (kids (tree_of ws)) 2 ∷ [])
    behind =
        let stack = three (kids (tree_of ws)) (kids-count ∙ arity-kind (get_or ws n 0) 8 h) in
        split ws n m (child (kids (tree_of ws)) 0) (child (kids (tree_of ws)) 1 ∷ child (kids (tree_of ws)) 2 ∷ []) (omega arith) ((root ws n w e).body ∙ ap flats stack) s

    -- kind 8: the words before the last child are the two others'
    pub ternary-front : Trees (take m ws) × (1 ≤ tree_count (take m ws))
    ternary-front = parts (take m ws) (child (kids (tree_of ws)) 1 ∷ child (kids (tree_of ws)) 2 ∷ []) behind.front (lit≤ tt)

    -- kind 8
    pub ternary-children : (l : ℕ) → l ≡ last_start (take m ws) → ThreeChildren ws n m l
    unfolding flats
    ternary-children l r =
        let c = child (kids (tree_of ws)) 2 in
        let a = child (kids (tree_of ws)) 1 in
        let b = child (kids (tree_of ws)) 0 in
        let d = behind in
        let f = split ws m l a (c ∷ []) (omega (arith, d.start)) d.front r in
        let p = part (take l ws) c f.front in
        let q = part (take (m - l) (drop l ws)) a f.last in
        let x = part (take (n - m) (drop m ws)) b d.last in
        record {
          within = omega (arith, d.start);
          within_front = omega (arith, f.start);
          tree = root-kind 8 h ∙ ap₂ (λ (u v : Expr). ternary u v b) (sym p.1) (sym q.1) ∙ ap (ternary (tree_of (take l ws)) (tree_of (take (m - l) (drop l ws)))) (sym x.1);
          condition_wf = p.0;
          then_wf = q.0;
          otherwise_wf = x.0;
        }
