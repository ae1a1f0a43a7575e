-- The laws of expression words that this crate's proofs and other crates' cite. Assumes nothing.
use mathlib.Core.Path.{◌≡◌, refl, sym, ap, ap₂, ◌∙◌}
use mathlib.Core.List.{List, [], ◌∷◌, ◌++◌, append_assoc, append-nil}
use Prim.Native.Nat.{ℕ, zero, suc, ◌+◌, ◌*◌, ◌/◌, ◌%◌, ◌-◌, ◌≤◌, ◌<◌}
use native.Mathlib.Omega.{arith}
use lib.Dec.{lit<, lit≤}
use lib.ListN.{length, get_or, drop, length-append, length-drop}
use Rattle.expr.specs.Tree.{Expr, tag_of, value_of, own, flat, size, arity_of, child, node, push, parse, tree_of, Wf, flats, Trees, tree_count, Formed}
use Rattle.expr.specs.Tree.Expr.{variable, constant, condition_true, condition_false, effect, load, cast, binary, ternary}

-- kind and argument of a tag word
pub kind-of : (k a : ℕ) → k < 16 → (k + 16 * a) % 16 ≡ k
kind-of k a h = omega arith

pub argument-of : (k a : ℕ) → k < 16 → (k + 16 * a) / 16 ≡ a
argument-of k a h = omega arith

-- inside a list its default is not read
pub get_d_any : (l : List ℕ) (i d d' : ℕ) → i < length l → get_or l i d ≡ get_or l i d'
get_d_any [] i d d' h = absurd (omega (arith, h))
get_d_any (x ∷ l) zero d d' h = refl
get_d_any (x ∷ l) (suc i) d d' h = get_d_any l i d d' (omega (arith, h))

-- the trees below a tree's root, the last one first
unfoldable pub kids : Expr → List Expr
kids (variable n) = []
kids (constant w x) = []
kids condition_true = []
kids condition_false = []
kids (effect t) = []
kids (load t a) = a ∷ []
kids (cast t a) = a ∷ []
kids (binary o a b) = b ∷ a ∷ []
kids (ternary c a b) = b ∷ a ∷ c ∷ []

-- a tree's record makes the tree again of its children
pub push-own : (e : Expr) (st : List Expr) → push (tag_of e) (value_of e) (kids e ++ st) ≡ e ∷ st
unfolding push node arity_of tag_of value_of kids
push-own (variable n) st = rw (kind-of 0 n (lit< tt), argument-of 0 n (lit< tt))
push-own (constant w x) st = rw (kind-of 1 w (lit< tt), argument-of 1 w (lit< tt))
push-own condition_true st = refl
push-own condition_false st = refl
push-own (effect t) st = rw (kind-of 4 t (lit< tt), argument-of 4 t (lit< tt))
push-own (load t a) st = rw (kind-of 5 t (lit< tt), argument-of 5 t (lit< tt))
push-own (cast t a) st = rw (kind-of 6 t (lit< tt), argument-of 6 t (lit< tt))
push-own (binary o a b) st = rw (kind-of 7 o (lit< tt), argument-of 7 o (lit< tt))
push-own (ternary c a b) st = refl

-- how many trees stand below a root is what its tag says
pub kids-arity : (e : Expr) → length (kids e) ≡ arity_of (tag_of e)
unfolding arity_of tag_of kids
kids-arity (variable n) = rw (kind-of 0 n (lit< tt))
kids-arity (constant w x) = rw (kind-of 1 w (lit< tt))
kids-arity condition_true = refl
kids-arity condition_false = refl
kids-arity (effect t) = rw (kind-of 4 t (lit< tt))
kids-arity (load t a) = rw (kind-of 5 t (lit< tt))
kids-arity (cast t a) = rw (kind-of 6 t (lit< tt))
kids-arity (binary o a b) = rw (kind-of 7 o (lit< tt))
kids-arity (ternary c a b) = refl

-- a tree's words are its children's, and then its root's
pub flat-root : (e : Expr) → flat e ≡ flats (kids e) ++ own e
unfolding flat flats kids
flat-root (variable n) = refl
flat-root (constant w x) = refl
flat-root condition_true = refl
flat-root condition_false = refl
flat-root (effect t) = refl
flat-root (load t a) = refl
flat-root (cast t a) = refl
flat-root (binary o a b) = simp append_assoc
flat-root (ternary c a b) = simp append_assoc

parse-own : (e : Expr) (st : List Expr) (rest : List ℕ) → parse (kids e ++ st) (own e ++ rest) ≡ parse (e ∷ st) rest
unfolding parse
parse-own e st rest = ap (λ (s : List Expr). parse s rest) (push-own e st)

-- reading a tree's words puts the tree on the stack
pub parse-flat : (e : Expr) (st : List Expr) (rest : List ℕ) → parse st (flat e ++ rest) ≡ parse (e ∷ st) rest
unfolding flat kids
parse-flat (variable n) st rest = parse-own (variable n) st rest
parse-flat (constant w x) st rest = parse-own (constant w x) st rest
parse-flat condition_true st rest = parse-own condition_true st rest
parse-flat condition_false st rest = parse-own condition_false st rest
parse-flat (effect t) st rest = parse-own (effect t) st rest
parse-flat (load t a) st rest =
    ap (parse st) (append_assoc (flat a) (own (load t a)) rest) ∙ parse-flat a st (own (load t a) ++ rest) ∙ parse-own (load t a) st rest
parse-flat (cast t a) st rest =
    ap (parse st) (append_assoc (flat a) (own (cast t a)) rest) ∙ parse-flat a st (own (cast t a) ++ rest) ∙ parse-own (cast t a) st rest
parse-flat (binary o a b) st rest =
    let r = own (binary o a b) in
    ap (parse st) (simp append_assoc)
    ∙ parse-flat a st (flat b ++ (r ++ rest))
    ∙ parse-flat b (a ∷ st) (r ++ rest)
    ∙ parse-own (binary o a b) st rest
parse-flat (ternary c a b) st rest =
    let r = own (ternary c a b) in
    ap (parse st) (simp append_assoc)
    ∙ parse-flat c st (flat a ++ (flat b ++ (r ++ rest)))
    ∙ parse-flat a (c ∷ st) (flat b ++ (r ++ rest))
    ∙ parse-flat b (a ∷ c ∷ st) (r ++ rest)
    ∙ parse-own (ternary c a b) st rest

-- the same for a stack's words
pub parse-flats : (s st : List Expr) (rest : List ℕ) → parse st (flats s ++ rest) ≡ parse (s ++ st) rest
unfolding flats
parse-flats [] st rest = refl
parse-flats (e ∷ s) st rest =
    ap (parse st) (append_assoc (flats s) (flat e) rest) ∙ parse-flats s st (flat e ++ rest) ∙ parse-flat e (s ++ st) rest

pub parse-of-flats : (s : List Expr) → parse [] (flats s) ≡ s
unfolding parse
parse-of-flats s = ap (parse []) (sym (append-nil (flats s))) ∙ parse-flats s [] [] ∙ append-nil s

pub parse-of-flat : (e : Expr) → parse [] (flat e) ≡ e ∷ []
unfolding parse
parse-of-flat e = ap (parse []) (sym (append-nil (flat e))) ∙ parse-flat e [] []

-- a tree is read back from its words
pub tree_of-flat : (e : Expr) → tree_of (flat e) ≡ e
unfolding tree_of
tree_of-flat e = ap (λ (s : List Expr). child s 0) (parse-of-flat e)

pub flat-injective : (d e : Expr) → flat d ≡ flat e → d ≡ e
flat-injective d e h = sym (tree_of-flat d) ∙ ap tree_of h ∙ tree_of-flat e

pub wf-flat : (e : Expr) → Wf (flat e)
wf-flat e = ap flat (tree_of-flat e)

pub trees-flats : (s : List Expr) → Trees (flats s)
unfolding Trees
trees-flats s = ap flats (parse-of-flats s)

-- Wf words are the words of their tree; the stack that they leave is that tree alone
pub wf-parse : (ws : List ℕ) → Wf ws → parse [] ws ≡ tree_of ws ∷ []
wf-parse ws h = ap (parse []) (sym h) ∙ parse-of-flat (tree_of ws)

pub wf-trees : (ws : List ℕ) → Wf ws → Trees ws
unfolding Trees flats
wf-trees ws h = ap flats (wf-parse ws h) ∙ h

one-tree : (ws : List ℕ) (s : List Expr) → flats s ≡ ws → length s ≡ 1 → flat (child s 0) ≡ ws
unfolding flats
one-tree ws [] e n = absurd (omega (arith, n))
one-tree ws (d ∷ []) e n = e
one-tree ws (d ∷ b ∷ s) e n = absurd (omega (arith, n))

-- one tree and no other: the end of a reader's loop
pub trees-wf : (ws : List ℕ) → Trees ws → tree_count ws ≡ 1 → Wf ws
unfolding Trees tree_of
trees-wf ws h one = one-tree ws (parse [] ws) h one

pub wf-count : (ws : List ℕ) → Wf ws → tree_count ws ≡ 1
wf-count ws h = ap length (wf-parse ws h)

pub flats-append : (s t : List Expr) → flats (s ++ t) ≡ flats t ++ flats s
unfolding flats
flats-append [] t = sym (append-nil (flats t))
flats-append (e ∷ s) t = ap (λ (l : List ℕ). l ++ flat e) (flats-append s t) ∙ append_assoc (flats t) (flats s) (flat e)

-- a fact of each of the nine kinds
pub nine : (P : ℕ → Type 0) → P 0 → P 1 → P 2 → P 3 → P 4 → P 5 → P 6 → P 7 → P 8 → (k : ℕ) → k ≤ 8 → P k
nine P a b c d e f g h i zero l = a
nine P a b c d e f g h i (suc zero) l = b
nine P a b c d e f g h i (suc (suc zero)) l = c
nine P a b c d e f g h i (suc (suc (suc zero))) l = d
nine P a b c d e f g h i (suc (suc (suc (suc zero)))) l = e
nine P a b c d e f g h i (suc (suc (suc (suc (suc zero))))) l = f
nine P a b c d e f g h i (suc (suc (suc (suc (suc (suc zero)))))) l = g
nine P a b c d e f g h i (suc (suc (suc (suc (suc (suc (suc zero))))))) l = h
nine P a b c d e f g h i (suc (suc (suc (suc (suc (suc (suc (suc zero)))))))) l = i
nine P a b c d e f g h i (suc (suc (suc (suc (suc (suc (suc (suc (suc k))))))))) l = absurd (omega (arith, l))

module _ (tag value : ℕ) (st : List Expr) where
  -- the record of the tree that a record makes is that record
  pub node-tag : Formed tag value → tag_of (node tag value st) ≡ tag
  unfolding node tag_of
  node-tag f =
      nine (λ (k : ℕ). tag % 16 ≡ k → tag_of (node tag value st) ≡ tag)
      (λ e. rw e (omega arith)) (λ e. rw e (omega arith)) (λ e. rw e (sym (f.bare_true e))) (λ e. rw e (sym (f.bare_false e)))
      (λ e. rw e (omega arith)) (λ e. rw e (omega arith)) (λ e. rw e (omega arith)) (λ e. rw e (omega arith)) (λ e. rw e (sym (f.bare_ternary e)))
      (tag % 16) f.kind refl

  pub node-value : Formed tag value → value_of (node tag value st) ≡ value
  unfolding node value_of
  node-value f =
      nine (λ (k : ℕ). tag % 16 ≡ k → value_of (node tag value st) ≡ value)
      (λ e. rw e (none e (lit< tt))) (λ e. rw e) (λ e. rw e (more e (lit< tt))) (λ e. rw e (more e (lit< tt)))
      (λ e. rw e (more e (lit< tt))) (λ e. rw e (more e (lit< tt))) (λ e. rw e (more e (lit< tt))) (λ e. rw e (more e (lit< tt))) (λ e. rw e (more e (lit< tt)))
      (tag % 16) f.kind refl
    where
      none : {k : ℕ} → tag % 16 ≡ k → k < 1 → 0 ≡ value
      none e l = sym (f.plain (λ o. omega arith))

      more : {k : ℕ} → tag % 16 ≡ k → 1 < k → 0 ≡ value
      more e l = sym (f.plain (λ o. omega arith))

  -- what a record takes off the stack is its tree's children
  pub node-kids : tag % 16 ≤ 8 → arity_of tag ≤ length st → kids (node tag value st) ++ drop (arity_of tag) st ≡ st
  unfolding node arity_of kids
  node-kids l =
      nine (λ (k : ℕ). tag % 16 ≡ k → arity_of tag ≤ length st → kids (node tag value st) ++ drop (arity_of tag) st ≡ st)
      (λ e. rw e (λ h. refl)) (λ e. rw e (λ h. refl)) (λ e. rw e (λ h. refl)) (λ e. rw e (λ h. refl)) (λ e. rw e (λ h. refl))
      (λ e. rw e (one st)) (λ e. rw e (one st)) (λ e. rw e (two st)) (λ e. rw e (three st))
      (tag % 16) l refl
    where
      one : (s : List Expr) → 1 ≤ length s → child s 0 ∷ drop 1 s ≡ s
      one [] h = absurd (omega (arith, h))
      one (a ∷ s) h = refl

      two : (s : List Expr) → 2 ≤ length s → child s 0 ∷ child s 1 ∷ drop 2 s ≡ s
      two [] h = absurd (omega (arith, h))
      two (a ∷ []) h = absurd (omega (arith, h))
      two (a ∷ b ∷ s) h = refl

      three : (s : List Expr) → 3 ≤ length s → child s 0 ∷ child s 1 ∷ child s 2 ∷ drop 3 s ≡ s
      three [] h = absurd (omega (arith, h))
      three (a ∷ []) h = absurd (omega (arith, h))
      three (a ∷ b ∷ []) h = absurd (omega (arith, h))
      three (a ∷ b ∷ c ∷ s) h = refl

  -- a formed record that has its children adds its own words to the stack's
  pub flats-push : Formed tag value → arity_of tag ≤ length st → flats (push tag value st) ≡ flats st ++ (tag ∷ value ∷ [])
  unfolding push flats
  flats-push f h =
      let e = node tag value st in
      ap (λ (l : List ℕ). flats (drop (arity_of tag) st) ++ l) (flat-root e)
      ∙ sym (append_assoc (flats (drop (arity_of tag) st)) (flats (kids e)) (own e))
      ∙ ap (λ (l : List ℕ). l ++ own e) (sym (flats-append (kids e) (drop (arity_of tag) st)))
      ∙ ap (λ (s : List Expr). flats s ++ own e) (node-kids f.kind h)
      ∙ ap₂ (λ (t v : ℕ). flats st ++ (t ∷ v ∷ [])) (node-tag f) (node-value f)

  -- the stack's length after a record
  pub length_push : length (push tag value st) ≡ length st - arity_of tag + 1
  unfolding push
  length_push = omega (arith, length-drop (arity_of tag) st)

-- the trees that words leave, one record later
pub parse-snoc : (ws : List ℕ) (tag value : ℕ) → Trees ws → parse [] (ws ++ (tag ∷ value ∷ [])) ≡ push tag value (parse [] ws)
unfolding Trees parse
parse-snoc ws tag value h =
    ap (λ (l : List ℕ). parse [] (l ++ (tag ∷ value ∷ []))) (sym h)
    ∙ parse-flats (parse [] ws) [] (tag ∷ value ∷ [])
    ∙ ap (push tag value) (append-nil (parse [] ws))

-- no word at all is no tree: the start of a reader's loop
pub trees-nil : Trees []
unfolding Trees parse flats
trees-nil = refl

pub count-nil : tree_count [] ≡ 0
unfolding parse
count-nil = refl

-- a reader's step: one more formed record, which has its children
pub trees-snoc : (ws : List ℕ) (tag value : ℕ) → Trees ws → Formed tag value → arity_of tag ≤ tree_count ws → Trees (ws ++ (tag ∷ value ∷ []))
unfolding Trees
trees-snoc ws tag value h f n =
    ap flats (parse-snoc ws tag value h) ∙ flats-push tag value (parse [] ws) f n ∙ ap (λ (l : List ℕ). l ++ (tag ∷ value ∷ [])) h

pub count-snoc : (ws : List ℕ) (tag value : ℕ) → Trees ws → tree_count (ws ++ (tag ∷ value ∷ [])) ≡ tree_count ws - arity_of tag + 1
count-snoc ws tag value h = ap length (parse-snoc ws tag value h) ∙ length_push tag value (parse [] ws)

-- the same of any whole number of records
pub parse-append : (ws rest : List ℕ) (st : List Expr) → length ws % 2 ≡ 0 → parse st (ws ++ rest) ≡ parse (parse st ws) rest
unfolding parse
parse-append [] rest st h = refl
parse-append (t ∷ []) rest st h = absurd (omega (arith, h))
parse-append (t ∷ v ∷ ws) rest st h = parse-append ws rest (push t v st) (omega (arith, h))

-- a record from its kind and argument
pub formed : (k a v : ℕ) → k ≤ 8 → (k ≡ 2 → a ≡ 0) → (k ≡ 3 → a ≡ 0) → (k ≡ 8 → a ≡ 0) → ((k ≡ 1 → ⊥) → v ≡ 0) → Formed (k + 16 * a) v
formed k a v l t f x p =
    let e : (k + 16 * a) % 16 ≡ k = omega arith in
    record {
      kind = omega arith;
      bare_true = λ h. let z = t (sym e ∙ h) in omega arith;
      bare_false = λ h. let z = f (sym e ∙ h) in omega arith;
      bare_ternary = λ h. let z = x (sym e ∙ h) in omega arith;
      plain = λ h. p (λ o. h (e ∙ o));
    }

-- every record of a tree is formed
pub formed-own : (e : Expr) → Formed (tag_of e) (value_of e)
unfolding tag_of value_of
formed-own (variable n) = formed 0 n 0 (lit≤ tt) (λ h. omega arith) (λ h. omega arith) (λ h. omega arith) (λ h. refl)
formed-own (constant w x) = formed 1 w x (lit≤ tt) (λ h. omega arith) (λ h. omega arith) (λ h. omega arith) (λ h. absurd (h refl))
formed-own condition_true = formed 2 0 0 (lit≤ tt) (λ h. refl) (λ h. refl) (λ h. refl) (λ h. refl)
formed-own condition_false = formed 3 0 0 (lit≤ tt) (λ h. refl) (λ h. refl) (λ h. refl) (λ h. refl)
formed-own (effect t) = formed 4 t 0 (lit≤ tt) (λ h. omega arith) (λ h. omega arith) (λ h. omega arith) (λ h. refl)
formed-own (load t a) = formed 5 t 0 (lit≤ tt) (λ h. omega arith) (λ h. omega arith) (λ h. omega arith) (λ h. refl)
formed-own (cast t a) = formed 6 t 0 (lit≤ tt) (λ h. omega arith) (λ h. omega arith) (λ h. omega arith) (λ h. refl)
formed-own (binary o a b) = formed 7 o 0 (lit≤ tt) (λ h. omega arith) (λ h. omega arith) (λ h. omega arith) (λ h. refl)
formed-own (ternary c a b) = formed 8 0 0 (lit≤ tt) (λ h. refl) (λ h. refl) (λ h. refl) (λ h. refl)

-- a tree has a record, and two words for each
pub flat-size : (e : Expr) → length (flat e) ≡ 2 * size e
unfolding flat size
flat-size (variable n) = refl
flat-size (constant w x) = refl
flat-size condition_true = refl
flat-size condition_false = refl
flat-size (effect t) = refl
flat-size (load t a) = simp length-append (omega (arith, flat-size a))
flat-size (cast t a) = simp length-append (omega (arith, flat-size a))
flat-size (binary o a b) = simp length-append (omega (arith, flat-size a, flat-size b))
flat-size (ternary c a b) = simp length-append (omega (arith, flat-size c, flat-size a, flat-size b))

pub flat-even : (e : Expr) → length (flat e) % 2 ≡ 0
flat-even e = omega (arith, flat-size e)

pub flat-two : (e : Expr) → 2 ≤ length (flat e)
flat-two e = rw flat-root (simp length-append (omega arith))

pub wf-even : (ws : List ℕ) → Wf ws → length ws % 2 ≡ 0
wf-even ws h = rw (← h) (flat-even (tree_of ws))

pub wf-two : (ws : List ℕ) → Wf ws → 2 ≤ length ws
wf-two ws h = rw (← h) (flat-two (tree_of ws))

-- trees after trees
pub parse-join : (a b : List ℕ) → Trees a → Trees b → parse [] (a ++ b) ≡ parse [] b ++ parse [] a
unfolding Trees
parse-join a b h k =
    ap₂ (λ (x y : List ℕ). parse [] (x ++ y)) (sym h) (sym k)
    ∙ ap (parse []) (sym (flats-append (parse [] b) (parse [] a)))
    ∙ parse-of-flats (parse [] b ++ parse [] a)

pub trees-join : (a b : List ℕ) → Trees a → Trees b → Trees (a ++ b)
unfolding Trees
trees-join a b h k =
    ap flats (parse-join a b h k)
    ∙ flats-append (parse [] b) (parse [] a)
    ∙ ap₂ (λ (x y : List ℕ). x ++ y) h k

-- one tree after trees
pub parse-tree : (a b : List ℕ) → Trees a → Wf b → parse [] (a ++ b) ≡ tree_of b ∷ parse [] a
parse-tree a b h k = parse-join a b h (wf-trees b k) ∙ ap (λ (s : List Expr). s ++ parse [] a) (wf-parse b k)
