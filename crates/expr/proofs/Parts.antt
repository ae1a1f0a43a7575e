-- The parts of words that hold one tree or several: the last record, where the last tree starts, and a root's children as parts of the words.
-- Assumes nothing.
use mathlib.Core.Path.{◌≡◌, refl, sym, ap, ap₂, subst, ◌∙◌}
use mathlib.Core.List.{List, [], ◌∷◌, ◌++◌, append_assoc, append-nil, append_cancel_left}
use Prim.Native.Nat.{ℕ, zero, suc, ◌+◌, ◌-◌, ◌≤◌, ◌<◌}
use native.Mathlib.Omega.{arith}
use lib.ListN.{length, get_or, take, drop, length-append, length-take}
use lib.Seq.{take-length, length-take-le, take-take, take_at, get_or_at, get_or-take, take-add, drop-append-add}
use Rattle.expr.specs.Tree.{Expr, tag_of, value_of, own, flat, flats, arity_of, child, node, push, parse, tree_of, tree_count, last_start, Wf, Trees}
use Rattle.expr.proofs.Laws.{kids, kids-arity, push-own, flat-root, flat-two, flats-append, parse-of-flats, trees-flats, wf-two}

-- the first n words end in a record
pub record Ending (ws : List ℕ) (n : ℕ) (body : List ℕ) (tag value : ℕ) : Type 0 where
  pub size : n ≡ length body + 2
  pub front : take (n - 2) ws ≡ body
  pub tag_there : get_or ws (n - 2) 0 ≡ tag
  pub value_there : get_or ws (n - 1) 0 ≡ value

pub ending : (ws : List ℕ) (n : ℕ) (body : List ℕ) (tag value : ℕ) → n ≤ length ws → take n ws ≡ body ++ (tag ∷ value ∷ [])
    → Ending ws n body tag value
ending ws n body tag value h e =
    let size : n ≡ length body + 2 = sym (length-take-le n ws h) ∙ ap length e ∙ length-append body (tag ∷ value ∷ []) in
    record {
      size = size;
      front = sym (take-take (n - 2) n ws (omega arith)) ∙ ap (take (n - 2)) e ∙ take_at body (tag ∷ value ∷ []) (n - 2) (omega arith);
      tag_there =
          sym (get_or-take n ws (n - 2) 0 (omega arith))
          ∙ ap (λ (l : List ℕ). get_or l (n - 2) 0) e
          ∙ get_or_at body tag (value ∷ []) 0 (n - 2) (omega arith);
      value_there =
          sym (get_or-take n ws (n - 1) 0 (omega arith))
          ∙ ap (λ (l : List ℕ). get_or l (n - 1) 0) (e ∙ sym (append_assoc body (tag ∷ []) (value ∷ [])))
          ∙ get_or_at (body ++ (tag ∷ [])) value [] 0 (n - 1) (omega (arith, length-append body (tag ∷ [])));
    }

-- the words of a stack end in its top tree's root
pub stack-ending : (ws : List ℕ) (n : ℕ) (e : Expr) (st : List Expr) → n ≤ length ws → take n ws ≡ flats (e ∷ st)
    → Ending ws n (flats (kids e ++ st)) (tag_of e) (value_of e)
unfolding flats
stack-ending ws n e st h k =
    ending ws n (flats (kids e ++ st)) (tag_of e) (value_of e) h
    (k
    ∙ ap (λ (l : List ℕ). flats st ++ l) (flat-root e)
    ∙ sym (append_assoc (flats st) (flats (kids e)) (own e))
    ∙ ap (λ (l : List ℕ). l ++ own e) (sym (flats-append (kids e) st)))

-- two words a tree at the least
pub flats-length : (st : List Expr) → length st + length st ≤ length (flats st)
unfolding flats
flats-length [] = omega arith
flats-length (e ∷ st) = simp length-append (omega (arith, flats-length st, flat-two e))

-- what the search for the last tree's start has, going back: the trees before `at`, of which `left` are still to be passed
pub record Back (rs : List ℕ) (at left : ℕ) : Type 0 where
  pub trees : List Expr
  pub within : at ≤ length rs
  pub words : take at rs ≡ flats trees
  pub enough : left ≤ length trees
  pub start : length (flats (drop left trees)) ≡ last_start rs

top-length : (st : List Expr) (n : ℕ) → 1 ≤ length st → n ≡ length (flats st) → length (flats (drop 1 st)) ≡ n - length (flat (child st 0))
unfolding flats
top-length [] n h e = absurd (omega (arith, h))
top-length (d ∷ st) n h e = omega (arith, e, length-append (flats st) (flat d))

pub back_start : (rs : List ℕ) → Trees rs → 1 ≤ tree_count rs → Back rs (length rs) 1
unfolding Trees tree_of
back_start rs h n =
    record {
      trees = parse [] rs;
      within = omega arith;
      words = take-length rs ∙ sym h;
      enough = n;
      start = top-length (parse [] rs) (length rs) n (ap length (sym h));
    }

drop-less : (d : Expr) (st : List Expr) (n : ℕ) → 0 < n → drop (n - 1) st ≡ drop n (d ∷ st)
drop-less d st zero h = absurd (omega (arith, h))
drop-less d st (suc n) h =
    let e : suc n - 1 ≡ n = omega arith in
    ap (λ (k : ℕ). drop k st) e

module _ (rs : List ℕ) (at left : ℕ) (more : 0 < left) (b : Back rs at left) where
  back_from : (st : List Expr) → b.trees ≡ st → left ≤ length st → (2 ≤ at) × Back rs (at - 2) (left - 1 + arity_of (get_or rs (at - 2) 0))
  back_from [] e h = absurd (omega (arith, h))
  back_from (d ∷ st) e h =
      let end = stack-ending rs at d st b.within (b.words ∙ ap flats e) in
      let count : arity_of (get_or rs (at - 2) 0) ≡ length (kids d) = ap arity_of end.tag_there ∙ sym (kids-arity d) in
      let fewer : left - 1 + arity_of (get_or rs (at - 2) 0) ≡ length (kids d) + (left - 1) = omega arith in (
        omega (arith, end.size),
        record {
          trees = kids d ++ st;
          within = omega (arith, b.within);
          words = end.front;
          enough = omega (arith, length-append (kids d) st);
          start =
              ap (λ (n : ℕ). length (flats (drop n (kids d ++ st)))) fewer
              ∙ ap (λ (s : List Expr). length (flats s)) (drop-append-add (kids d) st (left - 1) ∙ drop-less d st left more ∙ ap (drop left) (sym e))
              ∙ b.start;
        },
      )

  pub back_step : (2 ≤ at) × Back rs (at - 2) (left - 1 + arity_of (get_or rs (at - 2) 0))
  back_step = back_from b.trees refl b.enough

pub back-few : (rs : List ℕ) (at left : ℕ) → Back rs at left → left ≤ at
back-few rs at left b = omega (arith, b.enough, flats-length b.trees, ap length b.words, length-take-le at rs b.within)

pub back_end : (rs : List ℕ) (at left : ℕ) → left ≤ 0 → Back rs at left → at ≡ last_start rs
back_end rs at left h b =
    let none : 0 ≡ left = omega arith in
    sym (length-take-le at rs b.within)
    ∙ ap length b.words
    ∙ ap (λ (n : ℕ). length (flats (drop n b.trees))) none
    ∙ b.start

-- where the root's record stands
pub root-place : (ws : List ℕ) → Wf ws → length ws - 2 + 2 ≡ length ws
root-place ws h = omega (arith, wf-two ws h)

-- the root of a tree's words: its record, and its children's words before it
pub record Root (ws : List ℕ) (n : ℕ) : Type 0 where
  pub size : 2 ≤ length ws
  pub tag : get_or ws n 0 ≡ tag_of (tree_of ws)
  pub value : get_or ws (n + 1) 0 ≡ value_of (tree_of ws)
  pub body : take n ws ≡ flats (kids (tree_of ws))
  pub trees : Trees (take n ws)
  pub count : tree_count (take n ws) ≡ arity_of (get_or ws n 0)
  -- the tree is what its record makes of its children
  pub made : tree_of ws ≡ node (get_or ws n 0) (get_or ws (n + 1) 0) (kids (tree_of ws))

node-own : (e : Expr) → e ≡ node (tag_of e) (value_of e) (kids e)
unfolding push
node-own e =
    sym (ap (λ (s : List Expr). child s 0) (push-own e []))
    ∙ ap (node (tag_of e) (value_of e)) (append-nil (kids e))

pub root : (ws : List ℕ) (n : ℕ) → Wf ws → n + 2 ≡ length ws → Root ws n
unfolding flats
root ws n h e =
    let end = stack-ending ws (length ws) (tree_of ws) [] (omega arith) (take-length ws ∙ sym h) in
    let low : n ≡ length ws - 2 = omega arith in
    let high : n + 1 ≡ length ws - 1 = omega arith in
    let body : take n ws ≡ flats (kids (tree_of ws)) = ap (λ (m : ℕ). take m ws) low ∙ end.front ∙ ap flats (append-nil (kids (tree_of ws))) in
    let tag : get_or ws n 0 ≡ tag_of (tree_of ws) = ap (λ (m : ℕ). get_or ws m 0) low ∙ end.tag_there in
    let value : get_or ws (n + 1) 0 ≡ value_of (tree_of ws) = ap (λ (m : ℕ). get_or ws m 0) high ∙ end.value_there in
    record {
      size = omega arith;
      tag = tag;
      value = value;
      body = body;
      trees = subst Trees (sym body) (trees-flats (kids (tree_of ws)));
      count = ap tree_count body ∙ ap length (parse-of-flats (kids (tree_of ws))) ∙ kids-arity (tree_of ws) ∙ ap arity_of (sym tag);
      made = node-own (tree_of ws) ∙ ap₂ (λ (t v : ℕ). node t v (kids (tree_of ws))) (sym tag) (sym value);
    }

-- where a last tree starts is an offset of the words
pub start-within : (ws : List ℕ) (n m : ℕ) → m ≡ last_start (take n ws) → (m ≤ n) × (m ≡ length (take m ws))
start-within ws n m h = (omega (arith, length-take n ws), omega (arith, length-take n ws, length-take m ws))

-- the first n words are trees, and m is where the last of them starts
pub record Split (ws : List ℕ) (n m : ℕ) (e : Expr) (st : List Expr) : Type 0 where
  pub start : m + length (flat e) ≡ n
  pub front : take m ws ≡ flats st
  pub last : take (n - m) (drop m ws) ≡ flat e

pub split : (ws : List ℕ) (n m : ℕ) (e : Expr) (st : List Expr) → n ≤ length ws → take n ws ≡ flats (e ∷ st) → m ≡ last_start (take n ws)
    → Split ws n m e st
unfolding flats tree_of
split ws n m e st h k l =
    let size : n ≡ length (flats st) + length (flat e) = sym (length-take-le n ws h) ∙ ap length k ∙ length-append (flats st) (flat e) in
    let top : tree_of (take n ws) ≡ e = ap tree_of k ∙ ap (λ (s : List Expr). child s 0) (parse-of-flats (e ∷ st)) in
    let less : n - length (flat e) ≡ length (flats st) = omega arith in
    let start : m ≡ length (flats st) =
    l ∙ ap₂ (λ (a : ℕ) (d : Expr). a - length (flat d)) (length-take-le n ws h) top ∙ less in
    let front : take m ws ≡ flats st =
    sym (take-take m n ws (omega arith)) ∙ ap (take m) k ∙ take_at (flats st) (flat e) m (sym start) in
    let whole : m + (n - m) ≡ n = omega arith in
    record {
      start = omega arith;
      front = front;
      last =
          append_cancel_left (flats st) (take (n - m) (drop m ws)) (flat e)
          (ap (λ (l : List ℕ). l ++ take (n - m) (drop m ws)) (sym front)
          ∙ sym (take-add m (n - m) ws)
          ∙ ap (λ (i : ℕ). take i ws) whole
          ∙ k);
    }
