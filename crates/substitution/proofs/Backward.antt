-- The pass over the records of a tree from the last to the first. What is still to be written is made of the trees whose records come before: the topmost
-- `left` of them stand under a load and are written as they are, the others with their held variables replaced (`mixed`). A record's own words, or the
-- words of the held value that stands for it, are the end of that, and what is left is again of that form. So what is still to be written, with what was
-- written behind it, is the substituted tree's words at every step.
use Prim.Native.Nat.{ℕ, zero, suc, ◌+◌, ◌*◌, ◌-◌, ◌≤◌, ◌<◌}
use mathlib.Core.Path.{◌≡◌, refl, sym, ap, ap₂, subst, ◌∙◌}
use mathlib.Core.Bool.{Bool, true, false, cond, ◌&&◌, false≢true}
use mathlib.Core.List.{List, [], ◌∷◌, ◌++◌, map, append_assoc, append-nil}
use native.Mathlib.Omega.{arith}
use lib.Dec.{eqb, lit<}
use lib.ListN.{length, get_or, take, drop, length-append, length-drop}
use lib.Seq.{take_all, take-append-add, drop-append-add, drop-length, take_at, drop_at}
use borrow.Author.Tests.{eq-eqb, ne_eqb, eqb-true, lt-ltb, le-ltb}
use Rattle.std.proofs.lemmas.Bool.{ltb-false}
use Rattle.expr.specs.Codes.{kind_variable, kind_load}
use Rattle.expr.specs.Tree.{Expr, tag_of, value_of, own, flat, size, flats, kind_of, argument_of, arity_of, tree_of, Wf}
use Rattle.expr.specs.Tree.Expr.{variable, constant, condition_true, condition_false, effect, load, cast, binary, ternary}
use Rattle.expr.specs.Scan.{is_load}
use Rattle.expr.proofs.Laws.{wf-flat, tree_of-flat, kids, kids-arity, kind-of, argument-of, flat-root, flats-append, flat-size}
use Rattle.expr.proofs.Parts.{flats-length}
use Rattle.expr.proofs.Scans.{load-tag}
use Rattle.substitution.specs.Substitution.{Entry, free, held, Table, standing, substitute, most_records, long}
use Rattle.substitution.specs.Held.{entry_for, pending_after}

pub too_long_lem : (e : Expr) → 256 < length (flat e) → long e ≡ true
too_long_lem e h = lt-ltb most_records (size e) (omega (arith, flat-size e))

-- the words of a tree that is not too long
pub few-words : (ws : List ℕ) → Wf ws → {e : Expr} → tree_of ws ≡ e → long e ≡ false → length ws ≤ 256
few-words ws wf {e} is short =
    omega (arith, ap length wf, flat-size (tree_of ws), ltb-false most_records (size (tree_of ws)) (ap long is ∙ short))

pub not-long : (e : Expr) → length (flat e) ≤ 256 → long e ≡ false
not-long e h = le-ltb most_records (size e) (omega (arith, flat-size e))

-- the trees that are pending behind a record, case by case
module _ (left tag : ℕ) where
  pub pending-load : {k : ℕ} → left ≡ 0 → k ≡ kind_of tag → k ≡ kind_load → 1 ≡ pending_after left tag
  unfolding pending_after
  pending-load {k} l p q = rw (eq-eqb left 0 l, eq-eqb (kind_of tag) kind_load (sym p ∙ q))

  pub pending-other : {k : ℕ} → left ≡ 0 → k ≡ kind_of tag → (k ≡ kind_load → ⊥) → 0 ≡ pending_after left tag
  unfolding pending_after
  pending-other {k} l p q = rw (eq-eqb left 0 l, ne_eqb (kind_of tag) kind_load (λ z. q (p ∙ z)))

  pub pending-under : {a : ℕ} → (left ≡ 0 → ⊥) → a ≡ arity_of tag → left - 1 + a ≡ pending_after left tag
  unfolding pending_after
  pending-under {a} l p = rw (ne_eqb left 0 l, p)

  pub pending-fits : {a : ℕ} → (left ≡ 0 → ⊥) → a ≡ arity_of tag → pending_after left tag ≤ 256 → left - 1 + a ≤ 256
  pending-fits l p h = rw (pending-under l p) h

-- ---- what is still to be written

pub mixed : Table → ℕ → List Expr → List Expr
mixed h left st = take left st ++ map (substitute h) (drop left st)

map-append : (f : Expr → Expr) (s t : List Expr) → map f (s ++ t) ≡ map f s ++ map f t
map-append f [] t = refl
map-append f (e ∷ s) t = ap (λ (l : List Expr). f e ∷ l) (map-append f s t)

-- a tree that is no load and no held variable: its root's record stays, over its children substituted
sub-root : (h : Table) (d : Expr) → is_load d ≡ false → ((n : ℕ) (e : Expr) → d ≡ variable n → h n ≡ held e → ⊥)
    → flat (substitute h d) ≡ flats (map (substitute h) (kids d)) ++ own d
unfolding substitute kids is_load flat flats tag_of value_of
sub-root h (variable n) l free-here = by (h n) refl
  where
    by : (t : Entry) → h n ≡ t → flat (standing n t) ≡ own (variable n)
    by free q = refl
    by (held e) q = absurd (free-here n e refl q)
sub-root h (constant w x) l free-here = refl
sub-root h condition_true l free-here = refl
sub-root h condition_false l free-here = refl
sub-root h (effect t) l free-here = refl
sub-root h (load t a) l free-here = absurd (false≢true (sym l))
sub-root h (cast t a) l free-here = refl
sub-root h (binary o a b) l free-here = simp append_assoc
sub-root h (ternary c a b) l free-here = simp append_assoc

module _ (h : Table) (d : Expr) (st : List Expr) where
  -- under a load: the record as it is, its children still under the load
  passed : (k : ℕ) → flats (mixed h (suc k) (d ∷ st)) ≡ flats (mixed h (k + arity_of (tag_of d)) (kids d ++ st)) ++ own d
  unfolding mixed flats
  passed k =
      let count : k + arity_of (tag_of d) ≡ length (kids d) + k = omega (arith, kids-arity d) in
      let split : mixed h (length (kids d) + k) (kids d ++ st) ≡ kids d ++ mixed h k st =
      ap₂ (λ (s t : List Expr). s ++ map (substitute h) t) (take-append-add (kids d) st k) (drop-append-add (kids d) st k)
      ∙ append_assoc (kids d) (take k st) (map (substitute h) (drop k st)) in
      rw (count, split, flats-append (kids d) (mixed h k st), flat-root d)
      (sym (append_assoc (flats (mixed h k st)) (flats (kids d)) (own d)))

  -- no load, and nothing stands for it: the record as it is, its children to be substituted
  entered : is_load d ≡ false → ((n : ℕ) (e : Expr) → d ≡ variable n → h n ≡ held e → ⊥)
      → flats (mixed h 0 (d ∷ st)) ≡ flats (mixed h 0 (kids d ++ st)) ++ own d
  unfolding mixed flats
  entered l free-here =
      rw (
        map-append (substitute h) (kids d) st,
        flats-append (map (substitute h) (kids d)) (map (substitute h) st),
        sub-root h d l free-here,
      )
      (sym (append_assoc (flats (map (substitute h) st)) (flats (map (substitute h) (kids d))) (own d)))

-- a load: the record as it is, its address under it
opened : (h : Table) (t : ℕ) (a : Expr) (st : List Expr) → flats (mixed h 0 (load t a ∷ st)) ≡ flats (mixed h 1 (a ∷ st)) ++ own (load t a)
unfolding mixed flats flat substitute
opened h t a st = sym (append_assoc (flats (map (substitute h) st)) (flat a) (own (load t a)))

-- a held variable: its value's words
stood : (h : Table) (n : ℕ) (e : Expr) (st : List Expr) → h n ≡ held e → flats (mixed h 0 (variable n ∷ st)) ≡ flats (mixed h 0 st) ++ flat e
unfolding mixed flats substitute
stood h n e st q = rw q

-- ---- one record

-- The last record is taken: `part` is written for it, and the trees of the words before it are left, with left' of them under a load.
pub record Cut (h : Table) (trees : List Expr) (front : List ℕ) (left : ℕ) (part : List ℕ) (left' : ℕ) : Type 0 where
  pub next : List Expr
  pub words : front ≡ flats next
  pub enough : left' ≤ length next
  pub same : flats (mixed h left trees) ≡ flats (mixed h left' next) ++ part

-- a record of kind 0 is a variable, and one of kind 5 a load
variable-of : (d : Expr) → kind_of (tag_of d) ≡ kind_variable → d ≡ variable (argument_of (tag_of d))
unfolding tag_of
variable-of (variable n) h = ap variable (sym (argument-of 0 n (lit< tt)))
variable-of (constant w x) h = absurd (omega (arith, kind-of 1 w (lit< tt)))
variable-of condition_true h = absurd (omega arith)
variable-of condition_false h = absurd (omega arith)
variable-of (effect t) h = absurd (omega (arith, kind-of 4 t (lit< tt)))
variable-of (load t a) h = absurd (omega (arith, kind-of 5 t (lit< tt)))
variable-of (cast t a) h = absurd (omega (arith, kind-of 6 t (lit< tt)))
variable-of (binary o a b) h = absurd (omega (arith, kind-of 7 o (lit< tt)))
variable-of (ternary c a b) h = absurd (omega arith)

-- the words of a stack end in its top tree's own
top-words : (d : Expr) (st : List Expr) → flats (d ∷ st) ≡ flats (kids d ++ st) ++ own d
unfolding flats
top-words d st =
    rw (flat-root d, flats-append (kids d) st) (sym (append_assoc (flats st) (flats (kids d)) (own d)))

load-case : (h : Table) (d : Expr) (st : List Expr) → is_load d ≡ true → flats (mixed h 0 (d ∷ st)) ≡ flats (mixed h 1 (kids d ++ st)) ++ own d
unfolding is_load kids
load-case h (variable n) st l = absurd (false≢true l)
load-case h (constant w x) st l = absurd (false≢true l)
load-case h condition_true st l = absurd (false≢true l)
load-case h condition_false st l = absurd (false≢true l)
load-case h (effect t) st l = absurd (false≢true l)
load-case h (load t a) st l = opened h t a st
load-case h (cast t a) st l = absurd (false≢true l)
load-case h (binary o a b) st l = absurd (false≢true l)
load-case h (ternary c a b) st l = absurd (false≢true l)

load-kids : (d : Expr) → is_load d ≡ true → 1 ≤ length (kids d)
unfolding is_load kids
load-kids (variable n) l = absurd (false≢true l)
load-kids (constant w x) l = absurd (false≢true l)
load-kids condition_true l = absurd (false≢true l)
load-kids condition_false l = absurd (false≢true l)
load-kids (effect t) l = absurd (false≢true l)
load-kids (load t a) l = omega arith
load-kids (cast t a) l = absurd (false≢true l)
load-kids (binary o a b) l = absurd (false≢true l)
load-kids (ternary c a b) l = absurd (false≢true l)

-- what taking the top tree's own record leaves
record Own (h : Table) (left : ℕ) (d : Expr) (st : List Expr) : Type 0 where
  enough : pending_after left (tag_of d) ≤ length (kids d ++ st)
  same : flats (mixed h left (d ∷ st)) ≡ flats (mixed h (pending_after left (tag_of d)) (kids d ++ st)) ++ own d

own-record : (h : Table) (left : ℕ) (d : Expr) (st : List Expr) → left ≤ length (d ∷ st)
    → (left ≡ 0 → (n : ℕ) (e : Expr) → d ≡ variable n → h n ≡ held e → ⊥) → Own h left d st
unfolding pending_after
own-record h zero d st few free-here = by (is_load d) refl
  where
    by : (b : Bool) → is_load d ≡ b → Own h 0 d st
    by true l =
        let is : eqb (kind_of (tag_of d)) kind_load ≡ true = sym (load-tag d) ∙ l in
        record {
          enough = rw is (rw (length-append (kids d) st) (omega (arith, load-kids d l)));
          same = rw is (load-case h d st l);
        }
    by false l =
        let is : eqb (kind_of (tag_of d)) kind_load ≡ false = sym (load-tag d) ∙ l in
        record { enough = rw is (omega arith); same = rw is (entered h d st l (free-here refl)) }
own-record h (suc k) d st few free-here =
    let less : suc k - 1 ≡ k = omega arith in
    let is : pending_after (suc k) (tag_of d) ≡ k + arity_of (tag_of d) =
    sym (pending-under (suc k) (tag_of d) (omega arith) refl) ∙ ap (λ (n : ℕ). n + arity_of (tag_of d)) less in
    record {
      enough = rw (is, length-append (kids d) st) (omega (arith, kids-arity d));
      same = rw is (passed h d st k);
    }

-- where nothing is held for the record, nothing is held for its variable
none-held : (h : Table) (d : Expr) → entry_for h 0 (tag_of d) ≡ free → (n : ℕ) (e : Expr) → d ≡ variable n → h n ≡ held e → ⊥
unfolding entry_for tag_of
none-held h d none n e is there =
    let tag : tag_of d ≡ 0 + 16 * n = ap tag_of is in
    let kind : kind_of (tag_of d) ≡ 0 = ap kind_of tag ∙ kind-of 0 n (lit< tt) in
    let number : argument_of (tag_of d) ≡ n = ap argument_of tag ∙ argument-of 0 n (lit< tt) in
    let empty : h n ≡ free = rw (eq-eqb (kind_of (tag_of d)) 0 kind, number) at none in
    cc

-- where something is, it is what is held for its variable
record Stands (h : Table) (left tag : ℕ) (e : Expr) : Type 0 where
  outside : left ≡ 0
  kind : kind_of tag ≡ kind_variable
  value : h (argument_of tag) ≡ held e

stands : (h : Table) (left tag : ℕ) (e : Expr) → entry_for h left tag ≡ held e → Stands h left tag e
unfolding entry_for
stands h left tag e is = by (eqb left 0) (eqb (kind_of tag) kind_variable) refl refl is
  where
    by : (a b : Bool) → eqb left 0 ≡ a → eqb (kind_of tag) kind_variable ≡ b → cond (a && b) (h (argument_of tag)) free ≡ held e → Stands h left tag e
    by true true p q is = record { outside = eqb-true left 0 p; kind = eqb-true (kind_of tag) kind_variable q; value = is }
    by true false p q is = cc
    by false b p q is = cc

-- the last record of words, and the words before it
pub record Split (rest front record_lem : List ℕ) : Type 0 where
  pub long : length front + 2 ≡ length rest
  pub front_is : front ≡ take (length rest - 2) rest
  pub record_is : record_lem ≡ drop (length rest - 2) rest

pub split : {rest front last : List ℕ} → (front ≡ take (length rest - 2) rest) × (last ≡ drop (length rest - 2) rest) × (length front + 2 ≡ length rest) → Split rest front last
split s = record { long = s.2; front_is = s.0; record_is = s.1 }

-- the record at the top of a stack
module _ (h : Table) {rest front last : List ℕ} (left : ℕ) (d : Expr) (st : List Expr) (s : Split rest front last)
    (words : rest ≡ flats (d ∷ st)) (few : left ≤ length (d ∷ st)) where
  whole : rest ≡ flats (kids d ++ st) ++ own d
  whole = words ∙ top-words d st

  front-size : length (flats (kids d ++ st)) ≡ length rest - 2
  front-size = omega (arith, ap length whole, length-append (flats (kids d ++ st)) (own d))

  front-words : front ≡ flats (kids d ++ st)
  front-words = s.front_is ∙ ap (take (length rest - 2)) whole ∙ take_at (flats (kids d ++ st)) (own d) (length rest - 2) front-size

  last-words : last ≡ own d
  last-words = s.record_is ∙ ap (drop (length rest - 2)) whole ∙ drop_at (flats (kids d ++ st)) (own d) (length rest - 2) front-size

  tag-there : get_or last 0 0 ≡ tag_of d
  tag-there = ap (λ (l : List ℕ). get_or l 0 0) last-words

  own-top : entry_for h left (get_or last 0 0) ≡ free → Cut h (d ∷ st) front left last (pending_after left (get_or last 0 0))
  own-top none =
      let o : Own h left d st = own-record h left d st few (λ l. none-held h d (subst (λ (k : ℕ). entry_for h k (tag_of d) ≡ free) l (subst (λ (t : ℕ). entry_for h left t ≡ free) tag-there none))) in
      record {
        next = kids d ++ st;
        words = front-words;
        enough = subst (λ (t : ℕ). pending_after left t ≤ length (kids d ++ st)) (sym tag-there) o.enough;
        same =
            o.same ∙ ap₂ (λ (t : ℕ) (l : List ℕ). flats (mixed h (pending_after left t) (kids d ++ st)) ++ l) (sym tag-there) (sym last-words);
      }

  held-top : (e : Expr) (ws : List ℕ) → ws ≡ flat e → entry_for h left (get_or last 0 0) ≡ held e → Cut h (d ∷ st) front left ws left
  unfolding kids
  held-top e ws is there =
      let s : Stands h left (tag_of d) e = stands h left (tag_of d) e (subst (λ (t : ℕ). entry_for h left t ≡ held e) tag-there there) in
      let var : d ≡ variable (argument_of (tag_of d)) = variable-of d s.kind in
      record {
        next = st;
        words = front-words ∙ ap (λ (e : Expr). flats (kids e ++ st)) var;
        enough = rw s.outside (omega arith);
        same = rw (is, s.outside, var) (stood h (argument_of (tag_of d)) e st s.value);
      }

pub record Writing (h : Table) (e : Expr) (rest out : List ℕ) (at left : ℕ) : Type 0 where
  pub trees : List Expr
  pub words : rest ≡ flats trees
  pub short : length rest ≤ 256
  pub enough : left ≤ length trees
  pub full : length out ≡ 256
  pub upto : at ≤ 256
  pub due : flats (mixed h left trees) ++ drop at out ≡ flat (substitute h e)

pub writing_start : (h : Table) (ws out : List ℕ) → Wf ws → length ws ≤ 256 → length out ≡ 256 → Writing h (tree_of ws) ws out 256 0
unfolding flats mixed
writing_start h ws out wf short full = record {
  trees = tree_of ws ∷ [];
  words = sym wf;
  short = short;
  enough = omega arith;
  full = full;
  upto = omega arith;
  due = rw (sym full, drop-length out) (append-nil (flat (substitute h (tree_of ws))));
}

module _ {h : Table} {e : Expr} {rest out front last : List ℕ} {at left : ℕ} (w : Writing h e rest out at left) (s : Split rest front last) where
  none_left : w.trees ≡ [] → ⊥
  unfolding flats
  none_left e = omega (arith, s.long, ap length (w.words ∙ ap flats e))

  pub own-cut : entry_for h left (get_or last 0 0) ≡ free → Cut h w.trees front left last (pending_after left (get_or last 0 0))
  own-cut none = by w.trees refl
    where
      by : (st : List Expr) → w.trees ≡ st → Cut h st front left last (pending_after left (get_or last 0 0))
      by [] e = absurd (none_left e)
      by (d ∷ st) e = own-top h left d st s (w.words ∙ ap flats e) (subst (λ (t : List Expr). left ≤ length t) e w.enough) none

  pub held_cut : (d : Expr) (ws : List ℕ) → ws ≡ flat d → entry_for h left (get_or last 0 0) ≡ held d → Cut h w.trees front left ws left
  held_cut d ws is there = by w.trees refl
    where
      by : (st : List Expr) → w.trees ≡ st → Cut h st front left ws left
      by [] e = absurd (none_left e)
      by (t ∷ st) e = held-top h left t st s (w.words ∙ ap flats e) (subst (λ (t : List Expr). left ≤ length t) e w.enough) d ws is there

-- A record's words are put before what is written.
module _ {h : Table} {e : Expr} {rest out front words-here : List ℕ} {at left left' : ℕ} (w : Writing h e rest out at left)
    (c : Cut h w.trees front left words-here left') where
  whole_words : (flats (mixed h left' c.next) ++ words-here) ++ drop at out ≡ flat (substitute h e)
  whole_words = ap (λ (l : List ℕ). l ++ drop at out) (sym c.same) ∙ w.due

  -- there is no space for them
  pub writing-full : at < length words-here → long (substitute h e) ≡ true
  writing-full less =
      let all = simp (length-append, length-drop) at (ap length whole_words) in
      too_long_lem (substitute h e) (omega (arith, w.full, w.upto, all))

  pub pending-few : length front ≤ length rest → left' ≤ 256
  pending-few h = omega (arith, w.short, c.enough, flats-length c.next, ap length c.words)

  pub writing_more : (new : List ℕ) (at' : ℕ) → at' + length words-here ≡ at → length front ≤ length rest → length new ≡ length out
      → drop at' new ≡ words-here ++ drop at out → Writing h e front new at' left'
  writing_more new at' place less long-new behind = record {
    trees = c.next;
    words = c.words;
    short = omega (arith, w.short);
    enough = c.enough;
    full = long-new ∙ w.full;
    upto = omega (arith, w.upto);
    due =
        ap (λ (l : List ℕ). flats (mixed h left' c.next) ++ l) behind
        ∙ sym (append_assoc (flats (mixed h left' c.next)) words-here (drop at out))
        ∙ whole_words;
  }

-- Where no record is left, nothing is left to be written.
module _ {h : Table} {e : Expr} {rest out : List ℕ} {at left : ℕ} (w : Writing h e rest out at left) (none : length rest < 2) where
  pub written : drop at out ≡ flat (substitute h e)
  unfolding flats mixed
  written =
      sym (ap (λ (l : List ℕ). l ++ drop at out)
      (empty w.trees (omega (arith, none, ap length w.words)) w.enough))
      ∙ w.due
    where
      empty : (st : List Expr) → length (flats st) < 2 → left ≤ length st → flats (mixed h left st) ≡ []
      empty [] h few = let z : left ≡ 0 = omega arith in rw z
      empty (d ∷ st) h few = absurd (omega (arith, flats-length (d ∷ st)))

  pub written-short : long (substitute h e) ≡ false
  written-short = not-long (substitute h e) (omega (arith, length-drop at out, ap length written, w.full))

  -- the words behind it, as the code takes them
  module _ {ws : List ℕ} (is : ws ≡ take (256 - at) (drop at out)) where
    words-are : ws ≡ flat (substitute h e)
    words-are = is ∙ take_all (256 - at) (drop at out) (omega (arith, length-drop at out, w.full)) ∙ written

    pub written_tree : Wf ws
    written_tree = subst Wf (sym words-are) (wf-flat (substitute h e))

    pub written_is : tree_of ws ≡ substitute h e
    written_is = ap tree_of words-are ∙ tree_of-flat (substitute h e)
