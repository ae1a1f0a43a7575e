-- A tree's root and what stands below it, read off the tree's words: what the methods of `Tree` rest on. Assumes nothing.
use mathlib.Core.Path.{◌≡◌, refl, sym, ap, ap₂, subst, ◌∙◌}
use mathlib.Core.List.{List, [], ◌∷◌, ◌++◌}
use Prim.Native.Nat.{ℕ, ◌+◌, ◌/◌, ◌%◌, ◌-◌, ◌≤◌}
use native.Mathlib.Omega.{arith}
use lib.Dec.{lit<}
use lib.ListN.{length, get_or, take, drop}
use lib.Seq.{take_at, drop_at}
use Rattle.expr.specs.Tree.{Expr, flat, own, kind_of, argument_of, tag_of, value_of, child, tree_of, last_start, Trees, tree_count, Wf}
use Rattle.expr.specs.Tree.Expr.{variable, constant, condition_true, condition_false, effect, load, cast, binary, ternary}
use Rattle.expr.specs.Root.{root_of, root_argument}
use Rattle.expr.specs.declared.Root.{Root}
use Rattle.expr.specs.declared.Root.TheVariants.{Variable, Constant, True, False, Effect, Load, Cast, Binary, Ternary}
use Rattle.expr.proofs.Laws.{kids, kind-of, argument-of, wf-two}
use Rattle.expr.proofs.Parts.{root, root-place}
use Rattle.expr.proofs.Children.{OneChild, TwoChildren, ThreeChildren, cast-child, binary-children, ternary-front, ternary-children, has-children, root-formed}

-- a root's number, and the root of a number below nine
abbrev pub number : Root → ℕ
number Variable = 0
number Constant = 1
number True = 2
number False = 3
number Effect = 4
number Load = 5
number Cast = 6
number Binary = 7
number Ternary = 8

abbrev pub named : ℕ → Root
named k = get_or (Variable ∷ Constant ∷ True ∷ False ∷ Effect ∷ Load ∷ Cast ∷ Binary ∷ Ternary ∷ []) k Variable

pub kind-number : (e : Expr) → kind_of (tag_of e) ≡ number (root_of e)
unfolding tag_of root_of
kind-number (variable n) = kind-of 0 n (lit< tt)
kind-number (constant w x) = kind-of 1 w (lit< tt)
kind-number condition_true = refl
kind-number condition_false = refl
kind-number (effect t) = kind-of 4 t (lit< tt)
kind-number (load t a) = kind-of 5 t (lit< tt)
kind-number (cast t a) = kind-of 6 t (lit< tt)
kind-number (binary o a b) = kind-of 7 o (lit< tt)
kind-number (ternary c a b) = refl

number-named : (r : Root) → named (number r) ≡ r
number-named Variable = refl
number-named Constant = refl
number-named True = refl
number-named False = refl
number-named Effect = refl
number-named Load = refl
number-named Cast = refl
number-named Binary = refl
number-named Ternary = refl

pub root_by_kind : (e : Expr) → root_of e ≡ named (kind_of (tag_of e))
root_by_kind e = sym (ap named (kind-number e) ∙ number-named (root_of e))

pub argument_root : (e : Expr) → argument_of (tag_of e) ≡ root_argument e
unfolding tag_of root_argument
argument_root (variable n) = argument-of 0 n (lit< tt)
argument_root (constant w x) = argument-of 1 w (lit< tt)
argument_root condition_true = refl
argument_root condition_false = refl
argument_root (effect t) = argument-of 4 t (lit< tt)
argument_root (load t a) = argument-of 5 t (lit< tt)
argument_root (cast t a) = argument-of 6 t (lit< tt)
argument_root (binary o a b) = argument-of 7 o (lit< tt)
argument_root (ternary c a b) = refl

module _ (ws : List ℕ) (w : Wf ws) where
  -- the root's two words, by a name that code can say
  pub two : 2 ≤ length ws
  two = wf-two ws w

  place : length ws - 2 + 2 ≡ length ws
  place = root-place ws w

  pub tag_there : get_or ws (length ws - 2) 0 ≡ tag_of (tree_of ws)
  tag_there = (root ws (length ws - 2) w place).tag

  pub value_there : get_or ws (length ws - 1) 0 ≡ value_of (tree_of ws)
  value_there =
      let last : length ws - 1 ≡ length ws - 2 + 1 = omega (arith, wf-two ws w) in
      ap (λ (i : ℕ). get_or ws i 0) last ∙ (root ws (length ws - 2) w place).value

  pub kind_within : kind_of (tag_of (tree_of ws)) ≤ 8
  kind_within = rw tag_there at (root-formed ws (length ws - 2) w place).kind

  kind-there : (r : Root) → root_of (tree_of ws) ≡ r → get_or ws (length ws - 2) 0 % 16 ≡ number r
  kind-there r h = ap kind_of tag_there ∙ kind-number (tree_of ws) ∙ ap number h

  argument-there : get_or ws (length ws - 2) 0 / 16 ≡ root_argument (tree_of ws)
  argument-there = ap argument_of tag_there ∙ argument_root (tree_of ws)

  pub child_of : root_of (tree_of ws) ≡ Cast → OneChild ws (length ws - 2) (cast (root_argument (tree_of ws)))
  child_of h = rw argument-there at (cast-child ws (length ws - 2) w place (kind-there Cast h))

  -- what stands before an operator's or a ternary's root is some trees
  pub before : (r : Root) → 5 ≤ number r → root_of (tree_of ws) ≡ r → Trees (take (length ws - 2) ws) × (1 ≤ tree_count (take (length ws - 2) ws))
  before r l h = has-children ws (length ws - 2) w place (omega (arith, kind-there r h, l))

  pub sides_of : root_of (tree_of ws) ≡ Binary → (m : ℕ) → m ≡ last_start (take (length ws - 2) ws)
      → TwoChildren ws (length ws - 2) m (binary (root_argument (tree_of ws)))
  sides_of h m s = rw argument-there at (binary-children ws (length ws - 2) w place m s (kind-there Binary h))

  pub front_of : root_of (tree_of ws) ≡ Ternary → (m : ℕ) → m ≡ last_start (take (length ws - 2) ws) → Trees (take m ws) × (1 ≤ tree_count (take m ws))
  front_of h m s = ternary-front ws (length ws - 2) w place m s (kind-there Ternary h)

  pub arms_of : root_of (tree_of ws) ≡ Ternary → (m : ℕ) → m ≡ last_start (take (length ws - 2) ws) → (l : ℕ) → l ≡ last_start (take m ws)
      → ThreeChildren ws (length ws - 2) m l
  arms_of h m s l r = ternary-children ws (length ws - 2) w place m s (kind-there Ternary h) l r

-- where parts stand in the words of a whole: l at its start, and r after l
pub record Standing (ws l r : List ℕ) : Type 0 where
  pub left : l ≡ take (length l) ws
  pub right : r ≡ take (length r) (drop (length l) ws)

standing : (l r rest : List ℕ) → Standing (l ++ (r ++ rest)) l r
standing l r rest =
    record {
      left = sym (take_at l (r ++ rest) (length l) refl);
      right = sym (ap (take (length r)) (drop_at l (r ++ rest) (length l) refl) ∙ take_at r rest (length r) refl);
    }

-- what is cast stands at the start of the words
pub cast-standing : (ws l : List ℕ) (t : ℕ) → Wf ws → Wf l → tree_of ws ≡ cast t (tree_of l) → l ≡ take (length l) ws
unfolding flat
cast-standing ws l t w v h =
    let words : ws ≡ l ++ own (cast t (tree_of l)) = sym w ∙ ap flat h ∙ ap (λ (k : List ℕ). k ++ own (cast t (tree_of l))) v in
    sym (ap (take (length l)) words ∙ take_at l (own (cast t (tree_of l))) (length l) refl)

-- an operator's sides stand one after the other
pub sides-standing : (ws l r : List ℕ) (o : ℕ) → Wf ws → Wf l → Wf r → tree_of ws ≡ binary o (tree_of l) (tree_of r) → Standing ws l r
unfolding flat
sides-standing ws l r o w u v h =
    let rest = own (binary o (tree_of l) (tree_of r)) in
    let words : ws ≡ l ++ (r ++ rest) = sym w ∙ ap flat h ∙ ap₂ (λ (j k : List ℕ). j ++ (k ++ rest)) u v in
    subst (λ (ws : List ℕ). Standing ws l r) (sym words) (standing l r rest)

-- a tree by its root: the root's kind, argument and value, and the trees below it, the last one first
abbrev pub made : Root → ℕ → ℕ → List Expr → Expr
made Variable n x st = variable n
made Constant n x st = constant n x
made True n x st = condition_true
made False n x st = condition_false
made Effect n x st = effect n
made Load n x st = load n (child st 0)
made Cast n x st = cast n (child st 0)
made Binary n x st = binary n (child st 1) (child st 0)
made Ternary n x st = ternary (child st 2) (child st 1) (child st 0)

made-again : (e : Expr) → e ≡ made (root_of e) (root_argument e) (value_of e) (kids e)
unfolding root_of root_argument value_of kids
made-again (variable n) = refl
made-again (constant w x) = refl
made-again condition_true = refl
made-again condition_false = refl
made-again (effect t) = refl
made-again (load t a) = refl
made-again (cast t a) = refl
made-again (binary o a b) = refl
made-again (ternary c a b) = refl

-- a tree whose root's kind is known
pub by-root : (e : Expr) (r : Root) → root_of e ≡ r → e ≡ made r (root_argument e) (value_of e) (kids e)
by-root e r h = made-again e ∙ ap (λ (q : Root). made q (root_argument e) (value_of e) (kids e)) h

pub constant-root : (e : Expr) → root_of e ≡ Constant → e ≡ constant (root_argument e) (value_of e)
constant-root e h = by-root e Constant h
