-- Who decides a branch first: of the records in their order, the first whose verdict on it is decided.
use Prim.Native.Nat.{ℕ, zero, suc, ◌<◌}
use mathlib.Core.Path.{◌≡◌, refl, sym, ap, ◌∙◌}
use mathlib.Core.Bool.{Bool, true, false, cond}
use mathlib.Core.List.{List, [], ◌∷◌, ◌++◌, append_assoc, append-nil}
use Rattle.std.specs.Prelude.{Option, None, Some}
use native.Mathlib.Omega.{arith}
use lib.Dec.{eqb}
use borrow.Author.Tests.{eqb-true, eqb-false}
use Rattle.std.specs.Prelude.{Ok, Err}
use Rattle.refusal.specs.declared.Refusal.{Refusal}
use Rattle.laws.proofs.Booleans.{by_test}
use Rattle.verdict.specs.declared.Verdict.{Verdict}
use Rattle.verdict.specs.declared.Verdict.TheVariants.{Always, Never, Undecided, NoBranch}
use Rattle.verdict.specs.Numbers.{verdict_numbers, Answer}
use Rattle.verdict.specs.Numbers.Numbers.{decision}
use Rattle.sheet.specs.Sheet.{node_numbered, node_place}
use Rattle.verdict_block.specs.Verdict.{verdict_on}
use Rattle.verdict_node.specs.NodeVerdict.{node_verdict}
use Rattle.verdict_sheet.specs.Sites.{block_site, node_site}
use Rattle.verdict_sheet.specs.Said.{Said, saying, blocks_say, Judged, node_too, judged_up_to, or_later, first_decided}
use Rattle.theorems.proofs.Apart.{some_same, not_some}

-- a verdict that decides nothing
abbrev pub Undeciding : Verdict → Type 0
Undeciding (Always r) = ⊥
Undeciding (Never r) = ⊥
Undeciding Undecided = Unit {0}
Undeciding NoBranch = Unit {0}

pub undeciding-none : (v : Verdict) {value reason : ℕ} → Undeciding v → verdict_numbers v ≡ decision value reason → ⊥
undeciding-none (Always r) h e = h
undeciding-none (Never r) h e = h
undeciding-none Undecided h e = cc
undeciding-none NoBranch h e = cc

or_later_lem : (v w u : Verdict) → or_later (or_later v w) u ≡ or_later v (or_later w u)
or_later_lem (Always r) w u = refl
or_later_lem (Never r) w u = refl
or_later_lem Undecided w u = refl
or_later_lem NoBranch w u = refl

pub first-append : (a : ℕ) (l m : List Said) → first_decided a (l ++ m) ≡ or_later (first_decided a l) (first_decided a m)
unfolding first_decided
first-append a [] m = refl
first-append a (x ∷ l) m = go (eqb x.site a) (first-append a l m)
  where
    go : (b : Bool) → first_decided a (l ++ m) ≡ or_later (first_decided a l) (first_decided a m)
        → cond b (or_later x.verdict (first_decided a (l ++ m))) (first_decided a (l ++ m))
        ≡ or_later (cond b (or_later x.verdict (first_decided a l)) (first_decided a l)) (first_decided a m)
    go true rest = rw rest (sym (or_later_lem x.verdict (first_decided a l) (first_decided a m)))
    go false rest = rest

-- records of one kind in their order, each with the branch that it is about and its verdict
module _ (site : ℕ → Option ℕ) (verdict : ℕ → Verdict) where
  unfoldable pub say_up_to : ℕ → List Said
  say_up_to zero = []
  say_up_to (suc k) = say_up_to k ++ saying (site k) (verdict k)

  abbrev pub Silent : ℕ → ℕ → Type 0
  Silent a j = site j ≡ Some a → Undeciding (verdict j)

  pub record First (a : ℕ) (v : Verdict) (n : ℕ) : Type 0 where
    pub number : ℕ
    pub below : number < n
    pub there : site number ≡ Some a
    pub is : verdict number ≡ v
    pub none_before : (j : ℕ) → j < number → Silent a j

  abbrev pub Found : ℕ → ℕ → Verdict → Type 0
  Found a n (Always r) = First a (Always r) n
  Found a n (Never r) = First a (Never r) n
  Found a n Undecided = (j : ℕ) → j < n → Silent a j
  Found a n NoBranch = (j : ℕ) → j < n → Silent a j

  further : (a n : ℕ) (v : Verdict) → First a v n → First a v (suc n)
  further a n v f = record { number = f.number; below = omega (arith, f.below); there = f.there; is = f.is; none_before = f.none_before }

  silent-more : (a n : ℕ) → ((j : ℕ) → j < n → Silent a j) → Silent a n → (j : ℕ) → j < suc n → Silent a j
  silent-more a n before last j below =
      by_test (eqb j n) (λ t. rw (eqb-true j n t) last) (λ t. let apart = eqb-false j n t in before j (omega (arith, below, apart)))

  -- the one that is asked last
  at_last : (a n : ℕ) → ((j : ℕ) → j < n → Silent a j) → (o : Option ℕ) → site n ≡ o → (v : Verdict) → verdict n ≡ v
      → Found a (suc n) (first_decided a (saying o v))
  unfolding first_decided
  at_last a n before None there v is = silent-more a n before (λ e. not_some (sym there ∙ e))
  at_last a n before (Some b) there v is = go (eqb b a) refl v is
    where
      one : b ≡ a → (v : Verdict) → verdict n ≡ v → First a v (suc n)
      one same v is = record { number = n; below = omega arith; there = there ∙ ap Some same; is = is; none_before = before }

      go : (t : Bool) → eqb b a ≡ t → (v : Verdict) → verdict n ≡ v → Found a (suc n) (cond t (or_later v Undecided) Undecided)
      go true t (Always r) is = one (eqb-true b a t) (Always r) is
      go true t (Never r) is = one (eqb-true b a t) (Never r) is
      go true t Undecided is = silent-more a n before (λ e. rw is tt)
      go true t NoBranch is = silent-more a n before (λ e. rw is tt)
      go false t v is = silent-more a n before (λ e. absurd (eqb-false b a t (some_same (sym there ∙ e))))

  pub found : (a n : ℕ) → Found a n (first_decided a (say_up_to n))
  unfolding say_up_to first_decided
  found a zero = λ j below. absurd (omega (arith, below))
  found a (suc n) = rw (first-append a (say_up_to n) (saying (site n) (verdict n))) (go (first_decided a (say_up_to n)) (found a n))
    where
      go : (w : Verdict) → Found a n w → Found a (suc n) (or_later w (first_decided a (saying (site n) (verdict n))))
      go (Always r) f = further a n (Always r) f
      go (Never r) f = further a n (Never r) f
      go Undecided f = at_last a n f (site n) refl (verdict n) refl
      go NoBranch f = at_last a n f (site n) refl (verdict n) refl

-- ---- what an accepted sheet's records say

-- a verdict that was given
abbrev pub verdict_in : Answer → Verdict
verdict_in (Ok v) = v
verdict_in (Err r) = NoBranch

abbrev pub node_verdict_of : List ℕ → ℕ → Answer
node_verdict_of s k = node_verdict (node_numbered s k) (node_place s k)

pub blocks-say : (s : List ℕ) (n : ℕ) → blocks_say s n ≡ say_up_to (block_site s) (verdict_on s) n
unfolding blocks_say say_up_to
blocks-say s zero = refl
blocks-say s (suc n) = ap (λ (l : List Said). l ++ saying (block_site s n) (verdict_on s n)) (blocks-say s n)

-- what the blocks and the first nodes say, where no node is refused; or the first node that is
abbrev pub nodes_say : List ℕ → ℕ → List Said
nodes_say s n = say_up_to (node_site s) (λ k. verdict_in (node_verdict_of s k)) n

pub record Given (s : List ℕ) (k : ℕ) : Type 0 where
  pub verdict : Verdict
  pub is : node_verdict_of s k ≡ Ok verdict

pub record AllSay (s : List ℕ) (blocks n : ℕ) (said : List Said) : Type 0 where
  pub is : said ≡ blocks_say s blocks ++ nodes_say s n
  pub given : (k : ℕ) → k < n → Given s k

pub record RefusedAt (s : List ℕ) (n : ℕ) (r : Refusal) : Type 0 where
  pub node : ℕ
  pub below : node < n
  pub is : node_verdict_of s node ≡ Err r
  pub given : (k : ℕ) → k < node → Given s k

abbrev pub JudgedAs : List ℕ → ℕ → ℕ → Judged → Type 0
JudgedAs s blocks n (Ok said) = AllSay s blocks n said
JudgedAs s blocks n (Err r) = RefusedAt s n r

pub judged-as : (s : List ℕ) (blocks n : ℕ) → JudgedAs s blocks n (judged_up_to s blocks n)
unfolding judged_up_to say_up_to
judged-as s blocks zero = record { is = sym (append-nil (blocks_say s blocks)); given = λ k below. absurd (omega (arith, below)) }
judged-as s blocks (suc n) = go (judged_up_to s blocks n) (judged-as s blocks n) (node_verdict_of s n) refl
  where
    more : ((k : ℕ) → k < n → Given s k) → Given s n → (k : ℕ) → k < suc n → Given s k
    more before last k below =
        by_test (eqb k n) (λ t. rw (eqb-true k n t) last) (λ t. let apart = eqb-false k n t in before k (omega (arith, below, apart)))

    go : (j : Judged) → JudgedAs s blocks n j → (a : Answer) → node_verdict_of s n ≡ a → JudgedAs s blocks (suc n) (node_too j (node_site s n) a)
    go (Ok said) h (Ok v) is = record {
      is = rw (is, h.is) (append_assoc (blocks_say s blocks) (nodes_say s n) (saying (node_site s n) v));
      given = more h.given (record { verdict = v; is = is });
    }
    go (Ok said) h (Err r) is = record { node = n; below = omega arith; is = is; given = h.given }
    go (Err r) h a is = record { node = h.node; below = omega (arith, h.below); is = h.is; given = h.given }
