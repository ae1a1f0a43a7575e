-- The block or node that decides a branch, by the public answers: the verdict that the listing takes for a branch is that of the first record that
-- decides it, and where it takes none, no record decides it.
use Prim.Native.Nat.{ℕ, ◌<◌}
use mathlib.Core.Path.{◌≡◌, sym, ap, ◌∙◌}
use mathlib.Core.List.{List, ◌++◌}
use Rattle.std.specs.Prelude.{Option, Some}
use mathlib.Core.Logic.{◌⊎◌, inl, inr, ⊎_elim}
use native.Mathlib.Omega.{arith}
use lib.Dec.{ltb}
use borrow.Author.Tests.{ltb-true, ltb-false, lt-ltb}
use Rattle.std.specs.Prelude.{Ok}
use Rattle.laws.proofs.Booleans.{by_test}
use Rattle.verdict.specs.declared.Verdict.{Verdict}
use Rattle.verdict.specs.declared.Verdict.TheVariants.{Always, Never, Undecided, NoBranch}
use Rattle.verdict.specs.Numbers.{verdict_numbers, answer_numbers, Answer}
use Rattle.verdict.specs.Numbers.Numbers.{decision}
use Rattle.sheet.specs.declared.Sheet.{Sheet}
use Rattle.sheet.specs.Sheet.{reading_of}
use Rattle.verdict_block.specs.Verdict.{verdict_on}
use Rattle.verdict_sheet.specs.Sites.{block_site, node_site}
use Rattle.verdict_sheet.specs.Said.{Said, blocks_say, or_later, first_decided}
use Rattle.answer_block.specs.Block.{block_answer}
use Rattle.answer_node.specs.Node.{node_answer}
use Rattle.theorems.specs.Runs.{Source, answer_for}
use Rattle.theorems.specs.Runs.Source.{block, node}
use Rattle.theorems.specs.Lines.{Before}
use Rattle.theorems.proofs.Apart.{no-decision}
use Rattle.theorems.proofs.First.{undeciding-none, first-append, say_up_to, First, Found, Silent, found, blocks-say, verdict_in, node_verdict_of, nodes_say, Given}

-- the branch that the code finds for a block or a node
abbrev pub site_of : List ℕ → Source → Option ℕ
site_of s (block number) = block_site s number
site_of s (node number) = node_site s number

-- the answers for records of an accepted sheet
module _ (s : List ℕ) (sheet : Sheet) (read : reading_of s ≡ Ok sheet) where
  pub block-answer : (k : ℕ) → k < sheet.blocks.count → block_answer s k ≡ verdict_numbers (verdict_on s k)
  unfolding block_answer
  block-answer k below = rw (read, lt-ltb k sheet.blocks.count below)

  pub node-answer : (k : ℕ) → k < sheet.nodes.count → node_answer s k ≡ answer_numbers (node_verdict_of s k)
  unfolding node_answer
  node-answer k below = rw (read, lt-ltb k sheet.nodes.count below)

  -- a number that is decided is in range
  pub block-there : (k value reason : ℕ) → block_answer s k ≡ decision value reason → k < sheet.blocks.count
  unfolding block_answer
  block-there k value reason e =
      by_test (ltb k sheet.blocks.count) (λ t. ltb-true k sheet.blocks.count t) (λ t. no-decision (rw (read, t) at e))

  pub node-there : (k value reason : ℕ) → node_answer s k ≡ decision value reason → k < sheet.nodes.count
  unfolding node_answer
  node-there k value reason e =
      by_test (ltb k sheet.nodes.count) (λ t. ltb-true k sheet.nodes.count t) (λ t. no-decision (rw (read, t) at e))

-- who decides the branch at an address
pub record Decider (s : List ℕ) (a : ℕ) (v : Verdict) : Type 0 where
  pub from : Source
  pub answer-is : answer_for s from ≡ verdict_numbers v
  pub site : site_of s from ≡ Some a
  pub first : (other : Source) → Before other from → site_of s other ≡ Some a → (value reason : ℕ) → answer_for s other ≡ decision value reason → ⊥

abbrev pub Nobody : List ℕ → ℕ → Type 0
Nobody s a = (other : Source) → site_of s other ≡ Some a → (value reason : ℕ) → answer_for s other ≡ decision value reason → ⊥

abbrev pub Decided : List ℕ → ℕ → Verdict → Type 0
Decided s a (Always r) = Decider s a (Always r)
Decided s a (Never r) = Decider s a (Never r)
Decided s a Undecided = Nobody s a
Decided s a NoBranch = Nobody s a

module _ (s : List ℕ) (sheet : Sheet) (read : reading_of s ≡ Ok sheet) (given : (k : ℕ) → k < sheet.nodes.count → Given s k) (a : ℕ) where
  abbrev verdict_at : ℕ → Verdict
  verdict_at k = verdict_in (node_verdict_of s k)

  abbrev BlocksSilent : Type 0
  BlocksSilent = (k : ℕ) → k < sheet.blocks.count → Silent (block_site s) (verdict_on s) a k

  abbrev NodesSilent : ℕ → Type 0
  NodesSilent n = (k : ℕ) → k < n → Silent (node_site s) verdict_at a k

  node-numbers : (k : ℕ) → k < sheet.nodes.count → node_answer s k ≡ verdict_numbers (verdict_at k)
  node-numbers k below =
      let g = given k below in
      node-answer s sheet read k below ∙ (ap answer_numbers g.is ∙ sym (ap (λ (x : Answer). verdict_numbers (verdict_in x)) g.is))

  block-silent : (k value reason : ℕ) → (k < sheet.blocks.count → Silent (block_site s) (verdict_on s) a k) → block_site s k ≡ Some a
      → block_answer s k ≡ decision value reason → ⊥
  block-silent k value reason silent site e =
      let below = block-there s sheet read k value reason e in
      undeciding-none (verdict_on s k) (silent below site) (sym (block-answer s sheet read k below) ∙ e)

  node-silent : (k value reason : ℕ) → (k < sheet.nodes.count → Silent (node_site s) verdict_at a k) → node_site s k ≡ Some a
      → node_answer s k ≡ decision value reason → ⊥
  node-silent k value reason silent site e =
      let below = node-there s sheet read k value reason e in
      undeciding-none (verdict_at k) (silent below site) (sym (node-numbers k below) ∙ e)

  by-block : (v : Verdict) → First (block_site s) (verdict_on s) a v sheet.blocks.count → Decider s a v
  by-block v f = record {
    from = block f.number;
    answer-is = block-answer s sheet read f.number f.below ∙ ap verdict_numbers f.is;
    site = f.there;
    first = before;
  }
    where
      before : (other : Source) → Before other (block f.number) → site_of s other ≡ Some a → (value reason : ℕ)
          → answer_for s other ≡ decision value reason → ⊥
      before (block j) earlier site value reason e = block-silent j value reason (λ below. f.none_before j earlier) site e
      before (node j) earlier site value reason e = earlier

  by-node : BlocksSilent → (v : Verdict) → First (node_site s) verdict_at a v sheet.nodes.count → Decider s a v
  by-node silent v f = record {
    from = node f.number;
    answer-is = node-numbers f.number f.below ∙ ap verdict_numbers f.is;
    site = f.there;
    first = before;
  }
    where
      before : (other : Source) → Before other (node f.number) → site_of s other ≡ Some a → (value reason : ℕ)
          → answer_for s other ≡ decision value reason → ⊥
      before (block j) earlier site value reason e = block-silent j value reason (silent j) site e
      before (node j) earlier site value reason e = node-silent j value reason (λ below. f.none_before j earlier) site e

  nobody : BlocksSilent → NodesSilent sheet.nodes.count → Nobody s a
  nobody silent none (block j) site value reason e = block-silent j value reason (silent j) site e
  nobody silent none (node j) site value reason e = node-silent j value reason (none j) site e

  -- after silent blocks the nodes decide
  after-blocks : BlocksSilent → (v : Verdict) → Found (node_site s) verdict_at a sheet.nodes.count v → Decided s a v
  after-blocks silent (Always r) f = by-node silent (Always r) f
  after-blocks silent (Never r) f = by-node silent (Never r) f
  after-blocks silent Undecided f = nobody silent f
  after-blocks silent NoBranch f = nobody silent f

  both : (w v : Verdict) → Found (block_site s) (verdict_on s) a sheet.blocks.count w → Found (node_site s) verdict_at a sheet.nodes.count v
      → Decided s a (or_later w v)
  both (Always r) v f g = by-block (Always r) f
  both (Never r) v f g = by-block (Never r) f
  both Undecided v f g = after-blocks f v g
  both NoBranch v f g = after-blocks f v g

  -- The verdict that the listing takes for a branch, and who gives it.
  pub decided : (said : List Said) → said ≡ blocks_say s sheet.blocks.count ++ nodes_say s sheet.nodes.count → Decided s a (first_decided a said)
  decided said is =
      rw (is, first-append a (blocks_say s sheet.blocks.count) (nodes_say s sheet.nodes.count), blocks-say s sheet.blocks.count)
      (both (first_decided a (say_up_to (block_site s) (verdict_on s) sheet.blocks.count)) (first_decided a (nodes_say s sheet.nodes.count))
      (found (block_site s) (verdict_on s) a sheet.blocks.count) (found (node_site s) verdict_at a sheet.nodes.count))

-- ---- one decider

abbrev Order : Source → Source → Type 0
Order x y = Before x y ⊎ (Before y x ⊎ (x ≡ y))

compared : (j k : ℕ) → (j < k) ⊎ ((k < j) ⊎ (j ≡ k))
compared j k =
    by_test (ltb j k) (λ t. inl (ltb-true j k t))
    (λ t. by_test (ltb k j) (λ u. inr (inl (ltb-true k j u))) (λ u. let p = ltb-false j k t in let q = ltb-false k j u in inr (inr (omega (arith, p, q)))))

order : (x y : Source) → Order x y
order (block j) (block k) = ⊎_elim (λ h. inl h) (λ h. ⊎_elim (λ h. inr (inl h)) (λ h. inr (inr (ap block h))) h) (compared j k)
order (block j) (node k) = inl tt
order (node j) (block k) = inr (inl tt)
order (node j) (node k) = ⊎_elim (λ h. inl h) (λ h. ⊎_elim (λ h. inr (inl h)) (λ h. inr (inr (ap node h))) h) (compared j k)

-- Two that decide a branch, neither of them after another, give one answer.
pub one-decider : (s : List ℕ) (a : ℕ) (x y : Source) (p q value reason : ℕ)
    → site_of s x ≡ Some a → answer_for s x ≡ decision p q
    → ((other : Source) → Before other x → site_of s other ≡ Some a → (value reason : ℕ) → answer_for s other ≡ decision value reason → ⊥)
    → site_of s y ≡ Some a → answer_for s y ≡ decision value reason
    → ((other : Source) → Before other y → site_of s other ≡ Some a → (value reason : ℕ) → answer_for s other ≡ decision value reason → ⊥)
    → decision p q ≡ decision value reason
one-decider s a x y p q value reason there is first there' is' first' =
    ⊎_elim (λ h. absurd (first' x h there p q is))
    (λ h. ⊎_elim (λ h. absurd (first y h there' value reason is')) (λ h. sym is ∙ (ap (answer_for s) h ∙ is')) h)
    (order x y)
