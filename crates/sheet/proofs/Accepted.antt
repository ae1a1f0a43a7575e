-- An accepted sheet: reading went on through every section, and the addresses rise strictly.
use Prim.Native.Nat.{ℕ, zero, suc, ◌+◌, ◌*◌, ◌≤◌, ◌<◌}
use mathlib.Core.Path.{◌≡◌, refl, ap, ◌∙◌}
use mathlib.Core.List.{List, [], ◌∷◌, ◌++◌}
use native.Mathlib.Omega.{arith}
use lib.ListN.{length, get_or}
use Rattle.std.specs.Prelude.{Ok}
use Rattle.refusal.specs.declared.Fault.TheVariants.{Ends}
use Rattle.sheet_field.specs.Field.{start_of, count_at, WentOn, Place}
use Rattle.sheet_field.proofs.Fields.{judge-at, field-at, count_at_lem, count_most, count-on, read_ok}
use native.Mathlib.Numerals.{add-one}
use Rattle.sheet_node.specs.Node.{Node, node_at, node_of}
use Rattle.sheet_field.proofs.Counted.{back, counted, nth}
use Rattle.sheet.proofs.Sections.{instructions-keep, blocks-keep, nodes-keep}
use Rattle.sheet.specs.declared.Sheet.{Sheet}
use Rattle.sheet.specs.declared.Block.{Block}
use Rattle.sheet.specs.Sheet.{instructions_from, BlockReading, block_at, blocks_from, nodes_from, sheet_at, reading_of}

pub instructions-on : (s : List ℕ) (p : Place) (k : ℕ) {a : ℕ} → (instructions_from s p k).next ≡ Ok a → WentOn p
unfolding instructions_from
instructions-on s p k e = back (λ j. (instructions_from s p j).next) (instructions-keep s p) k 0 e (omega arith)

block_on : (s : List ℕ) (p : Place) {a : ℕ} → (block_at s p).next ≡ Ok a → WentOn p
unfolding block_at
block_on s p e =
    let to = field-at 8 s _ e in
    let from = field-at 8 s p to.there in
    (from.from, from.there)

pub blocks-on : (s : List ℕ) (p : Place) (k : ℕ) {a : ℕ} → (blocks_from s p k).next ≡ Ok a → WentOn p
unfolding blocks_from
blocks-on s p k e = back (λ j. (blocks_from s p j).next) (blocks-keep s p) k 0 e (omega arith)

pub nodes-on : (s : List ℕ) (p : Place) (k : ℕ) {a : ℕ} → (nodes_from s p k).next ≡ Ok a → WentOn p
unfolding nodes_from
nodes-on s p k e = back (λ j. (nodes_from s p j).next) (nodes-keep s p) k 0 e (omega arith)

-- what an accepted sheet is: each section starts at the offset that reading gives, and its records were read whole
pub record Accepted (s : List ℕ) (sheet : Sheet) : Type 0 where
  pub is : (sheet_at s).sheet ≡ sheet
  pub instructions : instructions_from s (Ok sheet.instructions.at) sheet.instructions.count ≡ (sheet_at s).instructions
  pub blocks : blocks_from s (Ok sheet.blocks.at) sheet.blocks.count ≡ (sheet_at s).blocks
  pub nodes : nodes_from s (Ok sheet.nodes.at) sheet.nodes.count ≡ (sheet_at s).nodes
  pub after_instructions : WentOn (sheet_at s).instructions.next
  pub after_blocks : WentOn (sheet_at s).blocks.next
  pub after_nodes : WentOn (sheet_at s).nodes.next
  pub few : sheet.instructions.count ≤ 2048
  pub few_nodes : sheet.nodes.count ≤ 1024
  pub graph : WentOn (count_at 0 1024 s (sheet_at s).blocks.next).next

start_is : {p : Place} {b : ℕ} → p ≡ Ok b → Ok (start_of p) ≡ p
start_is e = rw e

pub accepted : (s : List ℕ) (sheet : Sheet) → reading_of s ≡ Ok sheet → Accepted s sheet
unfolding reading_of sheet_at
accepted s sheet e =
    let i = count_at 0 2048 s (Ok 0) in
    let code = instructions_from s i.next i.value in
    let b = count_at 0 1024 s code.next in
    let ranges = blocks_from s b.next b.value in
    let n = count_at 0 1024 s ranges.next in
    let graph = nodes_from s n.next n.value in
    let whole = read_ok (sheet_at s).end (λ end. (sheet_at s).sheet) e in
    let end = judge-at _ Ends (start_of graph.next) graph.next whole.1 in
    let graph-on = nodes-on s n.next n.value end.1 in
    let n-on = count-on 0 1024 s ranges.next graph-on.1 in
    let ranges-on = blocks-on s b.next b.value n-on.1 in
    let b-on = count-on 0 1024 s code.next ranges-on.1 in
    let code-on = instructions-on s i.next i.value b-on.1 in
    rw whole.2 record {
      is = refl;
      instructions = rw (start_is code-on.1);
      blocks = rw (start_is ranges-on.1);
      nodes = rw (start_is graph-on.1);
      after_instructions = b-on;
      after_blocks = n-on;
      after_nodes = (whole.0, end.1);
      few = count_most 0 2048 s (Ok 0);
      few_nodes = count_most 0 1024 s ranges.next;
      graph = graph-on;
    }

block-next : (s : List ℕ) (b : ℕ) {a : ℕ} → (block_at s (Ok b)).next ≡ Ok a → a ≡ b + 16
unfolding block_at
block-next s b {a} e =
    let to = field-at 8 s _ e in
    let from = field-at 8 s (Ok b) to.there in
    let same : b ≡ from.from = cc from.there in
    omega (arith, to.after, from.after)

-- the blocks stand 16 bytes apart
pub blocks-place : (s : List ℕ) (b k : ℕ) {a : ℕ} → (blocks_from s (Ok b) k).next ≡ Ok a → a ≡ b + 16 * k
unfolding blocks_from
blocks-place s b zero {a} e = let same : b ≡ a = cc in omega arith
blocks-place s b (suc k) e =
    let w = block_on s (blocks_from s (Ok b) k).next e in
    let before = blocks-place s b k w.1 in
    omega (arith, before, block-next s w.0 (rw w.1 at e))

abbrev pub block_of : BlockReading → Block
block_of f = record { from = f.from; to = f.to }

module _ (s : List ℕ) (p : Place) where
  pub blocks-back : (k j : ℕ) {a : ℕ} → (blocks_from s p k).next ≡ Ok a → j ≤ k → WentOn (blocks_from s p j).next
  blocks-back = back (λ j. (blocks_from s p j).next) (blocks-keep s p)

  nth-block : ℕ → Block
  nth-block j = block_of (block_at s (blocks_from s p j).next)

  no_blocks : (blocks_from s p 0).list ≡ []
  unfolding blocks_from
  no_blocks = refl

  more-blocks : (k : ℕ) → (blocks_from s p (suc k)).list ≡ (blocks_from s p k).list ++ (nth-block k ∷ [])
  unfolding blocks_from nth-block
  more-blocks k = refl

  pub blocks-length : (k : ℕ) → length (blocks_from s p k).list ≡ k
  blocks-length = counted (λ j. (blocks_from s p j).list) nth-block no_blocks more-blocks

  pub blocks-nth : (k j : ℕ) (none : Block) → j < k → get_or (blocks_from s p k).list j none ≡ block_of (block_at s (blocks_from s p j).next)
  unfolding nth-block
  blocks-nth = nth (λ j. (blocks_from s p j).list) nth-block no_blocks more-blocks

-- the block of a number stands at its offset
pub block-at : (s : List ℕ) (b k j : ℕ) (none : Block) {a : ℕ} → (blocks_from s (Ok b) k).next ≡ Ok a → j < k
    → get_or (blocks_from s (Ok b) k).list j none ≡ block_of (block_at s (Ok (b + 16 * j)))
block-at s b k j none e lt =
    let w = blocks-back s (Ok b) k j e (omega arith) in
    let here : (blocks_from s (Ok b) j).next ≡ Ok (b + 16 * j) = w.1 ∙ ap Ok (blocks-place s b j w.1) in
    rw (← here) (blocks-nth s (Ok b) k j none lt)

-- a count that was read whole stands inside the sheet
nodes-count : (s : List ℕ) (a : ℕ) {p : Place} → WentOn (count_at 0 1024 s p).next → p ≡ Ok a → a + 2 ≤ length s
nodes-count s a {p} on there =
    let w = (count_at_lem 0 1024 s p on.1).whole in
    let same : w.from ≡ a = cc w.there in
    omega (arith, w.inside)

-- the blocks of an accepted sheet stand inside it
pub blocks-inside : (s : List ℕ) (sheet : Sheet) → reading_of s ≡ Ok sheet
    → sheet.blocks.at + 16 * sheet.blocks.count + 2 ≤ length s
blocks-inside s sheet e =
    let acc = accepted s sheet e in
    let place = blocks-place s sheet.blocks.at sheet.blocks.count {a = acc.after_blocks.0} (rw acc.blocks acc.after_blocks.1) in
    let w = nodes-count s acc.after_blocks.0 acc.graph acc.after_blocks.1 in
    omega (arith, place, w)

pub nodes-next : (s : List ℕ) (p : Place) (k : ℕ) {a : ℕ} → (nodes_from s p (k + 1)).next ≡ Ok a → (node_at s (nodes_from s p k).next).next ≡ Ok a
unfolding nodes_from
nodes-next s p k e = rw (add-one k) at e

module _ (s : List ℕ) (p : Place) where
  pub nodes-back : (k j : ℕ) {a : ℕ} → (nodes_from s p k).next ≡ Ok a → j ≤ k → WentOn (nodes_from s p j).next
  nodes-back = back (λ j. (nodes_from s p j).next) (nodes-keep s p)

  nth-node : ℕ → Node
  nth-node j = node_of s (node_at s (nodes_from s p j).next)

  no-nodes : (nodes_from s p 0).list ≡ []
  unfolding nodes_from
  no-nodes = refl

  more-nodes : (k : ℕ) → (nodes_from s p (suc k)).list ≡ (nodes_from s p k).list ++ (nth-node k ∷ [])
  unfolding nodes_from nth-node
  more-nodes k = refl

  pub nodes-nth : (k j : ℕ) (none : Node) → j < k → get_or (nodes_from s p k).list j none ≡ node_of s (node_at s (nodes_from s p j).next)
  unfolding nth-node
  nodes-nth = nth (λ j. (nodes_from s p j).list) nth-node no-nodes more-nodes

  nth-place : ℕ → ℕ
  nth-place j = start_of (nodes_from s p j).next

  no-places : (nodes_from s p 0).places ≡ []
  unfolding nodes_from
  no-places = refl

  more-places : (k : ℕ) → (nodes_from s p (suc k)).places ≡ (nodes_from s p k).places ++ (nth-place k ∷ [])
  unfolding nodes_from nth-place
  more-places k = refl

  pub node-places-length : (k : ℕ) → length (nodes_from s p k).places ≡ k
  node-places-length = counted (λ j. (nodes_from s p j).places) nth-place no-places more-places

  pub node-places-nth : (k j : ℕ) → j < k → get_or (nodes_from s p k).places j 0 ≡ start_of (nodes_from s p j).next
  unfolding nth-place
  node-places-nth k j lt = nth (λ j. (nodes_from s p j).places) nth-place no-places more-places k j 0 lt
