-- Records in order: blocks, then nodes, up to the first that is refused.
use Prim.Native.Nat.{ℕ, zero, suc, ◌+◌, ◌-◌, ◌≤◌, ◌<◌}
use mathlib.Core.Path.{◌≡◌, refl}
use mathlib.Core.List.{List, [], ◌++◌}
use native.Mathlib.Omega.{arith}
use native.Mathlib.Numerals.{add-one}
use lib.ListN.{length, get_or}
use Rattle.std.specs.Prelude.{Option, Result, Ok, Err}
use Rattle.refusal.specs.declared.Refusal.{Refusal}
use Rattle.search.specs.Ascending.{Ascending}
use Rattle.sheet.specs.Index.{addresses_of}
use Rattle.sheet_field.specs.Field.{WentOn}
use Rattle.sheet.specs.declared.Sheet.{Sheet}
use Rattle.sheet.specs.declared.code.Code.{Code}
use Rattle.sheet.proofs.ByNumber.{addresses-rise, nth-node-read, nth-node-is}
use Rattle.isa.specs.declared.Instruction.{Instruction}
use Rattle.verdict.specs.declared.Verdict.{Verdict}
use Rattle.verdict.specs.Numbers.{Answer}
use Rattle.sheet_node.specs.Node.{NodeReading, node_at, node_of}
use Rattle.sheet.specs.Sheet.{sheet_at, reading_of, no_node, node_numbered, node_place}
use Rattle.verdict_block.specs.Verdict.{verdict_on}
use Rattle.verdict_node.specs.NodeVerdict.{node_verdict}
use Rattle.verdict_node.specs.declared.JudgedNode.{JudgedNode}
use Rattle.verdict_node.specs.Promises.{JudgedIs}
use Rattle.verdict_sheet.specs.Sites.{last_branch, node_site, block_site}
use Rattle.verdict_sheet.specs.Said.{Said, saying, blocks_say, Judged, node_too, judged_up_to}
use Rattle.verdict_sheet.specs.Kept.{SiteIs, kept_at, slots_of, Reached}
use Rattle.verdict_sheet.proofs.Keeping.{keep-saying}

-- the loop over blocks
module _ (s : List ℕ) (code : List Instruction) where
  pub blocks-none : {slots : List ℕ} → slots ≡ slots_of code [] → slots ≡ slots_of code (blocks_say s 0)
  unfolding blocks_say
  blocks-none is = is

  pub blocks_more : (k : ℕ) {slots : List ℕ} → slots ≡ slots_of code (blocks_say s k ++ saying (block_site s k) (verdict_on s k))
      → slots ≡ slots_of code (blocks_say s (k + 1))
  unfolding blocks_say
  blocks_more k is = rw (add-one k) is

-- the node of that number, where it stands
module _ (s : List ℕ) (sheet : Sheet) (read : reading_of s ≡ Ok sheet) (number : ℕ) {nodes : List ℕ} (places : nodes ≡ (sheet_at s).nodes.places)
    (there : number < length nodes) where
  pub stands-whole : WentOn (node_at s (Ok (get_or nodes number 0))).next
  stands-whole = (nth-node-read s sheet read number {places = nodes} {r = node_at s (Ok (get_or nodes number 0))} places there refl).on

  stands : node_of s (node_at s (Ok (get_or nodes number 0))) ≡ node_numbered s number
  stands = nth-node-is s sheet read number {places = nodes} {r = node_at s (Ok (get_or nodes number 0))} places there refl no_node

  -- its answer is that for the node of the number
  pub node-numbered : (r : Result (Unit {0}) Refusal) (after : List ℕ) (said : List Said)
      → Reached (sheet_at s).instructions.list r after
      (node_too (Ok said) (last_branch (sheet_at s).instructions.list (node_of s (node_at s (Ok (get_or nodes number 0)))).addresses)
      (node_verdict (node_of s (node_at s (Ok (get_or nodes number 0)))) (get_or nodes number 0)))
      → Reached (sheet_at s).instructions.list r after
      (node_too (Ok said) (node_site s number) (node_verdict (node_numbered s number) (node_place s number)))
  node-numbered r after said is = rw (← stands, ← places) is

-- the answer for one node
module _ (s : List ℕ) (rises : Ascending (addresses_of (sheet_at s).instructions.list)) (node : NodeReading) (place : ℕ) {given : Answer}
    (given_is : given ≡ node_verdict (node_of s node) place) (said : List Said) where
  pub node_through : (at : Option ℕ) {v : Verdict} {slots after : List ℕ}
      → SiteIs (sheet_at s).instructions.list at (last_branch (sheet_at s).instructions.list (node_of s node).addresses)
      → given ≡ Ok v → after ≡ kept_at slots at v → slots ≡ slots_of (sheet_at s).instructions.list said
      → Reached (sheet_at s).instructions.list (Ok tt) after
      (node_too (Ok said) (last_branch (sheet_at s).instructions.list (node_of s node).addresses) (node_verdict (node_of s node) place))
  node_through at {v} there is after_is before =
      rw (← given_is, is)
      (keep-saying (sheet_at s).instructions.list rises v said at _ there after_is before)

  pub node-refused : {r : Refusal} (slots : List ℕ) → given ≡ Err r
      → Reached (sheet_at s).instructions.list (Err r) slots
      (node_too (Ok said) (last_branch (sheet_at s).instructions.list (node_of s node).addresses) (node_verdict (node_of s node) place))
  node-refused slots is = rw (← given_is, is)

-- the loop over nodes
module _ (s : List ℕ) (blocks : ℕ) where
  pub nodes-none : {slots : List ℕ} → slots ≡ slots_of (sheet_at s).instructions.list (blocks_say s blocks)
      → Reached (sheet_at s).instructions.list (Ok tt) slots (judged_up_to s blocks 0)
  unfolding judged_up_to
  nodes-none is = is

  -- one node more, where none before it was refused
  pub nodes-more : (k : ℕ) (r : Result (Unit {0}) Refusal) (slots after : List ℕ)
      → Reached (sheet_at s).instructions.list (Ok tt) slots (judged_up_to s blocks k)
      → ((said : List Said) → slots ≡ slots_of (sheet_at s).instructions.list said
      → Reached (sheet_at s).instructions.list r after
      (node_too (Ok said) (node_site s k) (node_verdict (node_numbered s k) (node_place s k))))
      → Reached (sheet_at s).instructions.list r after (judged_up_to s blocks (k + 1))
  unfolding judged_up_to
  nodes-more k r slots after before step = rw (add-one k) (go (judged_up_to s blocks k) before)
    where
      go : (j : Judged) → Reached (sheet_at s).instructions.list (Ok tt) slots j
          → Reached (sheet_at s).instructions.list r after (node_too j (node_site s k) (node_verdict (node_numbered s k) (node_place s k)))
      go (Ok said) is = step said is
      go (Err r) is = absurd is

  -- a refusal stays
  further : (k more : ℕ) (r : Refusal) → judged_up_to s blocks k ≡ Err r → judged_up_to s blocks (more + k) ≡ Err r
  unfolding judged_up_to
  further k zero r is = let same : 0 + k ≡ k = omega arith in rw (same) is
  further k (suc more) r is =
      let next : suc more + k ≡ suc (more + k) = omega arith in rw (next, further k more r is)

  stays : (k n : ℕ) (r : Refusal) → k ≤ n → judged_up_to s blocks k ≡ Err r → judged_up_to s blocks n ≡ Err r
  stays k n r order is = let sum : n ≡ (n - k) + k = omega arith in rw sum (further k (n - k) r is)

  -- a refused node is the answer
  pub nodes-refused : (k n : ℕ) (r : Refusal) (slots : List ℕ) → k ≤ n
      → Reached (sheet_at s).instructions.list (Err r) slots (judged_up_to s blocks k)
      → Reached (sheet_at s).instructions.list (Err r) slots (judged_up_to s blocks n)
  nodes-refused k n r slots order is = go (judged_up_to s blocks k) refl is
    where
      go : (j : Judged) → judged_up_to s blocks k ≡ j → Reached (sheet_at s).instructions.list (Err r) slots j
          → Reached (sheet_at s).instructions.list (Err r) slots (judged_up_to s blocks n)
      go (Ok said) j-is here = absurd here
      go (Err q) j-is here = rw (stays k n q order j-is) here

  pub nodes-whole : (k n : ℕ) (slots : List ℕ) → k ≡ n → Reached (sheet_at s).instructions.list (Ok tt) slots (judged_up_to s blocks k)
      → Reached (sheet_at s).instructions.list (Ok tt) slots (judged_up_to s blocks n)
  nodes-whole k n slots all_of is = rw (← all_of) is

-- one node more of an accepted sheet, by what is given for it
module _ (c : Code) (number : ℕ) {nodes : List ℕ} (places : nodes ≡ (sheet_at c.bytes.now).nodes.places) (there : number < length nodes) (blocks : ℕ) (slots : List ℕ)
    (before : Reached (sheet_at c.bytes.now).instructions.list (Ok tt) slots (judged_up_to c.bytes.now blocks number)) where
  pub node-kept : (j : JudgedNode) → JudgedIs (Ok j) c.bytes.now (node_at c.bytes.now (Ok (get_or nodes number 0))) (get_or nodes number 0) → (jump : Option ℕ) {after : List ℕ}
      → SiteIs (sheet_at c.bytes.now).instructions.list jump (last_branch (sheet_at c.bytes.now).instructions.list (node_of c.bytes.now (node_at c.bytes.now (Ok (get_or nodes number 0)))).addresses)
      → after ≡ kept_at slots jump j.verdict → Reached (sheet_at c.bytes.now).instructions.list (Ok tt) after (judged_up_to c.bytes.now blocks (number + 1))
  node-kept j is jump {after} site after_is =
      let s = c.bytes.now in
      let node = node_at s (Ok (get_or nodes number 0)) in
      nodes-more s blocks number (Ok tt) slots after before
      (λ said here. node-numbered s c.sheet c.accepted number places there (Ok tt) after said
      (node_through s (addresses-rise s c.sheet c.accepted) node (get_or nodes number 0) is.answer said jump site refl after_is here))

  pub node-ended : (r : Refusal) → JudgedIs (Err r) c.bytes.now (node_at c.bytes.now (Ok (get_or nodes number 0))) (get_or nodes number 0) → (n : ℕ) → number < n
      → Reached (sheet_at c.bytes.now).instructions.list (Err r) slots (judged_up_to c.bytes.now blocks n)
  node-ended r is n below =
      let s = c.bytes.now in
      let node = node_at s (Ok (get_or nodes number 0)) in
      nodes-refused s blocks (number + 1) n r slots (omega arith)
      (nodes-more s blocks number (Err r) slots slots before
      (λ said here. node-numbered s c.sheet c.accepted number places there (Err r) slots said
      (node-refused s (addresses-rise s c.sheet c.accepted) node (get_or nodes number 0) is.answer said slots refl)))
