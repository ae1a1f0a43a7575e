-- A block, an instruction and a node of an accepted sheet, found by number.
use Prim.Native.Nat.{ℕ, ◌+◌, ◌*◌, ◌≤◌, ◌<◌}
use mathlib.Core.Path.{◌≡◌, refl, sym, ap, ◌∙◌}
use mathlib.Core.List.{List, map}
use mathlib.Core.Bool.{Bool, true, false}
use native.Mathlib.Omega.{arith}
use lib.ListN.{length, get_or, length-map}
use Rattle.std.specs.Prelude.{Ok, Option, is_some}
use Rattle.sheet_field.specs.Field.{little, start_of, WentOn, Place}
use Rattle.isa.specs.declared.Mnemonic.{Mnemonic}
use Rattle.isa.specs.declared.Instruction.{Instruction}
use Rattle.sheet_instruction.specs.Instruction.{instruction_at}
use Rattle.sheet_node.specs.Node.{NodeReading, Node, node_at, node_of}
use Rattle.sheet_node.specs.Promises.{ReadNode}
use Rattle.search.specs.Ascending.{Ascending}
use Rattle.sheet.specs.declared.Block.{Block}
use Rattle.sheet.specs.declared.Sheet.{Sheet}
use Rattle.sheet.specs.Sheet.{no_block, instructions_from, nodes_from, sheet_at, reading_of}
use Rattle.sheet.specs.Index.{over, addresses_of, branches_of, Indexed, InFront}
use Rattle.sheet.proofs.Accepted.{accepted, block_of, block-at, blocks-inside, nodes-back, nodes-next, nodes-nth, node-places-nth, node-places-length}
use Rattle.sheet.proofs.Blocks.{block-whole}
use Rattle.sheet.proofs.Fronts.{one, map_at, instructions-length, places-length, over-length, over-front}
use Rattle.sheet.proofs.Rising.{rising}
use Rattle.sheet.proofs.Again.{again-on, again-is}

module _ (s : List ℕ) (sheet : Sheet) (read : reading_of s ≡ Ok sheet) where
  module _ (number : ℕ) (below : number < sheet.blocks.count) where
    -- a block's bytes are inside
    pub block_inside : sheet.blocks.at + 16 * number + 16 ≤ length s
    block_inside = omega (arith, blocks-inside s sheet read, below)

    pub nth-block-is : {at from to : ℕ} → at ≡ sheet.blocks.at + 16 * number → from ≡ little s at 8 → to ≡ little s (at + 8) 8
        → ◌≡◌ {A = Block} (record { from = from; to = to }) (get_or (sheet_at s).blocks.list number no_block)
    nth-block-is at-is from_is to_is =
        let acc = accepted s sheet read in
        let first = sheet.blocks.at + 16 * number in
        rw (from_is, to_is, at-is, ← acc.blocks)
        (ap block_of (block-whole s first block_inside)
        ∙ sym (block-at s sheet.blocks.at sheet.blocks.count number no_block {a = acc.after_blocks.0} (rw acc.blocks acc.after_blocks.1) below))

  pub addresses-rise : Ascending (addresses_of (sheet_at s).instructions.list)
  addresses-rise =
      let acc = accepted s sheet read in
      rw (← acc.instructions)
      (rising s (Ok sheet.instructions.at) sheet.instructions.count {a = acc.after_instructions.0} (rw acc.instructions acc.after_instructions.1))

  pub instructions-count : length (sheet_at s).instructions.list ≡ sheet.instructions.count
  instructions-count =
      rw (← (accepted s sheet read).instructions) (instructions-length s (Ok sheet.instructions.at) sheet.instructions.count)

  pub places_count : length (sheet_at s).instructions.places ≡ sheet.instructions.count
  places_count = rw (← (accepted s sheet read).instructions) (places-length s (Ok sheet.instructions.at) sheet.instructions.count)

  pub node-places-count : length (sheet_at s).nodes.places ≡ sheet.nodes.count
  node-places-count = rw (← (accepted s sheet read).nodes) (node-places-length s (Ok sheet.nodes.at) sheet.nodes.count)

  module _ (number : ℕ) {places : List ℕ} (places-are : places ≡ (sheet_at s).instructions.places) (below : number < length places) where
    numbered : number < sheet.instructions.count
    numbered = rw (places-are, places_count) at below

    code : Place
    code = Ok sheet.instructions.at

    code-on : WentOn (instructions_from s code sheet.instructions.count).next
    unfolding code
    code-on = let acc = accepted s sheet read in rw acc.instructions acc.after_instructions

    pub nth-instruction-on : WentOn (instruction_at true 0 s (Ok (get_or places number 0))).next
    unfolding code
    nth-instruction-on =
        rw (places-are, ← (accepted s sheet read).instructions) (again-on s code sheet.instructions.count number code-on numbered)

    pub nth-instruction-is : {i : Instruction} → i ≡ (instruction_at true 0 s (Ok (get_or places number 0))).instruction
        → (d : Instruction) → i ≡ get_or (sheet_at s).instructions.list number d
    unfolding code
    nth-instruction-is i-is d =
        rw (i-is, places-are, ← (accepted s sheet read).instructions) (again-is s code sheet.instructions.count number code-on numbered d)

    pub nth-mnemonic-is : {m : Mnemonic} → m ≡ (instruction_at true 0 s (Ok (get_or places number 0))).instruction.mnemonic
        → (d : Instruction) → m ≡ (get_or (sheet_at s).instructions.list number d).mnemonic
    nth-mnemonic-is is d = is ∙ ap (λ (i : Instruction). i.mnemonic) (nth-instruction-is refl d)

    -- a field of it
    nth-field : {A : Type 0} (f : Instruction → A) (e : A) → f (instruction_at true 0 s (Ok (get_or places number 0))).instruction ≡ get_or (map f (sheet_at s).instructions.list) number e
    nth-field f e =
        let l = (sheet_at s).instructions.list in
        let there : number < length l = rw instructions-count numbered in
        let d = one l number there in
        ap f (nth-instruction-is refl d) ∙ sym (map_at f l number d e there)

    pub nth-branch-is : {b : Bool} → b ≡ is_some (instruction_at true 0 s (Ok (get_or places number 0))).instruction.target
        → b ≡ get_or (branches_of (sheet_at s).instructions.list) number false
    unfolding branches_of
    nth-branch-is is = is ∙ nth-field (λ (i : Instruction). is_some i.target) false

    pub nth-target-is : {t : Option ℕ} → t ≡ (instruction_at true 0 s (Ok (get_or places number 0))).instruction.target
        → (d : Instruction) → t ≡ (get_or (sheet_at s).instructions.list number d).target
    nth-target-is is d = is ∙ ap (λ (i : Instruction). i.target) (nth-instruction-is refl d)

  module _ (number : ℕ) {places : List ℕ} {r : NodeReading} (places-are : places ≡ (sheet_at s).nodes.places) (below : number < length places)
      (r-is : r ≡ node_at s (Ok (get_or places number 0))) where
    counted : number < sheet.nodes.count
    counted = rw (places-are, node-places-count) at below

    from : Place
    from = Ok sheet.nodes.at

    stands : WentOn (nodes_from s from number).next
    unfolding from
    stands =
        let acc = accepted s sheet read in
        nodes-back s (Ok sheet.nodes.at) sheet.nodes.count number {a = acc.after_nodes.0} (rw acc.nodes acc.after_nodes.1) (omega (arith, counted))

    here : Ok (get_or places number 0) ≡ (nodes_from s from number).next
    unfolding from
    here =
        let place : get_or places number 0 ≡ start_of (nodes_from s from number).next =
        rw (places-are, ← (accepted s sheet read).nodes) (node-places-nth s from sheet.nodes.count number counted) in
        rw (place, stands.1)

    pub nth-node-read : ReadNode s r
    unfolding from
    nth-node-read =
        let acc = accepted s sheet read in
        let w = nodes-back s from sheet.nodes.count (number + 1) {a = acc.after_nodes.0} (rw acc.nodes acc.after_nodes.1) (omega (arith, counted)) in
        record { at = Ok (get_or places number 0); is = r-is; on = (w.0, ap (λ (n : NodeReading). n.next) r-is ∙ ap (λ (q : Place). (node_at s q).next) here ∙ nodes-next s from number w.1) }

    pub nth-node-is : (d : Node) → node_of s r ≡ get_or (sheet_at s).nodes.list number d
    unfolding from
    nth-node-is d = rw (r-is, here, ← (accepted s sheet read).nodes) (sym (nodes-nth s from sheet.nodes.count number d counted))

  -- the index of the sheet in lists that can hold it
  front : {A : Type 0} (n : ℕ) {list : List A} (before entries : List A) → list ≡ over entries before → length entries ≡ n → n ≤ length before → InFront n list entries
  front n before entries is long fits =
      record { room = rw (is, over-length entries before) fits; are = rw (is, ← long) (over-front entries before (rw long fits)) }

  module _ {a₀ a p₀ p n₀ n : List ℕ} (index : Indexed a₀ a p₀ p n₀ n (sheet_at s)) where
    pub front-addresses : sheet.instructions.count ≤ length a₀ → InFront sheet.instructions.count a (addresses_of (sheet_at s).instructions.list)
    unfolding addresses_of
    front-addresses room =
        front _ _ _ index.instructions.addresses (rw length-map instructions-count) room

    pub front-places : sheet.instructions.count ≤ length p₀ → InFront sheet.instructions.count p (sheet_at s).instructions.places
    front-places room = front _ _ _ index.instructions.places places_count room

    pub front-nodes : sheet.nodes.count ≤ length n₀ → InFront sheet.nodes.count n (sheet_at s).nodes.places
    front-nodes room = front _ _ _ index.nodes node-places-count room
