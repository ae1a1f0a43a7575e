-- Entries at the start of a borrowed list, and the index that the loops keep.
use Prim.Native.Nat.{ℕ, zero, suc, ◌+◌, ◌≤◌, ◌<◌}
use mathlib.Core.Path.{◌≡◌, refl, sym, ap, ◌∙◌}
use mathlib.Core.List.{List, [], ◌∷◌, ◌++◌, map}
use native.Mathlib.Omega.{arith}
use native.Mathlib.Numerals.{add-one}
use borrow.Author.Tests.{ne_eqb}
use lib.Dec.{eqb}
use lib.ListN.{length, get_or, set, take, length-map}
use Rattle.std.specs.Prelude.{Ok, Err, Option, Some, None, is_none, unwrap_or}
use Rattle.refusal.specs.declared.Refusal.{Refusal}
use Rattle.sheet_field.specs.declared.Reader.{Reader}
use Rattle.sheet_field.specs.Field.{Place, FieldReading, start_of, count_at, WentOn}
use Rattle.sheet_field.specs.Reads.{Reads}
use Rattle.sheet_field.proofs.Counted.{counted, nth}
use Rattle.isa.specs.declared.Instruction.{Instruction}
use Rattle.sheet_instruction.specs.Instruction.{InstructionReading, instruction_at}
use Rattle.sheet_node.specs.Node.{node_at}
use Rattle.sheet.specs.declared.Sheet.{Sheet}
use Rattle.sheet.specs.Sheet.{InstructionsRead, NodesRead, instructions_from, blocks_from, nodes_from, sheet_at, reading_of}
use Rattle.sheet.specs.Index.{over, addresses_of, Noted, Indexed}
use Rattle.sheet.proofs.Sections.{instructions-stay, nodes-stay, nodes-more}
use Rattle.sheet.proofs.Accepted.{accepted, node-places-length}

module _ {A : Type 0} where
  pub over-length : (entries before : List A) → length (over entries before) ≡ length before
  unfolding over
  over-length [] before = refl
  over-length (x ∷ entries) [] = refl
  over-length (x ∷ entries) (b ∷ before) = ap suc (over-length entries before)

  -- an entry past the end of the list is not stored
  pub past : (l : List A) (i : ℕ) (x : A) → length l ≤ i → l ≡ set l i x
  past [] i x out = refl
  past (a ∷ l) zero x out = absurd (omega arith)
  past (a ∷ l) (suc i) x out = ap (λ (t : List A). a ∷ t) (past l i x (omega arith))

  -- one entry more
  pub over-more : (entries before : List A) (x : A) → set (over entries before) (length entries) x ≡ over (entries ++ (x ∷ [])) before
  unfolding over
  over-more [] [] x = refl
  over-more [] (b ∷ before) x = refl
  over-more (e ∷ entries) [] x = refl
  over-more (e ∷ entries) (b ∷ before) x = ap (λ (l : List A). e ∷ l) (over-more entries before x)

  -- entries that the list can hold stand at its start
  pub over-front : (entries before : List A) → length entries ≤ length before → take (length entries) (over entries before) ≡ entries
  unfolding over
  over-front [] before fits = refl
  over-front (e ∷ entries) [] fits = absurd (omega arith)
  over-front (e ∷ entries) (b ∷ before) fits = ap (λ (l : List A). e ∷ l) (over-front entries before (omega arith))

  pub map_more : (f : Instruction → A) (l : List Instruction) (x : Instruction) → map f (l ++ (x ∷ [])) ≡ map f l ++ (f x ∷ [])
  map_more f [] x = refl
  map_more f (i ∷ l) x = ap (λ (t : List A). f i ∷ t) (map_more f l x)

-- some instruction of a list that has one
pub one : (l : List Instruction) (k : ℕ) → k < length l → Instruction
one [] k there = absurd (omega arith)
one (x ∷ l) k there = x

-- what a list of instructions' fields has at an index
pub map_at : {A : Type 0} (f : Instruction → A) (l : List Instruction) (k : ℕ) (d : Instruction) (e : A) → k < length l → get_or (map f l) k e ≡ f (get_or l k d)
map_at f [] k d e there = absurd (omega arith)
map_at f (x ∷ l) zero d e there = refl
map_at f (x ∷ l) (suc k) d e there = map_at f l k d e (omega arith)

-- as many entries as instructions
module _ (s : List ℕ) (p : Place) where
  nth-instruction : ℕ → Instruction
  nth-instruction k = (instruction_at (eqb k 0) (instructions_from s p k).last s (instructions_from s p k).next).instruction

  no-instructions : (instructions_from s p 0).list ≡ []
  unfolding instructions_from
  no-instructions = refl

  more-instructions : (k : ℕ) → (instructions_from s p (suc k)).list ≡ (instructions_from s p k).list ++ (nth-instruction k ∷ [])
  unfolding instructions_from nth-instruction
  more-instructions k = refl

  pub instructions-length : (k : ℕ) → length (instructions_from s p k).list ≡ k
  instructions-length = counted (λ j. (instructions_from s p j).list) nth-instruction no-instructions more-instructions

  pub instructions-nth : (k j : ℕ) (none : Instruction) → j < k
      → get_or (instructions_from s p k).list j none ≡ (instruction_at (eqb j 0) (instructions_from s p j).last s (instructions_from s p j).next).instruction
  unfolding nth-instruction
  instructions-nth = nth (λ j. (instructions_from s p j).list) nth-instruction no-instructions more-instructions

  nth-place : ℕ → ℕ
  nth-place k = start_of (instructions_from s p k).next

  no-places : (instructions_from s p 0).places ≡ []
  unfolding instructions_from
  no-places = refl

  more-places : (k : ℕ) → (instructions_from s p (suc k)).places ≡ (instructions_from s p k).places ++ (nth-place k ∷ [])
  unfolding instructions_from nth-place
  more-places k = refl

  pub places-length : (k : ℕ) → length (instructions_from s p k).places ≡ k
  places-length = counted (λ j. (instructions_from s p j).places) nth-place no-places more-places

  pub places-nth : (k j : ℕ) → j < k → get_or (instructions_from s p k).places j 0 ≡ start_of (instructions_from s p j).next
  unfolding nth-place
  places-nth k j lt = nth (λ j. (instructions_from s p j).places) nth-place no-places more-places k j 0 lt

-- an entry more, at the index of its number
entry : {A : Type 0} {list : List A} (before entries : List A) (x : A) (k : ℕ) → list ≡ over entries before → length entries ≡ k
    → set list k x ≡ over (entries ++ (x ∷ [])) before
entry before entries x k is long = rw (is, ← long) (over-more entries before x)

-- what the loop over instructions keeps
pub record Noting (first now : Reader) (k : ℕ) (a₀ a p₀ p : List ℕ) (last : Option ℕ) : Type 0 where
  pub opens : is_none last ≡ eqb k 0
  pub before : unwrap_or last 0 ≡ (instructions_from first.bytes.now (Ok first.at) k).last
  pub same : now.bytes.now ≡ first.bytes.now
  pub place : Ok now.at ≡ (instructions_from first.bytes.now (Ok first.at) k).next
  pub noted : Noted a₀ a p₀ p (instructions_from first.bytes.now (Ok first.at) k)

module _ (first : Reader) where
  pub noting-none : (a p : List ℕ) → Noting first first 0 a a p p None
  unfolding instructions_from over addresses_of
  noting-none a p = record { opens = refl; before = refl; same = refl; place = refl; noted = record { addresses = refl; places = refl } }

  -- one instruction more
  module _ (k : ℕ) {now : Reader} {a₀ a p₀ p : List ℕ} {last : Option ℕ} (f : Noting first now k a₀ a p₀ p last) where
    abbrev done : InstructionsRead
    done = instructions_from first.bytes.now (Ok first.at) k

    read : InstructionReading
    read = instruction_at (eqb k 0) done.last first.bytes.now done.next

    read_is : instruction_at (is_none last) (unwrap_or last 0) now.bytes.now (Ok now.at) ≡ read
    unfolding read
    read_is = rw (f.opens, f.before, f.same, f.place)

    after : (instructions_from first.bytes.now (Ok first.at) (k + 1)).next ≡ read.next
    unfolding instructions_from read
    after = rw (add-one k)

    pub noting-refused : {A B : Type 0} {next : Reader} {n : ℕ} {r : Refusal}
        → Reads {A = A} now next (Err r) (instruction_at (is_none last) (unwrap_or last 0) now.bytes.now (Ok now.at)).next → k < n
        → Reads {A = B} first next (Err r) (instructions_from first.bytes.now (Ok first.at) n).next
    noting-refused {n = n} {r = r} e less =
        let gone : Err r ≡ read.next = rw read_is at e.place in
        record { same = e.same ∙ f.same; place = sym (instructions-stay first.bytes.now (Ok first.at) n (k + 1) r (after ∙ sym gone) (omega arith)) }

    pub noting-more : {address : ℕ} {next : Reader} {a' p' : List ℕ}
        → Reads now next (Ok address) (instruction_at (is_none last) (unwrap_or last 0) now.bytes.now (Ok now.at)).next
        → address ≡ (instruction_at (is_none last) (unwrap_or last 0) now.bytes.now (Ok now.at)).instruction.address
        → a' ≡ set a k address → p' ≡ set p k now.at → Noting first next (k + 1) a₀ a' p₀ p' (Some address)
    unfolding instructions_from addresses_of read
    noting-more {address} taken address_is a-is p-is =
        let the : address ≡ read.instruction.address = rw read_is at address_is in
        record {
          opens = sym (ne_eqb (k + 1) 0 (λ (z : k + 1 ≡ 0). omega arith));
          before = rw (add-one k) the;
          same = taken.same ∙ f.same;
          place = rw read_is at taken.place ∙ sym after;
          noted = rw (add-one k) record {
            addresses = rw (a-is, the, map_more) (entry _ _ _ k f.noted.addresses (rw length-map (instructions-length first.bytes.now (Ok first.at) k)));
            places = rw (p-is, ← f.place) (entry _ _ _ k f.noted.places (places-length first.bytes.now (Ok first.at) k));
          };
        }

  -- the loop over nodes
  pub nodes-none : (n : List ℕ) → n ≡ over (nodes_from first.bytes.now (Ok first.at) 0).places n
  unfolding nodes_from over
  nodes-none n = refl

  module _ {A : Type 0} {x : A} (k : ℕ) {now : Reader} (here : Reads first now (Ok x) (nodes_from first.bytes.now (Ok first.at) k).next) where
    then-node : (node_at now.bytes.now (Ok now.at)).next ≡ (nodes_from first.bytes.now (Ok first.at) (k + 1)).next
    then-node = rw (here.same, here.place) (nodes-more first.bytes.now (Ok first.at) k)

    pub node-read : {B : Type 0} {y : B} {next : Reader} → Reads now next (Ok y) (node_at now.bytes.now (Ok now.at)).next
        → Reads first next (Ok x) (nodes_from first.bytes.now (Ok first.at) (k + 1)).next
    node-read e = record { same = e.same ∙ here.same; place = e.place ∙ then-node }

    pub node-noted : (n₀ : List ℕ) {n n' : List ℕ} → n ≡ over (nodes_from first.bytes.now (Ok first.at) k).places n₀ → n' ≡ set n k now.at
        → n' ≡ over (nodes_from first.bytes.now (Ok first.at) (k + 1)).places n₀
    unfolding nodes_from
    node-noted n₀ before n-is = rw (add-one k, n-is, ← here.place) (entry _ _ _ k before (node-places-length first.bytes.now (Ok first.at) k))

    pub node-refused : {B C : Type 0} {next : Reader} {n : ℕ} {r : Refusal} → Reads {A = B} now next (Err r) (node_at now.bytes.now (Ok now.at)).next → k < n
        → Reads {A = C} first next (Err r) (nodes_from first.bytes.now (Ok first.at) n).next
    node-refused {n = n} {r = r} e less =
        record { same = e.same ∙ here.same; place = sym (nodes-stay first.bytes.now (Ok first.at) n (k + 1) r (sym (e.place ∙ then-node)) (omega arith)) }

-- the index of an accepted sheet, from what its sections hold
pub indexed : (s : List ℕ) {i b n : FieldReading} {code ranges graph : Place} {a₀ a p₀ p n₀ n' : List ℕ}
    → i ≡ count_at 0 2048 s (Ok 0) → code ≡ (instructions_from s i.next i.value).next
    → b ≡ count_at 0 1024 s code → ranges ≡ (blocks_from s b.next b.value).next
    → n ≡ count_at 0 1024 s ranges → graph ≡ (nodes_from s n.next n.value).next
    → (WentOn code → Noted a₀ a p₀ p (instructions_from s i.next i.value))
    → (WentOn graph → n' ≡ over (nodes_from s n.next n.value).places n₀)
    → (sheet : Sheet) → reading_of s ≡ Ok sheet → Indexed a₀ a p₀ p n₀ n' (sheet_at s)
unfolding sheet_at
indexed s {i} {n = n} i-is code_is b-is ranges-is n-is graph_is noted places sheet read =
    let acc = accepted s sheet read in
    let first : (sheet_at s).instructions ≡ instructions_from s i.next i.value = rw i-is in
    let last : (sheet_at s).nodes ≡ nodes_from s n.next n.value = rw (n-is, ranges-is, b-is, code_is, i-is) in
    record {
      instructions = rw first (noted (acc.after_instructions.0, code_is ∙ ap (λ (r : InstructionsRead). r.next) (sym first) ∙ acc.after_instructions.1));
      nodes = rw last (places (acc.after_nodes.0, graph_is ∙ ap (λ (r : NodesRead). r.next) (sym last) ∙ acc.after_nodes.1));
    }
