-- Laws of the sections: where reading is refused, and one record more.
use Prim.Native.Nat.{ℕ, suc, ◌+◌, ◌*◌, ◌≤◌, ◌<◌}
use mathlib.Core.Path.{◌≡◌, refl, sym, ◌∙◌}
use mathlib.Core.List.{List}
use mathlib.Core.Bool.{Bool, true, false, cond}
use lib.Dec.{leb}
use native.Mathlib.Numerals.{add-one}
use native.Mathlib.Omega.{arith}
use lib.ListN.{length}
use borrow.Author.Tests.{le-leb, lt-leb}
use Rattle.std.specs.Prelude.{Ok, Err}
use Rattle.refusal.specs.declared.Fault.TheVariants.{Ends}
use Rattle.refusal.specs.declared.Refusal.{Refusal}
use Rattle.refusal.specs.Numbers.{refused}
use Rattle.sheet_field.specs.declared.Reader.{Reader}
use Rattle.sheet_field.specs.Field.{Place, FieldReading, field_at, start_of, code_at, check_field, count_at, judge, words_from, read_as}
use Rattle.sheet_field.specs.Reads.{Reads}
use Rattle.sheet_field.proofs.Counted.{stays}
use Rattle.sheet_field.proofs.Fields.{field-taken}
use Rattle.sheet_instruction.specs.Instruction.{registers_from, map_at, address_at, head_at, tail_at, instruction_at}
use Rattle.sheet_expression.specs.Expression.{taken_from, expression_at}
use Rattle.sheet_node.specs.Node.{types_from, statements_from, addresses_from, node_at}
use Rattle.sheet.specs.declared.Section.{Section}
use Rattle.sheet.specs.declared.Sheet.{Sheet}
use Rattle.sheet.specs.Sheet.{Reading, instructions_from, block_at, blocks_from, nodes_from, ended, sheet_at, reading_of}
use Rattle.sheet.specs.Index.{over, Noted, Indexed}
use Rattle.sheet.proofs.Blocks.{blocks-words}

-- a record that is read where reading was refused leaves the refusal
pub instructions-keep : (s : List ℕ) (p : Place) (j : ℕ) (r : Refusal) → (instructions_from s p j).next ≡ Err r → (instructions_from s p (suc j)).next ≡ Err r
unfolding instructions_from instruction_at head_at tail_at map_at address_at code_at check_field field_at registers_from
instructions-keep s p j r e = rw e

pub blocks-keep : (s : List ℕ) (p : Place) (j : ℕ) (r : Refusal) → (blocks_from s p j).next ≡ Err r → (blocks_from s p (suc j)).next ≡ Err r
unfolding blocks_from block_at field_at
blocks-keep s p j r e = rw e

pub nodes-keep : (s : List ℕ) (p : Place) (j : ℕ) (r : Refusal) → (nodes_from s p j).next ≡ Err r → (nodes_from s p (suc j)).next ≡ Err r
unfolding nodes_from node_at count_at check_field field_at types_from statements_from expression_at taken_from addresses_from
nodes-keep s p j r e = rw e

count-keeps : (least most : ℕ) (s : List ℕ) {p : Place} {r : Refusal} → p ≡ Err r → (count_at least most s p).next ≡ Err r
unfolding count_at check_field field_at
count-keeps least most s e = rw e

-- so a loop may end there
pub instructions-stay : (s : List ℕ) (p : Place) (n j : ℕ) (r : Refusal) → (instructions_from s p j).next ≡ Err r → j ≤ n → (instructions_from s p n).next ≡ Err r
instructions-stay s p = stays (λ j. (instructions_from s p j).next) (instructions-keep s p)

pub blocks-stay : (s : List ℕ) (p : Place) (n j : ℕ) (r : Refusal) → (blocks_from s p j).next ≡ Err r → j ≤ n → (blocks_from s p n).next ≡ Err r
blocks-stay s p = stays (λ j. (blocks_from s p j).next) (blocks-keep s p)

pub nodes-stay : (s : List ℕ) (p : Place) (n j : ℕ) (r : Refusal) → (nodes_from s p j).next ≡ Err r → j ≤ n → (nodes_from s p n).next ≡ Err r
nodes-stay s p = stays (λ j. (nodes_from s p j).next) (nodes-keep s p)

-- before the first record
pub none_read : (s : List ℕ) (p : Place) → p ≡ (instructions_from s p 0).next
unfolding instructions_from
none_read s p = refl

-- one record more
pub blocks_more : (s : List ℕ) (p : Place) (k : ℕ) → (block_at s (blocks_from s p k).next).next ≡ (blocks_from s p (k + 1)).next
unfolding blocks_from
blocks_more s p k = rw (add-one k)

pub nodes-more : (s : List ℕ) (p : Place) (k : ℕ) → (node_at s (nodes_from s p k).next).next ≡ (nodes_from s p (k + 1)).next
unfolding nodes_from
nodes-more s p k = rw (add-one k)

-- the answer from the parts
pub reading-is : (s : List ℕ) {i b n : FieldReading} {code ranges graph end : Place} {a c d : ℕ} {r : Reading}
    → i ≡ count_at 0 2048 s (Ok 0) → code ≡ (instructions_from s i.next i.value).next
    → b ≡ count_at 0 1024 s code → ranges ≡ (blocks_from s b.next b.value).next
    → n ≡ count_at 0 1024 s ranges → graph ≡ (nodes_from s n.next n.value).next
    → a ≡ start_of i.next → c ≡ start_of b.next → d ≡ start_of n.next
    → end ≡ ended s graph
    → r ≡ read_as end (λ at. record { instructions = record { count = i.value; at = a }; blocks = record { count = b.value; at = c }; nodes = record { count = n.value; at = d } })
    → r ≡ reading_of s
unfolding reading_of sheet_at
reading-is s i-is code_is b-is ranges-is n-is graph_is a-is c-is d-is end_is r-is =
    rw (r-is, end_is, a-is, c-is, d-is, graph_is, n-is, ranges-is, b-is, code_is, i-is)

-- Where a stage of reading is refused, so is reading.
module _ (s : List ℕ) {r : Refusal} where
  at_nodes : (sheet_at s).nodes.next ≡ Err r → Err r ≡ reading_of s
  unfolding reading_of sheet_at
  at_nodes e = rw e

  at_third : (count_at 0 1024 s (sheet_at s).blocks.next).next ≡ Err r → Err r ≡ reading_of s
  unfolding sheet_at nodes_from
  at_third e = at_nodes (nodes-stay s _ _ 0 r e (omega arith))

  at_blocks : (sheet_at s).blocks.next ≡ Err r → Err r ≡ reading_of s
  at_blocks e = at_third (count-keeps 0 1024 s e)

  at_second : (count_at 0 1024 s (sheet_at s).instructions.next).next ≡ Err r → Err r ≡ reading_of s
  unfolding sheet_at blocks_from
  at_second e = at_blocks (blocks-stay s _ _ 0 r e (omega arith))

  at_instructions : (sheet_at s).instructions.next ≡ Err r → Err r ≡ reading_of s
  at_instructions e = at_second (count-keeps 0 1024 s e)

  at_first : (count_at 0 2048 s (Ok 0)).next ≡ Err r → Err r ≡ reading_of s
  unfolding sheet_at instructions_from
  at_first e = at_instructions (instructions-stay s _ _ 0 r e (omega arith))

-- the check at the end
at_end : (whole : Bool) (end : ℕ) (sheet : Sheet) → ◌≡◌ {A = Reading} (read_as (judge whole Ends end (Ok end)) (λ end. sheet)) (cond whole (Ok sheet) (Err (refused Ends end)))
at_end true end sheet = refl
at_end false end sheet = refl

-- Reading by a reader at the beginning of a sheet, stage by stage: where a stage is refused, and what it yields where none was.
module _ (s : List ℕ) {start : Reader} (bytes : start.bytes.now ≡ s) (zero-at : start.at ≡ 0) where
  pub first_refused : {A : Type 0} {now : Reader} {r : Refusal} → Reads {A = A} start now (Err r) (count_at 0 2048 start.bytes.now (Ok start.at)).next → Err r ≡ reading_of s
  first_refused e = at_first s (sym (rw (bytes, zero-at) at e.place))

  module _ {one : Reader} {i : Section} (i-next : Reads start one (Ok i) (count_at 0 2048 start.bytes.now (Ok start.at)).next)
      (i-count : i.count ≡ (count_at 0 2048 start.bytes.now (Ok start.at)).value) (i-at : i.at ≡ one.at) where
    same-one : one.bytes.now ≡ s
    same-one = i-next.same ∙ bytes

    first-read : count_at 0 2048 s (Ok 0) ≡ record { value = i.count; next = Ok i.at }
    first-read = rw (bytes, zero-at, ← i-at) at (field-taken _ i-next.place i-count)

    instructions-are : (sheet_at s).instructions ≡ instructions_from one.bytes.now (Ok one.at) i.count
    unfolding sheet_at
    instructions-are = rw (first-read, same-one, i-at)

    pub instructions_refused : {A : Type 0} {now : Reader} {r : Refusal} → Reads {A = A} one now (Err r) (instructions_from one.bytes.now (Ok one.at) i.count).next → Err r ≡ reading_of s
    instructions_refused e = at_instructions s (rw instructions-are (sym e.place))

    module _ {U : Type 0} {u : U} {two : Reader} (code-next : Reads one two (Ok u) (instructions_from one.bytes.now (Ok one.at) i.count).next) where
      same-two : two.bytes.now ≡ s
      same-two = code-next.same ∙ same-one

      after_code : (sheet_at s).instructions.next ≡ Ok two.at
      after_code = rw instructions-are (sym code-next.place)

      pub second_refused : {A : Type 0} {now : Reader} {r : Refusal} → Reads {A = A} two now (Err r) (count_at 0 1024 two.bytes.now (Ok two.at)).next → Err r ≡ reading_of s
      second_refused e = at_second s (rw (after_code, ← same-two) (sym e.place))

      module _ {three : Reader} {b : Section} (b-next : Reads two three (Ok b) (count_at 0 1024 two.bytes.now (Ok two.at)).next)
          (b-count : b.count ≡ (count_at 0 1024 two.bytes.now (Ok two.at)).value) (b-at : b.at ≡ three.at) where
        same-three : three.bytes.now ≡ s
        same-three = b-next.same ∙ same-two

        second-read : count_at 0 1024 s (sheet_at s).instructions.next ≡ record { value = b.count; next = Ok b.at }
        second-read = rw (after_code, b-at, ← same-two) (field-taken _ b-next.place b-count)

        blocks-are : (sheet_at s).blocks.next ≡ words_from three.bytes.now (Ok three.at) (2 * b.count)
        unfolding sheet_at
        blocks-are = rw (second-read, same-three, ← b-at) (blocks-words s (Ok b.at) b.count)

        pub blocks_refused : {A : Type 0} {now : Reader} {r : Refusal} → Reads {A = A} three now (Err r) (words_from three.bytes.now (Ok three.at) (2 * b.count)) → Err r ≡ reading_of s
        blocks_refused e = at_blocks s (rw blocks-are (sym e.place))

        module _ {V : Type 0} {v : V} {four : Reader} (ranges-next : Reads three four (Ok v) (words_from three.bytes.now (Ok three.at) (2 * b.count))) where
          same-four : four.bytes.now ≡ s
          same-four = ranges-next.same ∙ same-three

          after_blocks : (sheet_at s).blocks.next ≡ Ok four.at
          after_blocks = rw blocks-are (sym ranges-next.place)

          pub third_refused : {A : Type 0} {now : Reader} {r : Refusal} → Reads {A = A} four now (Err r) (count_at 0 1024 four.bytes.now (Ok four.at)).next → Err r ≡ reading_of s
          third_refused e = at_third s (rw (after_blocks, ← same-four) (sym e.place))

          module _ {five : Reader} {n : Section} (n-next : Reads four five (Ok n) (count_at 0 1024 four.bytes.now (Ok four.at)).next)
              (n-count : n.count ≡ (count_at 0 1024 four.bytes.now (Ok four.at)).value) (n-at : n.at ≡ five.at) where
            same-five : five.bytes.now ≡ s
            same-five = n-next.same ∙ same-four

            third-read : count_at 0 1024 s (sheet_at s).blocks.next ≡ record { value = n.count; next = Ok n.at }
            third-read = rw (after_blocks, n-at, ← same-four) (field-taken _ n-next.place n-count)

            nodes-are : (sheet_at s).nodes ≡ nodes_from five.bytes.now (Ok five.at) n.count
            unfolding sheet_at
            nodes-are = rw (third-read, same-five, n-at)

            pub nodes_refused : {A : Type 0} {now : Reader} {r : Refusal} → Reads {A = A} five now (Err r) (nodes_from five.bytes.now (Ok five.at) n.count).next → Err r ≡ reading_of s
            nodes_refused e = at_nodes s (rw nodes-are (sym e.place))

            pub indexed : {a₀ a p₀ p n₀ n' : List ℕ} → Noted a₀ a p₀ p (instructions_from one.bytes.now (Ok one.at) i.count)
                → n' ≡ over (nodes_from five.bytes.now (Ok five.at) n.count).places n₀ → Indexed a₀ a p₀ p n₀ n' (sheet_at s)
            indexed noted places = record { instructions = rw instructions-are noted; nodes = rw nodes-are places }

            module _ {W : Type 0} {w : W} {last : Reader} (nodes-next : Reads five last (Ok w) (nodes_from five.bytes.now (Ok five.at) n.count).next) where
              abbrev the_sheet : Sheet
              the_sheet = record { instructions = i; blocks = b; nodes = n }

              reading_judged : reading_of s ≡ cond (leb (length s) last.at) (Ok the_sheet) (Err (refused Ends last.at))
              unfolding reading_of sheet_at
              reading_judged =
                  let after_nodes : (sheet_at s).nodes.next ≡ Ok last.at = rw nodes-are (sym nodes-next.place) in
                  rw (after_nodes, third-read, second-read, first-read) (at_end (leb (length s) last.at) last.at the_sheet)

              pub read_whole : length s ≤ last.at → Ok the_sheet ≡ reading_of s
              read_whole le = sym (rw (le-leb (length s) last.at le) at reading_judged)

              pub left_over : last.at < length s → Err (refused Ends last.at) ≡ reading_of s
              left_over lt = sym (rw (lt-leb (length s) last.at lt) at reading_judged)
