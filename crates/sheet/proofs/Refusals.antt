-- Every refusal of reading has a number from 1 to 9, and an offset that is not beyond the sheet's end. Assumes nothing.
-- Each stage keeps that the offset it comes to is within the sheet, and a refusal stands at an offset that an earlier stage came to.
use Prim.Native.Nat.{ℕ, zero, suc, ◌+◌, ◌≤◌}
use mathlib.Core.Path.{◌≡◌, refl}
use mathlib.Core.List.{List}
use mathlib.Core.Bool.{Bool, true, false, cond}
use native.Mathlib.Omega.{arith}
use lib.Dec.{leb, eqb}
use lib.ListN.{length}
use borrow.Author.Tests.{leb-true}
use Rattle.std.specs.Prelude.{Ok, Err}
use Rattle.refusal.specs.declared.Fault.{Fault}
use Rattle.refusal.specs.declared.Fault.TheVariants.{Ends, Code, Count, Address, Register, Instruction, Tree, Constant, Typing}
use Rattle.refusal.specs.declared.Refusal.{Refusal}
use Rattle.refusal.specs.Numbers.{number_of, refused}
use Rattle.sheet_field.specs.Field.{Place, FieldReading, little, field_at, start_of, judge, check_field, code_at, count_at, read_as}
use Rattle.sheet_instruction.specs.Instruction.{OperandReading, Registers, register_at, operand_at, with_register, registers_from, registers_at, optional_registers, optional_operand, bit_of, map_at, address_at, head_at, tail_at, instruction_at}
use Rattle.sheet_expression.specs.Expression.{has_argument, argument_at, constant_at, record_at, taken_more, taken_from, expression_at}
use Rattle.sheet_node.specs.Node.{StatementRead, map_at as statement_map_at, assignment_at, statement_at, types_from, statements_from, addresses_from, node_at}
use Rattle.sheet.specs.Sheet.{instructions_from, block_at, blocks_from, nodes_from, sheet_at, reading_of}

-- reading's refusals have the numbers 1 to 9
abbrev pub ByReading : ℕ → Type 0
ByReading k = (1 ≤ k) × (k ≤ 9)

-- a refusal of a sheet of that length
pub record OfReading (size : ℕ) (r : Refusal) : Type 0 where
  pub number : ByReading (number_of r.fault)
  pub place : r.at ≤ size

abbrev Within : ℕ → Place → Type 0
Within size (Ok at) = at ≤ size
Within size (Err r) = OfReading size r

abbrev after : FieldReading → Place
after f = f.next

module _ (s : List ℕ) where
  -- reading came to an offset of the sheet, or was refused at one
  record Placed (p : Place) : Type 0 where
    within : Within (length s) p

  start : (p : Place) → Placed p → start_of p ≤ length s
  start (Ok at) h = h.within
  start (Err r) h = h.within.place

  judged : (ok : Bool) (fault : Fault) (at : ℕ) (p : Place) → ByReading (number_of fault) → at ≤ length s → Placed p → Placed (judge ok fault at p)
  judged true fault at (Ok next) n le h = h
  judged false fault at (Ok next) n le h = record { within = record { number = n; place = le } }
  judged ok fault at (Err r) n le h = h

  -- one of two, each with an offset
  either : {A : Type 0} (next : A → Place) (b : Bool) (x y : A) → Placed (next x) → Placed (next y) → Placed (next (cond b x y))
  either next true x y h k = h
  either next false x y h k = k

  -- fields
  field : (n : ℕ) (p : Place) → Placed p → Placed (field_at n s p).next
  unfolding field_at
  field n (Ok at) h = go (leb (at + n) (length s)) refl
    where
      go : (t : Bool) → leb (at + n) (length s) ≡ t
          → Placed (after (cond (leb (at + n) (length s)) (record { value = little s at n; next = Ok (at + n) }) (record { value = 0; next = Err (refused Ends at) })))
      go true e = rw e record { within = leb-true (at + n) (length s) e }
      go false e = rw e record { within = record { number = (omega arith, omega arith); place = h.within } }
  field n (Err r) h = h

  code : (limit : ℕ) (p : Place) → Placed p → Placed (code_at limit s p).next
  unfolding code_at check_field
  code limit p h = judged _ Code _ _ (omega arith, omega arith) (start p h) (field 1 p h)

  count : (least most : ℕ) (p : Place) → Placed p → Placed (count_at least most s p).next
  unfolding count_at check_field
  count least most p h = judged _ Count _ _ (omega arith, omega arith) (start p h) (field 2 p h)

  -- instructions
  register : (p : Place) → Placed p → Placed (register_at s p).next
  unfolding register_at
  register p h = judged _ Register _ _ (omega arith, omega arith) (start p h) (field 1 _ (field 1 _ (field 1 _ (field 1 p h))))

  operand : (p : Place) → Placed p → Placed (operand_at s p).next
  unfolding operand_at
  operand p h =
      let k = code 3 p h in
      let kind = code_at 3 s p in
      either (λ (f : OperandReading). f.next) (eqb kind.value 0) _ _ (register kind.next k)
      (either (λ (f : OperandReading). f.next) (eqb kind.value 1) _ _ (field 8 kind.next k) k)

  registers : (p : Place) (k : ℕ) → Placed p → Placed (registers_from s p k).next
  unfolding registers_from with_register
  registers p zero h = h
  registers p (suc k) h = register (registers_from s p k).next (registers p k h)

  written : (p : Place) → Placed p → Placed (registers_at s p).next
  unfolding registers_at
  written p h = registers (count_at 0 8 s p).next (count_at 0 8 s p).value (count 0 8 p h)

  head : (first : Bool) (last : ℕ) (p : Place) → Placed p → Placed (head_at first last s p).next
  unfolding head_at map_at address_at check_field
  head first last p h =
      let m = judged _ Code _ _ (omega arith, omega arith) (start p h) (field 1 p h) in
      let a = judged _ Address _ _ (omega arith, omega arith) (start (map_at s p).next m) (field 8 (map_at s p).next m) in
      let n = code 35 (address_at first last s (map_at s p).next).next a in
      either after (bit_of (map_at s p).value 1) _ _ (field 8 _ n) n

  tail : (map : ℕ) (p : Place) → Placed p → Placed (tail_at map s p).next
  unfolding tail_at registers_from
  tail map p h =
      let one = optional_operand (bit_of map 4) s p in
      let two = optional_operand (bit_of map 8) s one.next in
      let list = optional_registers (bit_of map 16) s two.next in
      let h-one : Placed one.next = either (λ (f : OperandReading). f.next) (bit_of map 4) _ _ (operand p h) h in
      let h-two : Placed two.next = either (λ (f : OperandReading). f.next) (bit_of map 8) _ _ (operand one.next h-one) h-one in
      let h-list : Placed list.next = either (λ (f : Registers). f.next) (bit_of map 16) _ _ (written two.next h-two) h-two in
      either after (bit_of map 32) _ _ (code 32 list.next h-list) h-list

  instruction : (first : Bool) (last : ℕ) (p : Place) → Placed p → Placed (instruction_at first last s p).next
  unfolding instruction_at
  instruction first last p h = judged _ Instruction _ _ (omega arith, omega arith) (start p h) (tail _ _ (head first last p h))

  instructions : (p : Place) (k : ℕ) → Placed p → Placed (instructions_from s p k).next
  unfolding instructions_from
  instructions p zero h = h
  instructions p (suc k) h = instruction _ _ (instructions_from s p k).next (instructions p k h)

  -- blocks
  blocks : (p : Place) (k : ℕ) → Placed p → Placed (blocks_from s p k).next
  unfolding blocks_from block_at
  blocks p zero h = h
  blocks p (suc k) h = field 8 _ (field 8 (blocks_from s p k).next (blocks p k h))

  -- expressions
  argument : (variables kind : ℕ) (p : Place) → Placed p → Placed (argument_at variables kind s p).next
  unfolding argument_at check_field
  argument variables kind p h = either after (has_argument kind) _ _ (judged _ Code _ _ (omega arith, omega arith) (start p h) (field 1 p h)) h

  constant : (kind : ℕ) (p : Place) → Placed p → Placed (constant_at kind s p).next
  unfolding constant_at
  constant kind p h = either after (eqb kind 1) _ _ (field 8 p h) h

  one-record : (variables depth left : ℕ) (p : Place) → Placed p → Placed (record_at variables depth left s p).next
  unfolding record_at
  one-record variables depth left p h =
      let kind = code_at 9 s p in
      let a = argument variables kind.value kind.next (code 9 p h) in
      let v = constant kind.value _ a in
      judged _ Constant _ _ (omega arith, omega arith) (start _ a)
      (judged _ Tree _ _ (omega arith, omega arith) (start _ v) (judged _ Tree _ _ (omega arith, omega arith) (start p h) v))

  records : (variables total : ℕ) (p : Place) (k : ℕ) → Placed p → Placed (taken_from variables total s p k).next
  unfolding taken_from taken_more
  records variables total p zero h = h
  records variables total p (suc k) h = one-record variables _ _ (taken_from variables total s p k).next (records variables total p k h)

  expression : (variables : ℕ) (p : Place) → Placed p → Placed (expression_at variables s p).next
  unfolding expression_at
  expression variables p h = records variables _ (count_at 1 128 s p).next (count_at 1 128 s p).value (count 1 128 p h)

  -- nodes
  statement : (types : List ℕ) (p : Place) → Placed p → Placed (statement_at types s p).next
  unfolding statement_at assignment_at statement_map_at check_field
  statement types p h =
      let m = judged _ Code _ _ (omega arith, omega arith) (start p h) (field 1 p h) in
      either (λ (r : StatementRead). r.next) (eqb (statement_map_at s p).value 3) _ _
      (judged _ Typing _ _ (omega arith, omega arith) (start p h) (expression (length types) _ (code (length types) (statement_map_at s p).next m))) m

  statements : (types : List ℕ) (p : Place) (k : ℕ) → Placed p → Placed (statements_from types s p k).next
  unfolding statements_from
  statements types p zero h = h
  statements types p (suc k) h = statement types (statements_from types s p k).next (statements types p k h)

  types : (p : Place) (k : ℕ) → Placed p → Placed (types_from s p k)
  unfolding types_from
  types p zero h = h
  types p (suc k) h = code 10 (types_from s p k) (types p k h)

  addresses : (p : Place) (k : ℕ) → Placed p → Placed (addresses_from s p k).next
  unfolding addresses_from
  addresses p zero h = h
  addresses p (suc k) h = field 8 (addresses_from s p k).next (addresses p k h)

  node : (p : Place) → Placed p → Placed (node_at s p).next
  unfolding node_at
  node p h =
      let v = count_at 0 32 s p in
      addresses _ _ (count 0 16 _ (expression _ _ (statements _ _ _ (count 0 64 _ (types v.next v.value (count 0 32 p h))))))

  nodes : (p : Place) (k : ℕ) → Placed p → Placed (nodes_from s p k).next
  unfolding nodes_from
  nodes p zero h = h
  nodes p (suc k) h = node (nodes_from s p k).next (nodes p k h)

  -- the sheet
  all : Placed (sheet_at s).nodes.next
  unfolding sheet_at
  all = nodes _ _ (count 0 1024 _ (blocks _ _ (count 0 1024 _ (instructions _ _ (count 0 2048 (Ok 0) (record { within = omega arith }))))))

  end : Placed (sheet_at s).end
  unfolding sheet_at
  end = judged _ Ends _ _ (omega arith, omega arith) (start _ all) all

  pub reading-refusal : {r : Refusal} → reading_of s ≡ Err r → OfReading (length s) r
  unfolding reading_of
  reading-refusal {r} e = go (sheet_at s).end end e
    where
      go : (p : Place) → Placed p → read_as p (λ end. (sheet_at s).sheet) ≡ Err r → OfReading (length s) r
      go (Ok a) h q = absurd cc
      go (Err r') h q = let same : r' ≡ r = cc in rw same at h.within

  pub reading-number : {r : Refusal} → reading_of s ≡ Err r → ByReading (number_of r.fault)
  reading-number e = (reading-refusal e).number
