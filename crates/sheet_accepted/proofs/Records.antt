-- A record that was read whole, from its parts at plain offsets.
use Prim.Native.Nat.{ℕ, ◌+◌, ◌*◌, ◌≤◌, ◌<◌}
use mathlib.Core.Path.{◌≡◌, refl, ap, sym, ◌∙◌}
use mathlib.Core.List.{List}
use mathlib.Core.Bool.{Bool, true, false, false≢true}
use native.Mathlib.Omega.{arith}
use lib.ListN.{length, take, replicate}
use lib.Seq.{length-take-le}
use Rattle.isa.specs.declared.Register.{Register}
use Rattle.isa.specs.declared.Operand.{Operand}
use Rattle.isa.specs.declared.Operand.TheVariants.{Reg, Imm, Mem}
use Rattle.isa.specs.declared.Mnemonic.{Mnemonic}
use Rattle.isa.specs.declared.Instruction.{Instruction}
use Rattle.isa.specs.Mnemonics.{named}
use Rattle.std.specs.Prelude.{Ok, Err, IsOk, Option, Some, None, is_some, IfSome}
use Rattle.std.specs.Bool.{then_some}
use Rattle.sheet_field.specs.Field.{FieldReading, Place, little, code_at, count_at, WentOn}
use Rattle.sheet_instruction.specs.Instruction.{OperandReading, register_at, operand_at, registers_from, registers_at, optional_registers, optional_operand, optional_field, optional_code, bit_of, map_at, address_at, head_at, tail_at, instruction_at}
use Rattle.sheet_field.proofs.Fields.{little-one}
use Rattle.sheet_instruction.specs.Promises.{operands_at}
use Rattle.sheet_instruction.proofs.Instructions.{registers-count}
use Rattle.sheet_instruction.proofs.Accepted.{registers-from-on, tail-on, head-on, behind-on, TailOn, HeadOn}
use Rattle.sheet_accepted.specs.declared.Content.{Content}
use Rattle.sheet_accepted.specs.Record.{WasRead, recorded}
use Rattle.sheet_accepted.specs.Promises.{number_if, behind_if, content_at}
use Rattle.sheet_instruction.proofs.Stages.{check-is, field_is, code_is, count-is, registers-place, register-operand, immediate-operand, memory-operand}

went-on : (p : Place) → IsOk p → WentOn p
went-on (Ok b) e = (b, refl)
went-on (Err r) e = absurd (false≢true e)

-- an operand, by its code
module _ (s : List ℕ) (at : ℕ) (on : WentOn (operand_at s (Ok at)).next) where
  module _ (z : little s at 1 ≡ 0) where
    register : (at + 5 ≤ length s) × (operand_at s (Ok at) ≡ record { operand = Reg (register_at s (Ok (at + 1))).register; next = Ok (at + 5) })
    register = register-operand s at on (sym (little-one s at) ∙ z)

    pub register_inside : at + 1 + 4 ≤ length s
    register_inside = omega (arith, register.0)

    pub register_is : (operand_at s (Ok at)).operand ≡ Reg (register_at s (Ok (at + 1))).register
    register_is = ap (λ (o : OperandReading). o.operand) register.1

    pub register_end : Ok (at + 1 + 4) ≡ (operand_at s (Ok at)).next
    register_end = let e : at + 1 + 4 ≡ at + 5 = omega arith in rw e (sym (ap (λ (o : OperandReading). o.next) register.1))

  module _ (z : little s at 1 ≡ 1) where
    immediate : (at + 9 ≤ length s) × (operand_at s (Ok at) ≡ record { operand = Imm (little s (at + 1) 8); next = Ok (at + 9) })
    immediate = immediate-operand s at on (sym (little-one s at) ∙ z)

    pub immediate_inside : at + 1 + 8 ≤ length s
    immediate_inside = omega (arith, immediate.0)

    pub immediate_is : (operand_at s (Ok at)).operand ≡ Imm (little s (at + 1) 8)
    immediate_is = ap (λ (o : OperandReading). o.operand) immediate.1

    pub immediate_end : Ok (at + 1 + 8) ≡ (operand_at s (Ok at)).next
    immediate_end = let e : at + 1 + 8 ≡ at + 9 = omega arith in rw e (sym (ap (λ (o : OperandReading). o.next) immediate.1))

  module _ (n : little s at 1 ≡ 0 → ⊥) (o : little s at 1 ≡ 1 → ⊥) where
    memory : operand_at s (Ok at) ≡ record { operand = Mem; next = Ok (at + 1) }
    memory = memory-operand s at on (λ z. n (little-one s at ∙ z)) (λ z. o (little-one s at ∙ z))

    pub memory_is : Mem ≡ (operand_at s (Ok at)).operand
    memory_is = sym (ap (λ (o : OperandReading). o.operand) memory)

    pub memory_end : Ok (at + 1) ≡ (operand_at s (Ok at)).next
    memory_end = sym (ap (λ (o : OperandReading). o.next) memory)

-- room for the registers, and how many its first n are
abbrev room : List Register
room = replicate 8 (record { class = 0; index = 0; size = 0; offset = 0 })

pub room_taken : (n : ℕ) → n ≤ 8 → length (take n room) ≡ n
room_taken n few = length-take-le n room few

-- optional fields
optional-code-is : (there : Bool) (s : List ℕ) (a : ℕ) {b : ℕ} → (optional_code there 32 s (Ok a)).next ≡ Ok b
    → (there ≡ true → a + 1 ≤ length s) × ((optional_code there 32 s (Ok a)).value ≡ number_if there 1 s a)
optional-code-is true s a on = let c = code_is 32 s {p = Ok a} refl refl on in (λ e. c.1, ap (λ (f : FieldReading). f.value) c.2)
optional-code-is false s a on = (λ e. absurd (false≢true e), refl)

optional-field-is : (there : Bool) (s : List ℕ) (a : ℕ) {b : ℕ} → (optional_field there s (Ok a)).next ≡ Ok b
    → (there ≡ true → (a + 8 ≤ length s) × (optional_field there s (Ok a) ≡ record { value = little s a 8; next = Ok (a + 8) }))
optional-field-is true s a on = let f = field_is 8 s {p = Ok a} refl refl on in (λ e. f)
optional-field-is false s a on = λ e. absurd (false≢true e)

then-there : (b : Bool) (x : ℕ) → is_some (then_some b x) ≡ b
then-there true x = refl
then-there false x = refl

optional-registers-is : (there : Bool) (s : List ℕ) (a : ℕ) {b : ℕ} → (optional_registers there s (Ok a)).next ≡ Ok b
    → (there ≡ true → a + 2 ≤ length s)
    × (number_if there 2 s a ≤ 8)
    × (optional_registers there s (Ok a) ≡ registers_from s (Ok (behind_if there 2 a)) (number_if there 2 s a))
unfolding registers_at
optional-registers-is true s a on =
    let n = count_at 0 8 s (Ok a) in
    let c = count-is 8 s a (registers-from-on s n.next n.value on).1 in
    (λ e. c.1, c.0, rw c.2)
optional-registers-is false s a on = (λ e. absurd (false≢true e), omega arith, refl)

content-path : {x x' y y' : Operand} {l l' : List Register} {c c' g g' : ℕ} → x ≡ x' → y ≡ y' → l ≡ l' → c ≡ c' → g ≡ g'
    → ◌≡◌ {A = Content} (record { first = x; second = y; written = l; count = c; flags = g }) (record { first = x'; second = y'; written = l'; count = c'; flags = g' })
content-path p q r t u = rw (p, q, r, t, u)

-- the parts of a tail, each behind the one before, and the bytes as each call leaves them
module _ (map : ℕ) (s : List ℕ) (at : ℕ) (on : WentOn (tail_at map s (Ok at)).next) {b4 : Bool} (b4-is : b4 ≡ bit_of map 4) where
  whole : TailOn map s (Ok at)
  whole = tail-on map s (Ok at) on.1

  pub first_on : WentOn (optional_operand b4 s (Ok at)).next
  first_on = rw b4-is whole.one

  module _ {x : Operand} {s1 : List ℕ} {a : ℕ} (x-is : x ≡ (optional_operand b4 s (Ok at)).operand) (s1-is : s1 ≡ s)
      (a-is : Ok a ≡ (optional_operand b4 s (Ok at)).next) {b8 : Bool} (b8-is : b8 ≡ bit_of map 8) where
    pub second_on : WentOn (optional_operand b8 s1 (Ok a)).next
    second_on = rw (s1-is, b8-is, a-is, b4-is) whole.two

    module _ {y : Operand} {s2 : List ℕ} {b : ℕ} (y-is : y ≡ (optional_operand b8 s1 (Ok a)).operand) (s2-is : s2 ≡ s1)
        (b-is : Ok b ≡ (optional_operand b8 s1 (Ok a)).next) {b16 : Bool} (b16-is : b16 ≡ bit_of map 16) where
      same2 : s2 ≡ s
      same2 = s2-is ∙ s1-is

      behind : Ok b ≡ (operands_at map s (Ok at)).next
      behind = b-is ∙ rw (s1-is, b8-is, a-is, b4-is)

      written-on : WentOn (optional_registers b16 s (Ok b)).next
      written-on = rw (b16-is, behind) whole.written

      pub count_inside : b16 ≡ true → b + 2 ≤ length s2
      count_inside = rw same2 (optional-registers-is b16 s b written-on.1).0

      module _ {n : ℕ} {s3 : List ℕ} {e : ℕ} (number : n ≡ number_if b16 2 s2 b) (s3-is : s3 ≡ s2) (e-is : e ≡ behind_if b16 2 b) where
        same3 : s3 ≡ s
        same3 = s3-is ∙ same2

        n-is : n ≡ number_if b16 2 s b
        n-is = number ∙ rw same2

        pub few : n ≤ 8
        few = rw n-is (optional-registers-is b16 s b written-on.1).1

        written-is : optional_registers b16 s (Ok b) ≡ registers_from s (Ok e) n
        written-is = rw (n-is, e-is) (optional-registers-is b16 s b written-on.1).2

        these-on : WentOn (registers_from s (Ok e) n).next
        these-on = rw (← written-is) written-on

        pub registers_on : WentOn (registers_from s3 (Ok e) n).next
        registers_on = rw same3 these-on

        module _ {l : List Register} {s4 : List ℕ} {g : ℕ} (l-is : l ≡ (registers_from s3 (Ok e) n).list) (s4-is : s4 ≡ s3) (g-is : g ≡ e + 4 * n)
            {b32 : Bool} (b32-is : b32 ≡ bit_of map 32) where
          same4 : s4 ≡ s
          same4 = s4-is ∙ same3

          end-is : (optional_registers (bit_of map 16) s (operands_at map s (Ok at)).next).next ≡ Ok g
          end-is = rw (← b16-is, ← behind, written-is, g-is) (registers-place s e n these-on n (omega arith))

          flags-on : WentOn (optional_code b32 32 s (Ok g)).next
          unfolding tail_at
          flags-on = rw (b32-is, ← end-is) on

          pub flags_inside : b32 ≡ true → g + 1 ≤ length s4
          flags_inside = rw same4 (optional-code-is b32 s g flags-on.1).0

          pub content_is : {f : ℕ} → f ≡ number_if b32 1 s4 g
              → ◌≡◌ {A = Content} (record { first = x; second = y; written = l; count = n; flags = f }) (content_at map s (Ok at))
          unfolding tail_at
          content_is {f} f-is =
              let all = optional_registers (bit_of map 16) s (operands_at map s (Ok at)).next in
              let list : all ≡ registers_from s (Ok e) n = rw (← b16-is, ← behind) written-is in
              let one : x ≡ (operands_at map s (Ok at)).first = x-is ∙ rw b4-is in
              let two : y ≡ (operands_at map s (Ok at)).second = y-is ∙ rw (s1-is, b8-is, a-is, b4-is) in
              let written : l ≡ all.list = rw list (l-is ∙ rw same3) in
              let count : n ≡ all.count = rw list (sym (registers-count s (Ok e) n)) in
              let flags : f ≡ (optional_code (bit_of map 32) 32 s all.next).value =
              rw (f-is, same4, ← b32-is, end-is) (sym (optional-code-is b32 s g flags-on.1).1) in
              content-path one two written count flags

-- the parts of a record
module _ (s : List ℕ) (at : ℕ) (read : WasRead s at) where
  on : WentOn (instruction_at true 0 s (Ok at)).next
  on = went-on _ read

  behind-head : WentOn (head_at true 0 s (Ok at)).next
  behind-head = (behind-on true 0 s (Ok at) on.1).1

  head : HeadOn true 0 s (Ok at)
  head = head-on true 0 s (Ok at) behind-head.1

  map_is : map_at s (Ok at) ≡ record { value = little s at 1; next = Ok (at + 1) }
  unfolding map_at
  map_is = (check-is 1 _ _ at s {p = Ok at} refl refl head.map.1).2

  address_is : address_at true 0 s (map_at s (Ok at)).next ≡ record { value = little s (at + 1) 8; next = Ok (at + 9) }
  unfolding address_at
  address_is = (check-is 8 _ _ _ s {p = (map_at s (Ok at)).next} {a = at + 1} {e = at + 9} (ap (λ (f : FieldReading). f.next) map_is) (omega arith) head.address.1).2

  number_is : (little s (at + 9) 1 < 35)
      × (at + 10 ≤ length s)
      × (code_at 35 s (address_at true 0 s (map_at s (Ok at)).next).next ≡ record { value = little s (at + 9) 1; next = Ok (at + 10) })
  number_is = code_is 35 s {p = (address_at true 0 s (map_at s (Ok at)).next).next} {a = at + 9} {e = at + 10} (ap (λ (f : FieldReading). f.next) address_is) (omega arith) head.number.1

  pub numbered : {number : ℕ} → number ≡ little s (at + 9) 1 → number < 35
  numbered read = rw read number_is.0

  pub record_inside : at + 10 ≤ length s
  record_inside = number_is.1

  -- what says that it is a branch, and the head, as they are read
  marked : Bool
  marked = bit_of (little s at 1) 1

  target-on : WentOn (optional_field marked s (Ok (at + 10))).next
  unfolding head_at marked
  target-on = rw (number_is.2, map_is) at behind-head

  there : marked ≡ true → (at + 10 + 8 ≤ length s) × (optional_field marked s (Ok (at + 10)) ≡ record { value = little s (at + 10) 8; next = Ok (at + 10 + 8) })
  there = optional-field-is marked s (at + 10) target-on.1

  target-is : (recorded s at).target ≡ then_some marked (optional_field marked s (Ok (at + 10))).value
  unfolding instruction_at head_at marked
  target-is = rw (number_is.2, map_is)

  next-is : (head_at true 0 s (Ok at)).next ≡ (optional_field marked s (Ok (at + 10))).next
  unfolding head_at marked
  next-is = rw (number_is.2, map_is)

  map-is : (head_at true 0 s (Ok at)).map ≡ little s at 1
  unfolding head_at
  map-is = rw map_is

  branch-is : marked ≡ is_some (recorded s at).target
  branch-is = sym (then-there marked (optional_field marked s (Ok (at + 10))).value) ∙ ap is_some (sym target-is)

  -- its address, its mnemonic, its mark and its target
  pub address_here : {address : ℕ} → address ≡ little s (at + 1) 8 → address ≡ (recorded s at).address
  unfolding instruction_at head_at
  address_here read = rw (read, address_is)

  pub mnemonic_here : {number : ℕ} {m : Mnemonic} → number ≡ little s (at + 9) 1 → m ≡ named number → m ≡ (recorded s at).mnemonic
  unfolding instruction_at head_at
  mnemonic_here read m-is = rw (m-is, read, number_is.2)

  pub branch_here : {map : ℕ} {b : Bool} → map ≡ little s at 1 → b ≡ bit_of map 1 → b ≡ is_some (recorded s at).target
  unfolding marked
  branch_here read b-is = b-is ∙ rw read branch-is

  module _ {branch : Bool} (branch-read : branch ≡ is_some (recorded s at).target) where
    pub target_room : branch ≡ true → at + 10 + 8 ≤ length s
    target_room e = (there (branch-is ∙ sym branch-read ∙ e)).0

    pub target_here : (target : Option ℕ) {P : ℕ → Type 0} → is_some target ≡ branch → IfSome target P → ((t : ℕ) → P t → t ≡ little s (at + 10) 8)
        → target ≡ (recorded s at).target
    target_here (Some t) some is number =
        let taken : marked ≡ true = branch-is ∙ sym branch-read ∙ sym some in
        rw (target-is, number t is, (there taken).1, taken)
    target_here None some is number =
        let left : marked ≡ false = branch-is ∙ sym branch-read ∙ sym some in
        rw (target-is, left)

    pub behind_target : branch ≡ true → Ok (at + 18) ≡ (head_at true 0 s (Ok at)).next
    behind_target e =
        let eight : at + 10 + 8 ≡ at + 18 = omega arith in
        rw (next-is, (there (branch-is ∙ sym branch-read ∙ e)).1, eight)

    pub behind_mnemonic : branch ≡ false → Ok (at + 10) ≡ (head_at true 0 s (Ok at)).next
    behind_mnemonic e = let left : marked ≡ false = branch-is ∙ sym branch-read ∙ e in rw (next-is, left)

  module _ {map end : ℕ} (map_read : map ≡ little s at 1) (end-is : Ok end ≡ (head_at true 0 s (Ok at)).next) where
    pub content_on : WentOn (tail_at map s (Ok end)).next
    content_on =
        let w : WentOn (tail_at (head_at true 0 s (Ok at)).map s (head_at true 0 s (Ok at)).next).next = (on.0, (behind-on true 0 s (Ok at) on.1).0) in
        rw (map_read, end-is, ← map-is) w

    pub instruction_is : {address : ℕ} {target : Option ℕ} {call : Bool} {mnemonic : Mnemonic} {c : Content} → address ≡ (recorded s at).address
        → mnemonic ≡ (recorded s at).mnemonic → target ≡ (recorded s at).target → call ≡ bit_of map 2 → c ≡ content_at map s (Ok end)
        → ◌≡◌ {A = Instruction}
        (record { address = address; mnemonic = mnemonic; target = target; call = call; first = c.first; second = c.second; written = c.written; count = c.count; flags = c.flags })
        (recorded s at)
    unfolding instruction_at
    instruction_is address_read mnemonic-is target-read call-is c-is = rw (address_read, mnemonic-is, target-read, c-is, call-is, map_read, end-is, ← map-is)
