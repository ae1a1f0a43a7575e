-- Where reading goes on after an instruction, it went on before it, and its address is above the one before.
use Prim.Native.Nat.{ℕ, suc, ◌<◌}
use mathlib.Core.Path.{◌≡◌, refl, sym, ◌∙◌}
use mathlib.Core.List.{List}
use mathlib.Core.Bool.{Bool, true, false, ◌||◌}
use native.Mathlib.Omega.{arith}
use lib.Dec.{eqb, ltb}
use borrow.Author.Tests.{ltb-true, not-true}
use Rattle.isa.specs.declared.Operand.{Operand}
use Rattle.isa.specs.declared.Operand.TheVariants.{Absent, Reg, Imm, Mem}
use Rattle.isa.specs.Register.{well_formed}
use Rattle.isa.specs.Modelled.{at_fault}
use Rattle.std.specs.Prelude.{Ok, Err}
use Rattle.refusal.specs.declared.Fault.{Fault}
use Rattle.refusal.specs.declared.Fault.TheVariants as fault
use Rattle.refusal.specs.declared.Refusal.{Refusal}
use Rattle.sheet_field.specs.Field.{Place, FieldReading, field_at, start_of, code_at, count_at, check_field, judge, keep, WentOn}
use Rattle.sheet_field.proofs.Fields.{judge-at, check-at, count_at_lem, field-on, code-on}
use Rattle.sheet_field.proofs.Counted.{back}
use Rattle.sheet_instruction.specs.Instruction.{register_at, operand_at, with_register, registers_from, registers_at, optional_registers, optional_operand, optional_field, optional_code, bit_of, map_at, address_at, head_at, tail_at, instruction_at}
use Rattle.sheet_instruction.specs.Promises.{operands_at}

register-on : (s : List ℕ) (p : Place) {a : ℕ} → (register_at s p).next ≡ Ok a → WentOn p
unfolding register_at
register-on s p e =
    let offset = field-on 1 s _ (judge-at _ fault.Register (start_of p) _ e).1 in
    let size = field-on 1 s _ offset.1 in
    let index = field-on 1 s _ size.1 in
    field-on 1 s p index.1

register-well : (s : List ℕ) (p : Place) {a : ℕ} → (register_at s p).next ≡ Ok a → well_formed (register_at s p).register ≡ true
unfolding register_at
register-well s p e =
    let class = field_at 1 s p in
    let index = field_at 1 s class.next in
    let size = field_at 1 s index.next in
    (judge-at _ fault.Register (start_of p) (field_at 1 s size.next).next e).0

-- a register in an operand is well formed
abbrev pub Well : Operand → Type 0
Well Absent = Unit {0}
Well (Reg r) = well_formed r ≡ true
Well (Imm x) = Unit {0}
Well Mem = Unit {0}

operand-well : (s : List ℕ) (p : Place) {a : ℕ} → (operand_at s p).next ≡ Ok a → Well (operand_at s p).operand
unfolding operand_at
operand-well s p e = zero_or (eqb (code_at 3 s p).value 0) (eqb (code_at 3 s p).value 1) refl refl
  where
    zero_or : (t u : Bool) → eqb (code_at 3 s p).value 0 ≡ t → eqb (code_at 3 s p).value 1 ≡ u → Well (operand_at s p).operand
    zero_or true u q r = rw q (register-well s (code_at 3 s p).next (rw q at e))
    zero_or false true q r = rw (q, r) tt
    zero_or false false q r = rw (q, r) tt

-- reading went on behind an operand's code
pub operand-kind-on : (s : List ℕ) (p : Place) {a : ℕ} → (operand_at s p).next ≡ Ok a → WentOn (code_at 3 s p).next
unfolding operand_at
operand-kind-on s p {a} e = zero_or (eqb (code_at 3 s p).value 0) (eqb (code_at 3 s p).value 1) refl refl
  where
    zero_or : (t u : Bool) → eqb (code_at 3 s p).value 0 ≡ t → eqb (code_at 3 s p).value 1 ≡ u → WentOn (code_at 3 s p).next
    zero_or true u q r = register-on s (code_at 3 s p).next (rw q at e)
    zero_or false true q r = field-on 8 s (code_at 3 s p).next (rw (q, r) at e)
    zero_or false false q r = (a, rw (q, r) at e)

operand_on : (s : List ℕ) (p : Place) {a : ℕ} → (operand_at s p).next ≡ Ok a → WentOn p
operand_on s p e = code-on 3 s p (operand-kind-on s p e).1

-- a register that is read where reading was refused leaves the refusal
pub registers-keep : (s : List ℕ) (p : Place) (j : ℕ) (r : Refusal) → (registers_from s p j).next ≡ Err r → (registers_from s p (suc j)).next ≡ Err r
unfolding registers_from with_register register_at field_at
registers-keep s p j r e = rw e

pub registers-from-on : (s : List ℕ) (p : Place) (k : ℕ) {a : ℕ} → (registers_from s p k).next ≡ Ok a → WentOn p
unfolding registers_from
registers-from-on s p k e = back (λ j. (registers_from s p j).next) (registers-keep s p) k 0 e (omega arith)

registers-on : (s : List ℕ) (p : Place) {a : ℕ} → (registers_at s p).next ≡ Ok a → WentOn p
unfolding registers_at
registers-on s p e =
    let n = count_at 0 8 s p in
    let w = (count_at_lem 0 8 s p (registers-from-on s n.next n.value e).1).whole in
    (w.from, w.there)

optional-registers-on : (there : Bool) (s : List ℕ) (p : Place) {a : ℕ} → (optional_registers there s p).next ≡ Ok a → WentOn p
optional-registers-on true s p e = registers-on s p e
optional-registers-on false s p e = registers-from-on s p 0 e

optional-operand-on : (there : Bool) (s : List ℕ) (p : Place) {a : ℕ} → (optional_operand there s p).next ≡ Ok a → WentOn p
optional-operand-on true s p e = operand_on s p e
optional-operand-on false s p {a} e = (a, e)

optional-operand-well : (there : Bool) (s : List ℕ) (p : Place) {a : ℕ} → (optional_operand there s p).next ≡ Ok a → Well (optional_operand there s p).operand
optional-operand-well true s p e = operand-well s p e
optional-operand-well false s p e = tt

optional-field-on : (there : Bool) (s : List ℕ) (p : Place) {a : ℕ} → (optional_field there s p).next ≡ Ok a → WentOn p
optional-field-on true s p e = field-on 8 s p e
optional-field-on false s p {a} e = (a, e)

optional-code-on : (there : Bool) (limit : ℕ) (s : List ℕ) (p : Place) {a : ℕ} → (optional_code there limit s p).next ≡ Ok a → WentOn p
optional-code-on true limit s p e = code-on limit s p e
optional-code-on false limit s p {a} e = (a, e)

-- reading went on at each stage of a tail
pub record TailOn (map : ℕ) (s : List ℕ) (p : Place) : Type 0 where
  pub from : WentOn p
  pub one : WentOn (optional_operand (bit_of map 4) s p).next
  pub two : WentOn (operands_at map s p).next
  pub written : WentOn (optional_registers (bit_of map 16) s (operands_at map s p).next).next

pub tail-on : (map : ℕ) (s : List ℕ) (p : Place) {a : ℕ} → (tail_at map s p).next ≡ Ok a → TailOn map s p
unfolding tail_at
tail-on map s p e =
    let written = optional-code-on (bit_of map 32) 32 s _ e in
    let two = optional-registers-on (bit_of map 16) s _ written.1 in
    let one = optional-operand-on (bit_of map 8) s _ two.1 in
    record { from = optional-operand-on (bit_of map 4) s p one.1; one = one; two = two; written = written }

tail-well : (map : ℕ) (s : List ℕ) (p : Place) → TailOn map s p
    → Well (tail_at map s p).first × Well (tail_at map s p).second
unfolding tail_at
tail-well map s p on = (optional-operand-well (bit_of map 4) s p on.one.1, optional-operand-well (bit_of map 8) s _ on.two.1)

-- reading went on at each stage of a head
pub record HeadOn (opens : Bool) (last : ℕ) (s : List ℕ) (p : Place) : Type 0 where
  pub from : WentOn p
  pub map : WentOn (map_at s p).next
  pub address : WentOn (address_at opens last s (map_at s p).next).next
  pub number : WentOn (code_at 35 s (address_at opens last s (map_at s p).next).next).next

pub head-on : (opens : Bool) (last : ℕ) (s : List ℕ) (p : Place) {a : ℕ} → (head_at opens last s p).next ≡ Ok a → HeadOn opens last s p
unfolding head_at map_at address_at
head-on opens last s p e =
    let map = map_at s p in
    let number = optional-field-on (bit_of map.value 1) s _ e in
    let address = code-on 35 s (address_at opens last s map.next).next number.1 in
    let mapped = field-on 8 s map.next (check-at _ fault.Address (start_of map.next) (field_at 8 s map.next) address.1).1 in
    record {
      from = field-on 1 s p (check-at _ fault.Code (start_of p) (field_at 1 s p) mapped.1).1;
      map = mapped;
      address = address;
      number = number;
    }

-- reading went on behind the head and the tail of an instruction
pub behind-on : (opens : Bool) (last : ℕ) (s : List ℕ) (p : Place) {a : ℕ} → (instruction_at opens last s p).next ≡ Ok a
    → ((tail_at (head_at opens last s p).map s (head_at opens last s p).next).next ≡ Ok a) × WentOn (head_at opens last s p).next
unfolding instruction_at
behind-on opens last s p e =
    let head = head_at opens last s p in
    let tail = (judge-at _ fault.Instruction (start_of p) _ e).1 in
    (tail, (tail-on head.map s head.next tail).from)

-- what an instruction that was read whole is
pub record Taken (opens : Bool) (last : ℕ) (s : List ℕ) (p : Place) : Type 0 where
  pub from : ℕ
  pub there : p ≡ Ok from
  pub above : opens ≡ false → last < (instruction_at opens last s p).instruction.address
  pub again : instruction_at true 0 s p ≡ instruction_at opens last s p
  pub one : Well (instruction_at opens last s p).instruction.first
  pub two : Well (instruction_at opens last s p).instruction.second
  pub sound : at_fault (instruction_at opens last s p).instruction ≡ false

-- a field that was read whole passes a check that holds
check-true : (k : Fault) (at : ℕ) (f : FieldReading) {a : ℕ} → f.next ≡ Ok a → check_field true k at f ≡ f
unfolding check_field
check-true k at f e = go f.next e
  where
    go : {a : ℕ} (p : Place) → p ≡ Ok a → ◌≡◌ {A = FieldReading} (record { value = keep (judge true k at p) f.value; next = judge true k at p }) (record { value = f.value; next = p })
    go (Ok b) q = refl
    go (Err r) q = absurd cc

-- an address is read alike where any would do
address-again : (opens : Bool) (last : ℕ) (s : List ℕ) (p : Place) {a : ℕ} → (address_at opens last s p).next ≡ Ok a
    → address_at true 0 s p ≡ address_at opens last s p
unfolding address_at
address-again opens last s p e =
    let c = check-at _ fault.Address (start_of p) (field_at 8 s p) e in
    check-true fault.Address (start_of p) (field_at 8 s p) c.1 ∙ sym c.2

other-true : (a b : Bool) → (a || b) ≡ true → a ≡ false → b ≡ true
other-true true b e q = cc
other-true false b e q = e

pub instruction-on : (opens : Bool) (last : ℕ) (s : List ℕ) (p : Place) {a : ℕ} → (instruction_at opens last s p).next ≡ Ok a
    → Taken opens last s p
unfolding instruction_at head_at address_at
instruction-on opens last s p e =
    let map = map_at s p in
    let head = head_at opens last s p in
    let behind = behind-on opens last s p e in
    let on = head-on opens last s p behind.1.1 in
    let rises = check-at (opens || ltb last (field_at 8 s map.next).value) fault.Address (start_of map.next) (field_at 8 s map.next) on.address.1 in
    let well = tail-well head.map s head.next (tail-on head.map s head.next behind.0) in
    record {
      from = on.from.0;
      there = on.from.1;
      above = λ q. rw rises.2 (ltb-true last _ (other-true opens _ rises.0 q));
      one = well.0;
      two = well.1;
      sound = not-true _ (judge-at _ fault.Instruction (start_of p) (tail_at head.map s head.next).next e).0;
      again = rw (address-again opens last s map.next on.address.1);
    }
