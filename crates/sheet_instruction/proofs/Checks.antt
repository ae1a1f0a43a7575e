-- What the checks need: registers by their bytes, where reading is inside the sheet, and that a refusal stays.
use Prim.Native.Nat.{ℕ, zero, suc, ◌+◌, ◌-◌, ◌≤◌, ◌<◌}
use mathlib.Core.Path.{◌≡◌, refl, ap, sym, ◌∙◌}
use mathlib.Core.List.{List}
use mathlib.Core.Bool.{Bool, true, false, cond}
use native.Mathlib.Omega.{arith}
use lib.ListN.{length}
use lib.Dec.{eqb}
use Rattle.std.specs.Prelude.{Ok, Err}
use Rattle.refusal.specs.declared.Fault.TheVariants as fault
use Rattle.refusal.specs.declared.Refusal.{Refusal}
use Rattle.refusal.specs.Numbers.{refused}
use Rattle.isa.specs.declared.Register.{Register}
use Rattle.isa.specs.declared.Operand.TheVariants.{Reg, Imm, Mem}
use Rattle.isa.specs.Register.{well_formed}
use Rattle.sheet_field.specs.Field.{Place, field_at, start_of, judge, code_at, count_at}
use Rattle.sheet_field.proofs.Fields.{field_cut, field-refused, code-at, count_at_lem, checked-stays}
use Rattle.sheet_field.proofs.Counted.{stays}
use Rattle.sheet_field.proofs.Steps.{field_stays, code_stays, count_stays}
use Rattle.sheet_instruction.specs.Instruction.{OperandReading, register_at, operand_at, registers_from, registers_at, optional_registers, optional_operand, optional_field, optional_code, bit_of, address_at, tail_at}
use Rattle.sheet_instruction.proofs.Instructions.{registers_next}
use Rattle.sheet_instruction.proofs.Accepted.{registers-keep}
use Rattle.sheet_instruction.proofs.Stages.{byte-is, register-room}

-- a register
module _ (s : List ℕ) (at : ℕ) where
  byte_cut : (a : ℕ) → length s ≡ a → field_at 1 s (Ok a) ≡ record { value = 0; next = Err (refused fault.Ends a) }
  byte_cut a e = sym (field_cut 1 s {p = Ok a} refl (omega (arith, e)))

  byte-stays : (r : Refusal) → field_at 1 s (Err r) ≡ record { value = 0; next = Err r }
  byte-stays r = sym (field-refused 1 s refl)

  ended : ℕ → Place
  ended a = Err (refused fault.Ends a)

  -- cut by the sheet's end, after d bytes
  cut-after : (d : ℕ) → length s ≡ at + d → d < 4 → Err (refused fault.Ends (length s)) ≡ (register_at s (Ok at)).next
  unfolding register_at ended
  cut-after zero e few =
      let end : length s ≡ at = omega (arith, e) in
      rw (byte_cut at end) (simp byte-stays (ap ended end))
  cut-after (suc zero) e few =
      rw (byte-is s at (at + 1) refl (omega (arith, e)), byte_cut (at + 1) e) (simp byte-stays (ap ended e))
  cut-after (suc (suc zero)) e few =
      rw (byte-is s at (at + 1) refl (omega (arith, e)), byte-is s (at + 1) (at + 2) (omega arith) (omega (arith, e)), byte_cut (at + 2) e)
      (simp byte-stays (ap ended e))
  cut-after (suc (suc (suc zero))) e few =
      rw (byte-is s at (at + 1) refl (omega (arith, e)), byte-is s (at + 1) (at + 2) (omega arith) (omega (arith, e)), byte-is s (at + 2) (at + 3) (omega arith) (omega (arith, e)), byte_cut (at + 3) e)
      (ap ended e)
  cut-after (suc (suc (suc (suc d)))) e few = absurd (omega arith)

  pub register_cut : at ≤ length s → length s < at + 4 → Err (refused fault.Ends (length s)) ≡ (register_at s (Ok at)).next
  register_cut starts short = cut-after (length s - at) (omega arith) (omega arith)

  register-judged : {r : Register} → at + 4 ≤ length s → r ≡ (register_at s (Ok at)).register
      → judge (well_formed r) fault.Register at (Ok (at + 4)) ≡ (register_at s (Ok at)).next
  unfolding register_at
  register-judged room r-is =
      let class = byte-is s at (at + 1) refl (omega (arith, room)) in
      let index = byte-is s (at + 1) (at + 2) (omega arith) (omega (arith, room)) in
      let size = byte-is s (at + 2) (at + 3) (omega arith) (omega (arith, room)) in
      let offset = byte-is s (at + 3) (at + 4) (omega arith) (omega (arith, room)) in
      rw (r-is, class, index, size, offset)

  pub register_taken : {r : Register} → at + 4 ≤ length s → r ≡ (register_at s (Ok at)).register → well_formed r ≡ true
      → Ok (at + 4) ≡ (register_at s (Ok at)).next
  register_taken room r-is well = rw well at (register-judged room r-is)

  pub register_failed : {r : Register} → at + 4 ≤ length s → r ≡ (register_at s (Ok at)).register → well_formed r ≡ false
      → Err (refused fault.Register at) ≡ (register_at s (Ok at)).next
  register_failed room r-is ill = rw ill at (register-judged room r-is)

pub register_end : {s t : List ℕ} (at : ℕ) {b : ℕ} → t ≡ s → Ok b ≡ (register_at t (Ok at)).next → b ≤ length s
register_end {s} at same went = (register-room s at (sym (rw same at went))).1

-- reading has come to an offset within the sheet, or to its end
pub code_inside : (limit : ℕ) (s : List ℕ) (p : Place) {b : ℕ} → (code_at limit s p).next ≡ Ok b → b ≤ length s
code_inside limit s p e = let w = (code-at limit s p e).whole in omega (arith, w.after, w.inside)

pub kind_inside : (s : List ℕ) (p : Place) {b : ℕ} → Ok b ≡ (code_at 3 s p).next → b ≤ length s
kind_inside s p e = code_inside 3 s p (sym e)

pub count_inside : (s : List ℕ) (p : Place) {b : ℕ} → Ok b ≡ (count_at 0 8 s p).next → b ≤ length s
count_inside s p e = let w = (count_at_lem 0 8 s p (sym e)).whole in omega (arith, w.after, w.inside)

pub number_below : (s : List ℕ) (p : Place) {m x : ℕ} → Ok m ≡ (code_at 35 s p).next → x ≡ (code_at 35 s p).value → x < 35
number_below s p e is = rw is (code-at 35 s p (sym e)).below

-- a refusal at an operand's code stays, whatever the code is
kind-stays : (s : List ℕ) (r : Refusal) (z o : Bool)
    → Err r
    ≡ (cond {A = OperandReading} z (record { operand = Reg (register_at s (Err r)).register; next = (register_at s (Err r)).next })
    (cond o (record { operand = Imm (field_at 8 s (Err r)).value; next = (field_at 8 s (Err r)).next }) (record { operand = Mem; next = Err r }))).next
unfolding register_at field_at
kind-stays s r true o = refl
kind-stays s r false true = refl
kind-stays s r false false = refl

pub kind_refused : (s : List ℕ) (p : Place) {r : Refusal} → Err r ≡ (code_at 3 s p).next → Err r ≡ (operand_at s p).next
unfolding operand_at
kind_refused s p {r} e = rw (← e) (kind-stays s r (eqb (code_at 3 s p).value 0) (eqb (code_at 3 s p).value 1))

-- a refusal at one of n registers stays, and one before them
pub register_refused : (s : List ℕ) (p : Place) (i n : ℕ) {r : Refusal} → Err r ≡ (register_at s (registers_from s p i).next).next → i < n
    → Err r ≡ (registers_from s p n).next
register_refused s p i n e less =
    sym (stays (λ j. (registers_from s p j).next) (registers-keep s p) n (i + 1) _ (sym (e ∙ registers_next s p i)) (omega arith))

pub list_stays : (s : List ℕ) (n : ℕ) {p : Place} {r : Refusal} → Err r ≡ p → Err r ≡ (registers_from s p n).next
unfolding registers_from
list_stays s n {p} {r} e =
    let start : (registers_from s p 0).next ≡ Err r = sym e in
    sym (stays (λ j. (registers_from s p j).next) (registers-keep s p) n 0 r start (omega arith))

-- a refusal before a part stays
pub operand_stays : (there : Bool) (s : List ℕ) {p : Place} {r : Refusal} → Err r ≡ p → Err r ≡ (optional_operand there s p).next
operand_stays true s {p} e = kind_refused s p (code_stays s e 3)
operand_stays false s e = e

pub registers_stay : (s : List ℕ) {p : Place} {r : Refusal} → Err r ≡ p → Err r ≡ (registers_at s p).next
unfolding registers_at
registers_stay s {p} e = list_stays s (count_at 0 8 s p).value (count_stays s e 0 8)

pub written_stays : (there : Bool) (s : List ℕ) {p : Place} {r : Refusal} → Err r ≡ p → Err r ≡ (optional_registers there s p).next
written_stays true s e = registers_stay s e
written_stays false s e = list_stays s 0 e

pub optional_code_stays : (there : Bool) (limit : ℕ) (s : List ℕ) {p : Place} {r : Refusal} → Err r ≡ p → Err r ≡ (optional_code there limit s p).next
optional_code_stays true limit s e = code_stays s e limit
optional_code_stays false limit s e = e

pub flags_stay : (there : Bool) (s : List ℕ) {p : Place} {r : Refusal} → Err r ≡ p → Err r ≡ (optional_code there 32 s p).next
flags_stay there s e = optional_code_stays there 32 s e

pub target_stays : (there : Bool) (s : List ℕ) {p : Place} {r : Refusal} → Err r ≡ p → Err r ≡ (optional_field there s p).next
target_stays true s e = field_stays s e 8
target_stays false s e = e

pub address_stays : (opens : Bool) (last : ℕ) (s : List ℕ) {p : Place} {r : Refusal} → Err r ≡ p → Err r ≡ (address_at opens last s p).next
unfolding address_at
address_stays opens last s {p} e = checked-stays _ fault.Address (start_of p) (field_at 8 s p) (field_stays s e 8)

pub tail_stays : (map : ℕ) (s : List ℕ) {p : Place} {r : Refusal} → Err r ≡ p → Err r ≡ (tail_at map s p).next
unfolding tail_at
tail_stays map s e =
    flags_stay (bit_of map 32) s (written_stays (bit_of map 16) s (operand_stays (bit_of map 8) s (operand_stays (bit_of map 4) s e)))
