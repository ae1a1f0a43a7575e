-- The stages of a record that was read whole, at plain offsets.
use Prim.Native.Nat.{ℕ, zero, suc, ◌+◌, ◌*◌, ◌≤◌, ◌<◌}
use mathlib.Core.Path.{◌≡◌, refl, ap, sym, ◌∙◌}
use mathlib.Core.List.{List}
use mathlib.Core.Bool.{Bool, true}
use native.Mathlib.Omega.{arith}
use lib.ListN.{length, get_or}
use lib.Dec.{ltb}
use borrow.Author.Tests.{ne_eqb, ltb-true}
use Rattle.isa.specs.declared.Register.{Register}
use Rattle.isa.specs.declared.Operand.TheVariants.{Reg, Imm, Mem}
use Rattle.std.specs.Prelude.{Ok}
use Rattle.refusal.specs.declared.Fault.{Fault}
use Rattle.refusal.specs.declared.Fault.TheVariants as fault
use Rattle.sheet_field.specs.Field.{Place, FieldReading, little, field_at, start_of, check_field, code_at, count_at, WentOn}
use Rattle.sheet_field.proofs.Fields.{little-one, field-whole, field-at, check-at, count_most, judge-at}
use Rattle.sheet_field.proofs.Counted.{back}
use Rattle.sheet_instruction.specs.Instruction.{register_at, operand_at, with_register, registers_from}
use Rattle.sheet_instruction.proofs.Accepted.{operand-kind-on, registers-keep}

-- a field that was read whole
pub field_is : (n : ℕ) (s : List ℕ) {p : Place} {a e b : ℕ} → p ≡ Ok a → a + n ≡ e → (field_at n s p).next ≡ Ok b
    → (e ≤ length s) × (field_at n s p ≡ record { value = little s a n; next = Ok e })
field_is n s {p} {a} {e} p-is e-is on =
    let w = field-at n s p on in
    let same : a ≡ w.from = cc (p-is, w.there) in
    let room : a + n ≤ length s = omega (arith, same, w.inside) in
    (omega (arith, e-is, room), sym (field-whole n s p-is room refl refl) ∙ rw e-is)

-- and was taken by its check
pub check-is : (n : ℕ) (ok : Bool) (k : Fault) (at : ℕ) (s : List ℕ) {p : Place} {a e b : ℕ} → p ≡ Ok a → a + n ≡ e
    → (check_field ok k at (field_at n s p)).next ≡ Ok b
    → (ok ≡ true) × (e ≤ length s) × (check_field ok k at (field_at n s p) ≡ record { value = little s a n; next = Ok e })
check-is n ok k at s {p} p-is e-is on =
    let c = check-at ok k at (field_at n s p) on in
    let f = field_is n s p-is e-is c.1 in
    (c.0, f.0, c.2 ∙ f.1)

-- a code
pub code_is : (limit : ℕ) (s : List ℕ) {p : Place} {a e b : ℕ} → p ≡ Ok a → a + 1 ≡ e → (code_at limit s p).next ≡ Ok b
    → (little s a 1 < limit) × (e ≤ length s) × (code_at limit s p ≡ record { value = little s a 1; next = Ok e })
unfolding code_at
code_is limit s {p} {a} {e} p-is e-is on =
    let c = check-is 1 (ltb (field_at 1 s p).value limit) fault.Code (start_of p) s p-is e-is on in
    let f = field_is 1 s p-is e-is (check-at _ fault.Code (start_of p) (field_at 1 s p) on).1 in
    (rw (ap (λ (x : FieldReading). x.value) f.1) at (ltb-true (field_at 1 s p).value limit c.0), c.1, c.2)

-- a count
pub count-is : (most : ℕ) (s : List ℕ) (a : ℕ) {b : ℕ} → (count_at 0 most s (Ok a)).next ≡ Ok b
    → (little s a 2 ≤ most) × (a + 2 ≤ length s) × (count_at 0 most s (Ok a) ≡ record { value = little s a 2; next = Ok (a + 2) })
unfolding count_at
count-is most s a on =
    let c = check-is 2 _ fault.Count a s refl refl on in
    (rw (ap (λ (x : FieldReading). x.value) c.2) at (count_most 0 most s (Ok a)), c.1, c.2)

-- a byte
pub byte-is : (s : List ℕ) (a e : ℕ) → a + 1 ≡ e → e ≤ length s → field_at 1 s (Ok a) ≡ record { value = get_or s a 0; next = Ok e }
byte-is s a e e-is room = sym (field-whole 1 s refl (omega (arith, e-is, room)) (sym (little-one s a)) refl) ∙ rw e-is

-- a register: its four bytes
pub register-is : (s : List ℕ) (a : ℕ) → a + 4 ≤ length s
    → ◌≡◌ {A = Register} (record { class = get_or s a 0; index = get_or s (a + 1) 0; size = get_or s (a + 2) 0; offset = get_or s (a + 3) 0 }) (register_at s (Ok a)).register
unfolding register_at
register-is s a room =
    let class = byte-is s a (a + 1) refl (omega (arith, room)) in
    let index = byte-is s (a + 1) (a + 2) (omega arith) (omega (arith, room)) in
    let size = byte-is s (a + 2) (a + 3) (omega arith) (omega (arith, room)) in
    let offset = byte-is s (a + 3) (a + 4) (omega arith) (omega (arith, room)) in
    rw (class, index, size, offset)

pub register-room : (s : List ℕ) (a : ℕ) {b : ℕ} → (register_at s (Ok a)).next ≡ Ok b → (b ≡ a + 4) × (b ≤ length s)
unfolding register_at
register-room s a {b} e =
    let offset = field-at 1 s _ (judge-at _ fault.Register a _ e).1 in
    let size = field-at 1 s _ offset.there in
    let index = field-at 1 s _ size.there in
    let class = field-at 1 s (Ok a) index.there in
    let same : a ≡ class.from = cc class.there in
    let after : b ≡ a + 4 = omega (arith, same, offset.after, size.after, index.after, class.after) in
    (after, omega (arith, offset.after, offset.inside))

-- an operand: its code, then what the code says
module _ (s : List ℕ) (at : ℕ) (on : WentOn (operand_at s (Ok at)).next) where
  kind-is : (at + 1 ≤ length s) × (code_at 3 s (Ok at) ≡ record { value = get_or s at 0; next = Ok (at + 1) })
  kind-is =
      let c = code_is 3 s {p = Ok at} refl refl (operand-kind-on s (Ok at) on.1).1 in
      (c.1, c.2 ∙ rw (little-one s at))

  pub operand-inside : at + 1 ≤ length s
  operand-inside = kind-is.0

  pub register-operand : get_or s at 0 ≡ 0
      → (at + 5 ≤ length s) × (operand_at s (Ok at) ≡ record { operand = Reg (register_at s (Ok (at + 1))).register; next = Ok (at + 5) })
  unfolding operand_at
  register-operand zero_is =
      let r = register-room s (at + 1) (rw (kind-is.1, zero_is) at on.1) in
      let end : Ok on.0 ≡ Ok (at + 5) = ap Ok (r.0 ∙ omega arith) in
      (omega (arith, r.0, r.1), rw (kind-is.1, zero_is) (rw ((rw (kind-is.1, zero_is) at on.1) ∙ end)))

  pub immediate-operand : get_or s at 0 ≡ 1
      → (at + 9 ≤ length s) × (operand_at s (Ok at) ≡ record { operand = Imm (little s (at + 1) 8); next = Ok (at + 9) })
  unfolding operand_at
  immediate-operand one-is =
      let f = field_is 8 s {p = Ok (at + 1)} {a = at + 1} {e = at + 9} refl (omega arith) (rw (kind-is.1, one-is) at on.1) in
      (f.0, rw (kind-is.1, one-is, f.1))

  pub memory-operand : (get_or s at 0 ≡ 0 → ⊥) → (get_or s at 0 ≡ 1 → ⊥) → operand_at s (Ok at) ≡ record { operand = Mem; next = Ok (at + 1) }
  unfolding operand_at
  memory-operand not-zero not-one = rw (kind-is.1, ne_eqb _ _ not-zero, ne_eqb _ _ not-one)

-- registers, one after the other
module _ (s : List ℕ) (at n : ℕ) (on : WentOn (registers_from s (Ok at) n).next) where
  -- where each stands
  pub registers-place : (k : ℕ) → k ≤ n → (registers_from s (Ok at) k).next ≡ Ok (at + 4 * k)
  unfolding registers_from with_register
  registers-place zero le = rw (let z : at + 4 * 0 ≡ at = omega arith in z)
  registers-place (suc k) le =
      let here = registers-place k (omega (arith, le)) in
      let next = back (λ j. (registers_from s (Ok at) j).next) (registers-keep s (Ok at)) n (suc k) on.1 le in
      let r = register-room s (at + 4 * k) (rw here at next.1) in
      next.1 ∙ ap Ok (r.0 ∙ omega arith)

  pub register-inside : (k : ℕ) → k < n → at + 4 * k + 4 ≤ length s
  unfolding registers_from with_register
  register-inside k lt =
      let next = back (λ j. (registers_from s (Ok at) j).next) (registers-keep s (Ok at)) n (suc k) on.1 (omega (arith, lt)) in
      let r = register-room s (at + 4 * k) (rw (registers-place k (omega (arith, lt))) at next.1) in
      omega (arith, r.0, r.1)
