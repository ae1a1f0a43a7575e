-- Reads, writes and forgetting keep agreement.
use Rattle.std.proofs.lemmas.Bool.Decides.{nat_tests}
use Rattle.std.proofs.Common.{None, Option, Some}
use Rattle.std.specs.Option.{option_map}
use Prim.{Unit, tt}
use Prim.Native.Nat.{ℕ, ◌+◌, ◌-◌, ◌*◌, ◌/◌, ◌%◌, ◌^◌, ◌≤◌, ◌<◌}
use mathlib.Core.Path.{◌≡◌, refl, sym, ap, subst, ◌∙◌}
use mathlib.Core.Logic.{◌≢◌}
use mathlib.Core.Bool.{Bool, true, false, ◌&&◌, ◌||◌}
use native.Mathlib.Nat.{mod-eq_of_lt, mod-lt}
use native.Mathlib.Omega.{arith}
use borrow.Author.Tests.{ltb-true, ltb-false, eqb-true, eqb-false, eq-eqb}
use lib.Dec.{leb, ltb, eqb}
use lib.ListN.{set, length, get_or-eq_default, length-set}
use lib.Pow.{pow_pos}
use lib.Seq.{get_or-set_same, get_or-set_other}
use Rattle.isa.specs.declared.Register.{Register}
use Rattle.isa.specs.Register.{well_formed}
use Rattle.alu.specs.declared.Width.{Width}
use Rattle.alu.specs.declared.Width.TheVariants.{Byte, Word, Double, Quad}
use Rattle.alu.specs.Width.{bits, width_of}
use Rattle.machine.specs.declared.State.{State}
use Rattle.known.specs.Values.{extracted, inserted, merged}
use Rattle.known.specs.declared.Slot.{Slot}
use Rattle.known.specs.Registers.{unmarked, contents, slot_of, part_of, with_part}
use Rattle.machine.specs.States.{replaced}
use Rattle.machine.specs.Registers.{slot_at, whole_of, read_of, written}
use Rattle.concrete.specs.Concrete.{Processor, value, part, stored, assign}
use Rattle.concrete.specs.Agreement.{Allows, Agrees}
use Rattle.machine.proofs.Kept.{written-flags}
use Rattle.laws.proofs.Booleans.{and_right, by_test}

-- ---- the forms of a register of class 1

pub data Form : ℕ → ℕ → Type 0 where
  low_byte : Form 8 0
  high_byte : Form 8 8
  word : Form 16 0
  double : Form 32 0
  quad : Form 64 0

pub never : {X : Type 0} → false ≡ true → X
never e = absurd cc

low-form : (size : ℕ) → (eqb size 8 || eqb size 16 || eqb size 32 || eqb size 64) ≡ true → Form size 0
low-form size h =
    by_test (eqb size 8) (λ t. subst (λ (n : ℕ). Form n 0) (sym (eqb-true size 8 t)) low_byte)
    (λ t8. by_test (eqb size 16) (λ t. subst (λ (n : ℕ). Form n 0) (sym (eqb-true size 16 t)) word)
    (λ t16. by_test (eqb size 32) (λ t. subst (λ (n : ℕ). Form n 0) (sym (eqb-true size 32 t)) double)
    (λ t32. by_test (eqb size 64) (λ t. subst (λ (n : ℕ). Form n 0) (sym (eqb-true size 64 t)) quad)
    (λ t64. never (rw (t8, t16, t32, t64) at h)))))

form_of : (high : Bool) (size offset : ℕ)
    → (eqb offset 0 && (eqb size 8 || eqb size 16 || eqb size 32 || eqb size 64) || (eqb offset 8 && eqb size 8 && high)) ≡ true
    → Form size offset
form_of high size offset h =
    by_test (eqb offset 0)
    (λ t. let e : offset ≡ 0 = eqb-true offset 0 t in
    by_test (eqb size 8 || eqb size 16 || eqb size 32 || eqb size 64)
    (λ u. subst (λ (n : ℕ). Form size n) (sym e) (low-form size u))
    (λ u. never (rw (u, e) at h)))
    (λ t. by_test (eqb offset 8)
    (λ u. by_test (eqb size 8)
    (λ v.
    subst (λ (n : ℕ). Form n offset) (sym (eqb-true size 8 v))
    (subst (λ (n : ℕ). Form 8 n) (sym (eqb-true offset 8 u)) high_byte))
    (λ v. never (rw (t, u, v) at h)))
    (λ u. never (rw (t, u) at h)))

pub form : (r : Register) → well_formed r ≡ true → eqb r.class 1 ≡ true → Form r.size r.offset
form r h one =
    form_of (leb r.index 3) r.size r.offset (and_right (leb r.index 15) _ (rw one at h))

-- their sizes have widths
abbrev pub width_in : {size offset : ℕ} → Form size offset → Width
width_in low_byte = Byte
width_in high_byte = Byte
width_in word = Word
width_in double = Double
width_in quad = Quad

pub width-law : {size offset : ℕ} (f : Form size offset) → width_of size ≡ Some (width_in f)
width-law low_byte = refl
width-law high_byte = refl
width-law word = refl
width-law double = refl
width-law quad = refl

-- ---- reads

pub extract-law : {size offset : ℕ} (f : Form size offset) (x : ℕ) → extracted (width_in f) offset x ≡ x / 2 ^ offset % 2 ^ size
unfolding extracted
extract-law low_byte x = refl
extract-law high_byte x = refl
extract-law word x = refl
extract-law double x = refl
extract-law quad x = refl

pub on_value_lem : (f g : ℕ → ℕ) → ((x : ℕ) → f x ≡ g x) → (v : Option ℕ) (y : ℕ) → Allows v y → Allows (option_map f v) (g y)
on_value_lem f g e (Some x) y h = e x ∙ ap g h
on_value_lem f g e None y h = tt

pub reads : (s : State) (p : Processor) (r : Register) → Agrees s p → well_formed r ≡ true → Allows (read_of s r) (part p r)
unfolding read_of part_of part
reads s p r agrees ok =
    by_test (eqb r.class 1)
    (λ one. rw (one, width-law (form r ok one))
    (on_value_lem (extracted (width_in (form r ok one)) r.offset) (λ (x : ℕ). x / 2 ^ r.offset % 2 ^ r.size)
    (extract-law (form r ok one)) (whole_of s r.index) (value p r.index) (agrees.registers r.index)))
    (λ other. rw other tt)

-- a read value is below 2 ^ size
pub part-below : (p : Processor) (r : Register) → part p r < 2 ^ r.size
unfolding part
part-below p r = mod-lt _ (pow_pos r.size)

-- ---- writes

-- what is written: a known value, of which the part takes the low bits
abbrev pub Stores : ℕ → Option ℕ → ℕ → Type 0
Stores size (Some y) x = (y < 2 ^ 64) × (y % 2 ^ size ≡ x)
Stores size None x = Unit {0}

-- the bits outside the high byte
outside_high : (old : ℕ) → old - old / 256 % 256 * 256 ≡ old / 65536 * 65536 + old % 256
outside_high old = omega arith

high-below : (q u c : ℕ) → q < 2 ^ 48 → u < 256 → c < 256 → q * 65536 + u * 256 + c < 2 ^ 64
high-below q u c hq hu hc = omega arith

moved : (a q u c : ℕ) → a ≡ q + c → a + u ≡ q + u + c
moved a q u c e = omega arith

pub bits-law : {size offset : ℕ} (f : Form size offset) → bits (width_in f) ≡ size
bits-law low_byte = refl
bits-law high_byte = refl
bits-law word = refl
bits-law double = refl
bits-law quad = refl

within : {size offset : ℕ} → Form size offset → (x : ℕ) → x < 2 ^ size → x < 2 ^ 64
within low_byte x h = omega arith
within high_byte x h = omega arith
within word x h = omega arith
within double x h = omega arith
within quad x h = h

pub stores-known : {size offset : ℕ} → Form size offset → (v : Option ℕ) (x : ℕ) → Allows v x → x < 2 ^ size → Stores size v x
stores-known f (Some y) x h k = (rw h (within f x k), rw h (mod-eq_of_lt k))
stores-known f None x h k = tt

-- a known part in a known whole
pub insert-law : {size offset : ℕ} (f : Form size offset) (old y : ℕ) → old < 2 ^ 64 → ltb size 32 ≡ true
    → inserted (width_in f) offset old y ≡ stored old size offset (y % 2 ^ size) % 2 ^ 64
unfolding inserted stored
insert-law low_byte old y h small = omega arith
insert-law high_byte old y h small =
    moved (old - old / 256 % 256 * 256) (old / 65536 * 65536) (y % 256 * 256) (old % 256) (outside_high old)
    ∙ sym (mod-eq_of_lt (high-below (old / 65536) (y % 256) (old % 256) (omega arith) (omega arith) (omega arith)))
insert-law word old y h small = omega arith
insert-law double old y h small = never small
insert-law quad old y h small = never small

-- the whole register after a write
pub merge-law : {size offset : ℕ} (f : Form size offset) (old v : Option ℕ) (was x : ℕ) → was < 2 ^ 64
    → Allows old was → Stores size v x
    → Allows (merged (width_in f) offset old v) (stored was size offset x % 2 ^ 64)
unfolding merged stored
merge-law low_byte old None was x h o w = tt
merge-law high_byte old None was x h o w = tt
merge-law word old None was x h o w = tt
merge-law double old None was x h o w = tt
merge-law quad old None was x h o w = tt
merge-law low_byte None (Some y) was x h o w = tt
merge-law high_byte None (Some y) was x h o w = tt
merge-law word None (Some y) was x h o w = tt
merge-law low_byte (Some z) (Some y) was x h o w = rw (o, ← w.1) (insert-law low_byte was y h refl)
merge-law high_byte (Some z) (Some y) was x h o w = rw (o, ← w.1) (insert-law high_byte was y h refl)
merge-law word (Some z) (Some y) was x h o w = rw (o, ← w.1) (insert-law word was y h refl)
merge-law double old (Some y) was x h o w = omega (arith, w.1)
merge-law quad old (Some y) was x h o w = omega (arith, w.0, w.1)

contents-slot : (v : Option ℕ) → contents (slot_of v) ≡ v
contents-slot v = grind (arith, nat_tests)

-- a register that was set is what was put there, or does not exist and is unknown
pub replaced-same : (s : State) (index : ℕ) (slot : Slot) (y : ℕ) → Allows (contents slot) y → Allows (whole_of (replaced s index slot) index) y
unfolding slot_at replaced
replaced-same s index slot y h =
    by_test (ltb index 16)
    (λ t. by_test (ltb index (length s.registers))
    (λ u. rw (t, get_or-set_same s.registers index slot unmarked (ltb-true index (length s.registers) u)) h)
    (λ u.
    let out : length (set s.registers index slot) ≤ index = rw length-set (ltb-false index (length s.registers) u) in
    rw (t, get_or-eq_default (set s.registers index slot) unmarked out) tt))
    (λ t. rw t tt)

pub replaced-other : (s : State) (index k : ℕ) (slot : Slot) → k ≢ index → slot_at (replaced s index slot) k ≡ slot_at s k
unfolding slot_at replaced
replaced-other s index k slot other =
    let kept = get_or-set_other s.registers index k slot unmarked other in
    grind (arith, nat_tests, kept)

assign-status : (p : Processor) (r : Register) (x : ℕ) → (assign p r x).status ≡ p.status
unfolding assign
assign-status p r x = grind (arith, nat_tests)

with_part_lem : (w : Width) (offset : ℕ) (slot : Slot) (v : Option ℕ) (y : ℕ) → Allows (merged w offset (contents slot) v) y
    → Allows (contents (with_part (Some w) offset slot v)) y
unfolding with_part
with_part_lem w offset slot v y h = rw (contents-slot (merged w offset (contents slot) v)) h

-- what the registers are after a write
write-at : (s : State) (p : Processor) (r : Register) (v : Option ℕ) (x : ℕ) → Agrees s p → well_formed r ≡ true
    → (eqb r.class 1 ≡ true → Stores r.size v x)
    → (k : ℕ) → Allows (whole_of (written s r v) k) (value (assign p r x) k)
unfolding written assign
write-at s p r v x agrees ok what k =
    by_test (eqb r.class 1)
    (λ one. by_test (eqb k r.index)
    (λ t.
    let f = form r ok one in
    let new = with_part (Some (width_in f)) r.offset (slot_at s r.index) v in
    let here = merge-law f (whole_of s r.index) v (value p r.index) x (mod-lt _ (pow_pos 64)) (agrees.registers r.index) (what one) in
    rw (one, eqb-true k r.index t, eq-eqb r.index r.index refl, width-law f)
    (replaced-same s r.index new _ (with_part_lem (width_in f) r.offset (slot_at s r.index) v _ here)))
    (λ t.
    let e = replaced-other s r.index k (with_part (width_of r.size) r.offset (slot_at s r.index) v) (eqb-false k r.index t) in
    rw (one, t, e) (agrees.registers k)))
    (λ other. rw other (agrees.registers k))

pub writes : (s : State) (p : Processor) (r : Register) (v : Option ℕ) (x : ℕ) → Agrees s p → well_formed r ≡ true
    → (eqb r.class 1 ≡ true → Stores r.size v x)
    → Agrees (written s r v) (assign p r x)
writes s p r v x agrees ok what =
    record {
      registers = write-at s p r v x agrees ok what;
      flags = rw (written-flags s r v, assign-status p r x) agrees.flags;
    }
