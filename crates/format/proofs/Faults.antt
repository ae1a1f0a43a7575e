-- An instruction is modelled, and at fault, as reading tests it, exactly where the format says so. The tests go by tables: for given
-- operands two functions of the mnemonic's number are compared number by number, so nothing here rests on how the tests are written.
use Prim.Native.Nat.{ℕ, ◌/◌, ◌%◌, ◌<◌, ◌≤◌}
use mathlib.Core.Path.{◌≡◌, refl, sym, ◌∙◌}
use mathlib.Core.Logic.{◌⊎◌, inl, inr, ⊎_elim}
use mathlib.Core.Option.{Option, none, some}
use mathlib.Core.Bool.{Bool, true, false, cond, not, ◌&&◌, ◌||◌, or-true}
use native.Mathlib.Omega.{arith}
use lib.Dec.{eqb, leb}
use borrow.Author.Tests.{eqb-true, eq-eqb, ne_eqb, not-false}
use Rattle.isa.specs.declared.Register.{Register}
use Rattle.isa.specs.Modelled.{modelled, sizes_differ, outside, at_fault}
use Rattle.format.specs.Syntax.{Operand, Instruction, value_of, means_optional, means_instruction}
use Rattle.format.specs.Syntax.Operand.{reg, imm, mem}
use Rattle.format.specs.Faults.{NeedsNone, NeedsTwo, NeedsOne, Modelled, Sound}
use Rattle.format.specs.Faults.Modelled.{any_operands, two_operands, one_operand}
use Rattle.format.proofs.Tests.{both_false, never, Tests, of_eq, of_le, of_and, of_or, table, same-table}
use Rattle.laws.proofs.Booleans.{and_both, or-none}

-- the mnemonics that need no operand, two, or one
abbrev with_none : ℕ → Bool
with_none m = eqb m 1 || (eqb m 2 || eqb m 3)

abbrev with_two : ℕ → Bool
with_two m = eqb m 4 || (leb 6 m && leb m 12)

abbrev with_one : ℕ → Bool
with_one m = eqb m 5 || (eqb m 13 || (eqb m 14 || eqb m 15))

is_none : (m : ℕ) → Tests (with_none m) (NeedsNone m)
is_none m = of_or (of_eq m 1) (of_or (of_eq m 2) (of_eq m 3))

is-two : (m : ℕ) → Tests (with_two m) (NeedsTwo m)
is-two m = of_or (of_eq m 4) (of_and (of_le 6 m) (of_le m 12))

is_one_lem : (m : ℕ) → Tests (with_one m) (NeedsOne m)
is_one_lem m = of_or (of_eq m 5) (of_or (of_eq m 13) (of_or (of_eq m 14) (of_eq m 15)))

-- whether an instruction of mnemonic m is modelled, by its operands
abbrev needs : Bool → Option Operand → Option Operand → ℕ → Bool
needs true a b m = false
needs false none b m = with_none m
needs false (some (imm v)) b m = with_none m
needs false (some mem) b m = with_none m
needs false (some (reg r)) none m = with_none m || with_one m
needs false (some (reg r)) (some x) m = with_none m || with_two m

abbrev asked : Bool → Option Operand → Option Operand → ℕ → Bool
asked call a b m = modelled (means_instruction (record { address = 0; mnemonic = m; target = none; call = call; first = a; second = b; written = none; flags = none }))

asked_is : (call : Bool) (a b : Option Operand) (m : ℕ) → m < 35 → asked call a b m ≡ needs call a b m
unfolding table means_instruction Rattle.isa.specs.Mnemonics.named Rattle.isa.specs.Mnemonics.table
asked_is true a b m lt = same-table (asked true a b) (needs true a b) 35 refl m lt
asked_is false none b m lt = same-table (asked false none b) (needs false none b) 35 refl m lt
asked_is false (some (imm v)) b m lt = same-table (asked false (some (imm v)) b) (needs false (some (imm v)) b) 35 refl m lt
asked_is false (some mem) b m lt = same-table (asked false (some mem) b) (needs false (some mem) b) 35 refl m lt
asked_is false (some (reg r)) none m lt = same-table (asked false (some (reg r)) none) (needs false (some (reg r)) none) 35 refl m lt
asked_is false (some (reg r)) (some (reg x)) m lt = same-table (asked false (some (reg r)) (some (reg x))) (needs false (some (reg r)) (some (reg x))) 35 refl m lt
asked_is false (some (reg r)) (some (imm v)) m lt = same-table (asked false (some (reg r)) (some (imm v))) (needs false (some (reg r)) (some (imm v))) 35 refl m lt
asked_is false (some (reg r)) (some mem) m lt = same-table (asked false (some (reg r)) (some mem)) (needs false (some (reg r)) (some mem)) 35 refl m lt

needs-any : (a b : Option Operand) (m : ℕ) → with_none m ≡ true → needs false a b m ≡ true
needs-any none b m e = e
needs-any (some (imm v)) b m e = e
needs-any (some mem) b m e = e
needs-any (some (reg r)) none m e = rw e
needs-any (some (reg r)) (some x) m e = rw e

needed : (i : Instruction) → Modelled i → needs i.call i.first i.second i.mnemonic ≡ true
needed i (any_operands c n) = rw c (needs-any i.first i.second i.mnemonic ((is_none i.mnemonic).passes n))
needed i (two_operands c n a b) = rw (c, a.1, b.1, (is-two i.mnemonic).passes n) (or-true (with_none i.mnemonic))
needed i (one_operand c n a b) = rw (c, a.1, b, (is_one_lem i.mnemonic).passes n) (or-true (with_none i.mnemonic))

back : (i : Instruction) (call : Bool) (a b : Option Operand) → i.call ≡ call → i.first ≡ a → i.second ≡ b → needs call a b i.mnemonic ≡ true → Modelled i
back i true a b c p q e = never e
back i false none b c p q e = any_operands c ((is_none i.mnemonic).holds e)
back i false (some (imm v)) b c p q e = any_operands c ((is_none i.mnemonic).holds e)
back i false (some mem) b c p q e = any_operands c ((is_none i.mnemonic).holds e)
back i false (some (reg r)) none c p q e =
    ⊎_elim (λ n. any_operands c n) (λ n. one_operand c n (r, p) q) ((of_or (is_none i.mnemonic) (is_one_lem i.mnemonic)).holds e)
back i false (some (reg r)) (some x) c p q e =
    ⊎_elim (λ n. any_operands c n) (λ n. two_operands c n (r, p) (x, q)) ((of_or (is_none i.mnemonic) (is-two i.mnemonic)).holds e)

-- modelled, both ways
modelled-is : (i : Instruction) → i.mnemonic ≤ 34 → Tests (modelled (means_instruction i)) (Modelled i)
unfolding means_instruction
modelled-is i le =
    let same = asked_is i.call i.first i.second i.mnemonic (omega arith) in
    record { holds = λ e. back i i.call i.first i.second refl refl refl (sym same ∙ e); passes = λ h. same ∙ needed i h }

-- the fault itself, of an instruction that is modelled
abbrev four : ℕ → Bool
four f = eqb (f / 2 % 2) 1 && eqb (f / 4 % 2) 1 && eqb (f / 8 % 2) 1 && eqb (f / 16 % 2) 1

abbrev undeclared : ℕ → ℕ → Bool
undeclared m f = cond (eqb m 15) (not (four f && eqb (f / 1 % 2) 1)) (cond (eqb m 13 || eqb m 14) (not (four f)) false)

abbrev faulty : Option Operand → Option Operand → Option ℕ → ℕ → Bool
faulty a b f m =
    (sizes_differ (means_optional a) (means_optional b) || (not (eqb m 4) && (outside (means_optional a) || outside (means_optional b))))
    || undeclared m (value_of f)

abbrev judged_at : Bool → Option Operand → Option Operand → Option ℕ → ℕ → Bool
judged_at call a b f m = at_fault (means_instruction (record { address = 0; mnemonic = m; target = none; call = call; first = a; second = b; written = none; flags = f }))

fault-is : (call : Bool) (a b : Option Operand) (f : Option ℕ) (m : ℕ) → m < 35 → judged_at call a b f m ≡ (asked call a b m && faulty a b f m)
unfolding table means_instruction Rattle.isa.specs.Mnemonics.named Rattle.isa.specs.Mnemonics.table
fault-is call a b f m lt = same-table (judged_at call a b f) (λ m. asked call a b m && faulty a b f m) 35 refl m lt

after-true : (a b : Bool) → (a && b) ≡ false → a ≡ true → b ≡ false
after-true a b e t = rw t at e

-- sizes of registers of class 1
differ : (c d s t : ℕ) → (c ≡ 1 → d ≡ 1 → s ≡ t) → (eqb c 1 && eqb d 1 && not (eqb s t)) ≡ false
differ c d s t h =
    both_false (eqb c 1 && eqb d 1) (not (eqb s t))
    (λ e. let one = (of_and (of_eq c 1) (of_eq d 1)).holds e in rw (eq-eqb s t (h one.0 one.1)))

one_size : (a b : Option Operand) → ((x y : Register) → a ≡ some (reg x) → b ≡ some (reg y) → x.class ≡ 1 → y.class ≡ 1 → x.size ≡ y.size)
    → sizes_differ (means_optional a) (means_optional b) ≡ false
one_size none b h = refl
one_size (some (imm v)) b h = refl
one_size (some mem) b h = refl
one_size (some (reg x)) none h = refl
one_size (some (reg x)) (some (imm v)) h = refl
one_size (some (reg x)) (some mem) h = refl
one_size (some (reg x)) (some (reg y)) h = differ x.class y.class x.size y.size (h x y refl refl)

same_size : (a b : Option Operand) → sizes_differ (means_optional a) (means_optional b) ≡ false
    → (x y : Register) → a ≡ some (reg x) → b ≡ some (reg y) → x.class ≡ 1 → y.class ≡ 1 → x.size ≡ y.size
same_size a b e x y p q c d = eqb-true x.size y.size (not-false _ (rw (p, q, eq-eqb x.class 1 c, eq-eqb y.class 1 d) at e))

-- a register operand of class 1
inside : (a : Option Operand) → ((r : Register) → a ≡ some (reg r) → r.class ≡ 1) → outside (means_optional a) ≡ false
inside none h = refl
inside (some (imm v)) h = refl
inside (some mem) h = refl
inside (some (reg r)) h = rw (eq-eqb r.class 1 (h r refl))

of-class : (a : Option Operand) → outside (means_optional a) ≡ false → (r : Register) → a ≡ some (reg r) → r.class ≡ 1
of-class a e r p = eqb-true r.class 1 (not-false _ (rw p at e))

-- flags
bit-of : (o : Option ℕ) (flag : ℕ) → (f : ℕ) × (o ≡ some f) × (f / flag % 2 ≡ 1) → value_of o / flag % 2 ≡ 1
bit-of o flag h = rw h.1 h.2

declares : (o : Option ℕ) (flag : ℕ) → (value_of o ≡ 0 → ⊥) → value_of o / flag % 2 ≡ 1 → (f : ℕ) × (o ≡ some f) × (f / flag % 2 ≡ 1)
declares none flag some' e = absurd (some' refl)
declares (some f) flag some' e = (f, refl, e)

abbrev Counts : ℕ → Type 0
Counts m = (m ≡ 13) ⊎ ((m ≡ 14) ⊎ (m ≡ 15))

is-four : (f : ℕ) → Tests (four f) ((((f / 2 % 2 ≡ 1) × (f / 4 % 2 ≡ 1)) × (f / 8 % 2 ≡ 1)) × (f / 16 % 2 ≡ 1))
is-four f = of_and (of_and (of_and (of_eq (f / 2 % 2) 1) (of_eq (f / 4 % 2) 1)) (of_eq (f / 8 % 2) 1)) (of_eq (f / 16 % 2) 1)

four-of : (m f : ℕ) → undeclared m f ≡ false → Counts m → four f ≡ true
four-of m f e (inl q) = not-false _ (rw q at e)
four-of m f e (inr (inl q)) = not-false _ (rw q at e)
four-of m f e (inr (inr q)) = (and_both (four f) (eqb (f / 1 % 2) 1) (not-false _ (rw q at e))).0

carry-of : (m f : ℕ) → undeclared m f ≡ false → m ≡ 15 → f / 1 % 2 ≡ 1
carry-of m f e q = eqb-true (f / 1 % 2) 1 (and_both (four f) (eqb (f / 1 % 2) 1) (not-false _ (rw q at e))).1

all-declared : (i : Instruction) → Sound i → undeclared i.mnemonic (value_of i.flags) ≡ false
all-declared i h =
    let m = i.mnemonic in
    let v = value_of i.flags in
    let all : Counts m → four v ≡ true = λ n.
    let d = h.declared n in
    (is-four v).passes (((bit-of i.flags 2 d.0, bit-of i.flags 4 d.1), bit-of i.flags 8 d.2), bit-of i.flags 16 d.3) in
    by_count m v (eqb m 15) (eqb m 13 || eqb m 14) refl refl all (λ q. bit-of i.flags 1 (h.carry q))
  where
    by_count : (m v : ℕ) (t u : Bool) → eqb m 15 ≡ t → (eqb m 13 || eqb m 14) ≡ u → (Counts m → four v ≡ true) → (m ≡ 15 → v / 1 % 2 ≡ 1) → undeclared m v ≡ false
    by_count m v true u p q all carry =
        let e : m ≡ 15 = eqb-true m 15 p in
        rw (p, all (inr (inr e)), eq-eqb (v / 1 % 2) 1 (carry e))
    by_count m v false true p q all carry =
        let n : Counts m = ⊎_elim (λ e. inl e) (λ e. inr (inl e)) ((of_or (of_eq m 13) (of_eq m 14)).holds q) in
        rw (p, q, all n)
    by_count m v false false p q all carry = rw (p, q)

-- Sound as the tests have it
sound-passes : (i : Instruction) → Sound i → faulty i.first i.second i.flags i.mnemonic ≡ false
sound-passes i h =
    let m = i.mnemonic in
    let out : not (eqb m 4) ≡ true → (outside (means_optional i.first) || outside (means_optional i.second)) ≡ false = λ e.
    let other : m ≡ 4 → ⊥ = λ q. never (sym (rw (eq-eqb m 4 q)) ∙ e) in
    rw (inside i.first (λ r p. h.classes other r (inl p)), inside i.second (λ r p. h.classes other r (inr p))) in
    rw (one_size i.first i.second h.sizes, both_false (not (eqb m 4)) _ out, all-declared i h)

sound-holds : (i : Instruction) → faulty i.first i.second i.flags i.mnemonic ≡ false → Sound i
sound-holds i e =
    let m = i.mnemonic in
    let v = value_of i.flags in
    let parts = or-none _ (undeclared m v) e in
    let front = or-none (sizes_differ (means_optional i.first) (means_optional i.second)) _ parts.0 in
    record {
      sizes = same_size i.first i.second front.0;
      classes = λ other r.
          let o = or-none (outside (means_optional i.first)) (outside (means_optional i.second)) (after-true (not (eqb m 4)) _ front.1 (rw (ne_eqb m 4 other))) in
          ⊎_elim (λ p. of-class i.first o.0 r p) (λ p. of-class i.second o.1 r p);
      declared = λ n.
          let all = (is-four v).holds (four-of m v parts.1 n) in
          let pf : v / 2 % 2 ≡ 1 = all.0.0.0 in
          let some' : v ≡ 0 → ⊥ = omega arith in
          (declares i.flags 2 some' pf, declares i.flags 4 some' all.0.0.1, declares i.flags 8 some' all.0.1, declares i.flags 16 some' all.1);
      carry = λ n.
          let low : v / 1 % 2 ≡ 1 = carry-of m v parts.1 n in
          declares i.flags 1 (omega arith) low;
    }

fault-at : (i : Instruction) → i.mnemonic ≤ 34 → at_fault (means_instruction i) ≡ (modelled (means_instruction i) && faulty i.first i.second i.flags i.mnemonic)
unfolding means_instruction
fault-at i le = fault-is i.call i.first i.second i.flags i.mnemonic (omega arith)

pub no-fault : (i : Instruction) → i.mnemonic ≤ 34 → (Modelled i → Sound i) → at_fault (means_instruction i) ≡ false
no-fault i le h =
    fault-at i le
    ∙ both_false (modelled (means_instruction i)) (faulty i.first i.second i.flags i.mnemonic) (λ e. sound-passes i (h ((modelled-is i le).holds e)))

pub sound-where : (i : Instruction) → i.mnemonic ≤ 34 → at_fault (means_instruction i) ≡ false → Modelled i → Sound i
sound-where i le e h =
    sound-holds i (after-true (modelled (means_instruction i)) (faulty i.first i.second i.flags i.mnemonic) (sym (fault-at i le) ∙ e) ((modelled-is i le).passes h))
