-- Laws of a node's parts.
use Prim.Native.Nat.{ℕ, zero, suc, ◌+◌, ◌*◌, ◌≤◌}
use mathlib.Core.Path.{◌≡◌, sym, ap, ◌∙◌}
use mathlib.Core.List.{List}
use native.Mathlib.Omega.{arith}
use native.Mathlib.Numerals.{add-one}
use lib.ListN.{length, length-take}
use Rattle.std.specs.Prelude.{Ok, Err}
use Rattle.refusal.specs.declared.Refusal.{Refusal}
use Rattle.sheet_field.specs.Field.{Place, FieldReading, field_at, code_at, check_field, count_at, start_of}
use Rattle.sheet_field.proofs.Fields.{code-at, field-at, count_at_lem, count_most}
use Rattle.sheet_node.specs.Node.{map_at, statement_at, statements_from, types_from, types_of, addresses_from}

-- one type, statement or address more
pub types_more : (s : List ℕ) (p : Place) (k : ℕ) → (code_at 10 s (types_from s p k)).next ≡ types_from s p (k + 1)
unfolding types_from
types_more s p k = rw (add-one k)

pub statements-more : (types s : List ℕ) (p : Place) (k : ℕ)
    → (statement_at types s (statements_from types s p k).next).next ≡ (statements_from types s p (k + 1)).next
unfolding statements_from
statements-more types s p k = rw (add-one k)

pub addresses-more : (s : List ℕ) (p : Place) (k : ℕ) → (field_at 8 s (addresses_from s p k).next).next ≡ (addresses_from s p (k + 1)).next
unfolding addresses_from
addresses-more s p k = rw (add-one k)

-- one that is read where reading was refused leaves the refusal
pub types-keep : (s : List ℕ) (p : Place) (j : ℕ) (r : Refusal) → types_from s p j ≡ Err r → types_from s p (suc j) ≡ Err r
unfolding types_from code_at check_field field_at
types-keep s p j r e = rw e

pub statements-keep : (types s : List ℕ) (p : Place) (j : ℕ) (r : Refusal) → (statements_from types s p j).next ≡ Err r
    → (statements_from types s p (suc j)).next ≡ Err r
unfolding statements_from statement_at map_at check_field field_at
statements-keep types s p j r e = rw e

pub addresses-keep : (s : List ℕ) (p : Place) (j : ℕ) (r : Refusal) → (addresses_from s p j).next ≡ Err r
    → (addresses_from s p (suc j)).next ≡ Err r
unfolding addresses_from field_at
addresses-keep s p j r e = rw e

-- types that were read whole stand inside the sheet
pub types-end : (s : List ℕ) (p : Place) (k a : ℕ) → ((b : ℕ) → p ≡ Ok b → b ≤ length s) → types_from s p k ≡ Ok a
    → (start_of p + k ≡ a) × (a ≤ length s)
unfolding types_from
types-end s p zero a inside e = (rw e (omega arith), inside a e)
types-end s p (suc k) a inside e =
    let w = (code-at 10 s (types_from s p k) e).whole in
    let before = types-end s p k w.from inside w.there in
    (omega (arith, before.0, w.after), omega (arith, w.after, w.inside))

pub types-inside : (s : List ℕ) (p : Place) {v : FieldReading} {end : Place} {start : ℕ} → v ≡ count_at 0 32 s p
    → end ≡ types_from s v.next v.value → start ≡ start_of v.next → (a : ℕ) → end ≡ Ok a → start + v.value ≤ length s
types-inside s p {v} v-is end_is start_is a e =
    let inside : (b : ℕ) → v.next ≡ Ok b → b ≤ length s = λ b q.
    let w = (count_at_lem 0 32 s p (ap (λ (x : FieldReading). x.next) (sym v-is) ∙ q)).whole in
    omega (arith, w.after, w.inside) in
    let r = types-end s v.next v.value a inside (sym end_is ∙ e) in
    omega (arith, r.0, r.1, start_is)

-- addresses that were read whole stand inside the sheet
pub addresses-end : (s : List ℕ) (at n : ℕ) {a : ℕ} → at ≤ length s → (addresses_from s (Ok at) n).next ≡ Ok a → (a ≡ at + 8 * n) × (a ≤ length s)
unfolding addresses_from
addresses-end s at zero {a} inside e = let z : at ≡ a = cc in (omega arith, omega arith)
addresses-end s at (suc n) inside e =
    let w = field-at 8 s (addresses_from s (Ok at) n).next e in
    let before = addresses-end s at n inside w.there in
    (omega (arith, w.after, before.0), omega (arith, w.after, w.inside))

-- there are at most as many types as were counted
pub types-few : (end : Place) (from n : ℕ) (s : List ℕ) → length (types_of end from n s) ≤ n
types-few (Ok a) from n s = rw length-take (omega arith)
types-few (Err r) from n s = omega arith

-- there are at most 32 of them
pub types-32 : (s : List ℕ) (p : Place) {v : FieldReading} (end : Place) (from : ℕ) (types : List ℕ) → v ≡ count_at 0 32 s p
    → types ≡ types_of end from v.value s → length types ≤ 32
types-32 s p {v} end from types v-is types-is =
    let few : v.value ≤ 32 = rw v-is (count_most 0 32 s p) in
    rw types-is (omega (arith, types-few end from v.value s))
