-- Records and expressions that were read whole, at plain offsets. Assumes nothing.
use Prim.Native.Nat.{ℕ, ◌+◌, ◌-◌, ◌*◌, ◌≤◌, ◌<◌}
use mathlib.Core.Path.{◌≡◌, refl, sym, ap, ◌∙◌}
use mathlib.Core.List.{List}
use mathlib.Core.Bool.{true, false, false≢true}
use native.Mathlib.Omega.{arith}
use lib.ListN.{length, set}
use borrow.Author.Tests.{ne_eqb}
use Rattle.std.specs.Prelude.{Ok}
use Rattle.refusal.specs.declared.Fault.TheVariants.{Code, Count, Tree, Constant}
use Rattle.sheet_field.specs.Field.{Place, FieldReading, little, field_at, start_of, code_at, count_at, WentOn}
use Rattle.sheet_field.proofs.Fields.{field-whole, field-at, judge-at, check-at, code-at, count_most}
use Rattle.sheet_field.proofs.Counted.{back}
use Rattle.sheet_expression.specs.Expression.{has_argument, argument_at, constant_at, record_at, Taken, taken_more, taken_from, expression_at}
use Rattle.sheet_expression.specs.Promises.{Took, RecordIs}
use Rattle.sheet_expression.proofs.Lists.{Stored, stored_more, taken_next, taken-keep, took-all}
use Rattle.sheet_expression.proofs.Accepted.{constant-at, argument-at, start-at}

-- a field that was read whole
pub field-from : (n : ℕ) (s : List ℕ) (at : ℕ) {b : ℕ} → (field_at n s (Ok at)).next ≡ Ok b
    → (at + n ≤ length s) × (field_at n s (Ok at) ≡ record { value = little s at n; next = Ok (at + n) })
field-from n s at on =
    let w = field-at n s (Ok at) on in
    let same : at ≡ w.from = cc w.there in
    let inside : at + n ≤ length s = omega (arith, same, w.inside) in
    (inside, sym (field-whole n s {p = Ok at} refl inside refl refl))

pub code-from : (limit : ℕ) (s : List ℕ) (at : ℕ) {b : ℕ} → (code_at limit s (Ok at)).next ≡ Ok b
    → (at + 1 ≤ length s) × (code_at limit s (Ok at) ≡ record { value = little s at 1; next = Ok (at + 1) })
code-from limit s at on =
    let c = code-at limit s (Ok at) on in
    let f = field-from 1 s at (ap (λ (x : FieldReading). x.next) (sym c.is) ∙ on) in
    (f.0, c.is ∙ f.1)

argument-from : (variables kind : ℕ) (s : List ℕ) (at : ℕ) {b : ℕ} → has_argument kind ≡ true → (argument_at variables kind s (Ok at)).next ≡ Ok b
    → (at + 1 ≤ length s) × (argument_at variables kind s (Ok at) ≡ record { value = little s at 1; next = Ok (at + 1) })
unfolding argument_at
argument-from variables kind s at has on =
    let c = check-at _ Code at (field_at 1 s (Ok at)) (rw has at on) in
    let f = field-from 1 s at c.1 in
    (f.0, rw has (c.2 ∙ f.1))

argument-bare : (variables kind : ℕ) (s : List ℕ) (at : ℕ) → has_argument kind ≡ false → argument_at variables kind s (Ok at) ≡ record { value = 0; next = Ok at }
unfolding argument_at
argument-bare variables kind s at none = rw none

constant-from : (s : List ℕ) (at : ℕ) {b : ℕ} → (constant_at 1 s (Ok at)).next ≡ Ok b
    → (at + 8 ≤ length s) × (constant_at 1 s (Ok at) ≡ record { value = little s at 8; next = Ok (at + 8) })
unfolding constant_at
constant-from s at on = field-from 8 s at on

constant-bare : (kind : ℕ) (s : List ℕ) (p : Place) → (kind ≡ 1 → ⊥) → constant_at kind s p ≡ record { value = 0; next = p }
unfolding constant_at
constant-bare kind s p other = rw (ne_eqb kind 1 other)

-- the stages of a record that was read whole
module _ (variables depth left : ℕ) (s : List ℕ) (at : ℕ) (on : WentOn (record_at variables depth left s (Ok at)).next) where
  value_on : (constant_at (code_at 9 s (Ok at)).value s (argument_at variables (code_at 9 s (Ok at)).value s (code_at 9 s (Ok at)).next).next).next ≡ Ok on.0
  unfolding record_at
  value_on =
      let argument = argument_at variables (code_at 9 s (Ok at)).value s (code_at 9 s (Ok at)).next in
      let value = constant_at (code_at 9 s (Ok at)).value s argument.next in
      let fits = judge-at _ Constant (start_of argument.next) _ on.1 in
      let last = judge-at _ Tree (start_of value.next) _ fits.1 in
      (judge-at _ Tree at value.next last.1).1

  argument-on : WentOn (argument_at variables (code_at 9 s (Ok at)).value s (code_at 9 s (Ok at)).next).next
  argument-on = constant-at (code_at 9 s (Ok at)).value s _ value_on

  kind-read : (at + 1 ≤ length s) × (code_at 9 s (Ok at) ≡ record { value = little s at 1; next = Ok (at + 1) })
  kind-read = code-from 9 s at (argument-at variables (code_at 9 s (Ok at)).value s (code_at 9 s (Ok at)).next argument-on.1).1

  pub kind-inside : at + 1 ≤ length s
  kind-inside = kind-read.0

  place_is : (record_at variables depth left s (Ok at)).next ≡ (constant_at (code_at 9 s (Ok at)).value s (argument_at variables (code_at 9 s (Ok at)).value s (code_at 9 s (Ok at)).next).next).next
  place_is = on.1 ∙ sym value_on

  -- a record from its argument and its value
  read_is : {argument value : FieldReading} → argument ≡ argument_at variables (little s at 1) s (Ok (at + 1)) → value ≡ constant_at (little s at 1) s argument.next
      → {r : ℕ × ℕ} {end : ℕ} → r.0 ≡ little s at 1 + 16 * argument.value → r.1 ≡ value.value → Ok end ≡ value.next
      → RecordIs r end (record_at variables depth left s (Ok at))
  unfolding record_at
  read_is argument_is value-is tag_is r-value end_is =
      record {
        tag = tag_is ∙ rw (kind-read.1, argument_is);
        value = r-value ∙ rw (kind-read.1, value-is, argument_is);
        place = end_is ∙ sym (place_is ∙ rw (kind-read.1, value-is, argument_is));
      }

  module _ {kind : ℕ} (kind-is : kind ≡ little s at 1) where
    argument-there : WentOn (argument_at variables kind s (Ok (at + 1))).next
    argument-there = rw (kind-is) (rw kind-read.1 at argument-on)

    value_there : (constant_at kind s (argument_at variables kind s (Ok (at + 1))).next).next ≡ Ok on.0
    value_there = rw (kind-is) (rw kind-read.1 at value_on)

    -- with an argument
    module _ (has : has_argument kind ≡ true) where
      argument-read : (at + 1 + 1 ≤ length s) × (argument_at variables kind s (Ok (at + 1)) ≡ record { value = little s (at + 1) 1; next = Ok (at + 1 + 1) })
      argument-read = argument-from variables kind s (at + 1) has argument-there.1

      pub argument-inside : at + 1 + 1 ≤ length s
      argument-inside = argument-read.0

      pub argument-record : {r : ℕ × ℕ} {x end : ℕ} → (kind ≡ 1 → ⊥) → x ≡ little s (at + 1) 1 → r ≡ (kind + 16 * x, 0) → end ≡ at + 1 + 1
          → RecordIs r end (record_at variables depth left s (Ok at))
      argument-record {r} {x} other x-is r-is end-is =
          read_is {argument = record { value = x; next = Ok (at + 1 + 1) }} {value = record { value = 0; next = Ok (at + 1 + 1) }}
          (rw (← kind-is, argument-read.1, x-is)) (rw (← kind-is, constant-bare kind s (Ok (at + 1 + 1)) other))
          (rw (r-is, ← kind-is)) (rw r-is) (rw end-is)

    -- a constant
    module _ (one : kind ≡ 1) where
      width_read : (at + 1 + 1 ≤ length s) × (argument_at variables kind s (Ok (at + 1)) ≡ record { value = little s (at + 1) 1; next = Ok (at + 1 + 1) })
      width_read = argument-read (rw one)

      constant-read : (at + 1 + 1 + 8 ≤ length s) × (constant_at 1 s (Ok (at + 1 + 1)) ≡ record { value = little s (at + 1 + 1) 8; next = Ok (at + 1 + 1 + 8) })
      constant-read = constant-from s (at + 1 + 1) (rw (width_read.1, one) at value_there)

      pub constant-inside : at + 1 + 1 + 8 ≤ length s
      constant-inside = constant-read.0

      pub constant-record : {r : ℕ × ℕ} {x v end : ℕ} → x ≡ little s (at + 1) 1 → v ≡ little s (at + 1 + 1) 8 → r ≡ (kind + 16 * x, v) → end ≡ at + 1 + 1 + 8
          → RecordIs r end (record_at variables depth left s (Ok at))
      constant-record {r} {x} {v} x-is v-is r-is end-is =
          read_is {argument = record { value = x; next = Ok (at + 1 + 1) }} {value = record { value = v; next = Ok (at + 1 + 1 + 8) }}
          (rw (← kind-is, width_read.1, x-is)) (rw (← kind-is, one, constant-read.1, v-is))
          (rw (r-is, ← kind-is)) (rw r-is) (rw end-is)

    pub bare-record : {r : ℕ × ℕ} {end : ℕ} → has_argument kind ≡ false → r ≡ (kind, 0) → end ≡ at + 1
        → RecordIs r end (record_at variables depth left s (Ok at))
    bare-record {r} none r-is end-is =
        let other : kind ≡ 1 → ⊥ = λ one. let has : has_argument 1 ≡ false = rw one at none in false≢true (sym has) in
        read_is {argument = record { value = 0; next = Ok (at + 1) }} {value = record { value = 0; next = Ok (at + 1) }}
        (rw (← kind-is, argument-bare variables kind s (at + 1) none)) (rw (← kind-is, constant-bare kind s (Ok (at + 1)) other))
        (rw (r-is, ← kind-is) (omega arith)) (rw r-is) (rw end-is)

-- the first k records of an expression whose count stands at an offset
abbrev pub up_to : ℕ → List ℕ → ℕ → ℕ → Taken
up_to variables s from k = taken_from variables (little s from 2) s (Ok (from + 2)) k

-- an expression that was read whole: its count, and each of its records
module _ (variables : ℕ) (s : List ℕ) (from : ℕ) (on : WentOn (expression_at variables s (Ok from)).next) where
  start : WentOn (count_at 1 128 s (Ok from)).next
  unfolding expression_at
  start = let n = count_at 1 128 s (Ok from) in start-at variables n.value s n.next n.value on.1

  counted : (from + 2 ≤ length s) × (count_at 1 128 s (Ok from) ≡ record { value = little s from 2; next = Ok (from + 2) })
  unfolding count_at
  counted =
      let c = check-at _ Count from (field_at 2 s (Ok from)) start.1 in
      let f = field-from 2 s from c.1 in
      (f.0, c.2 ∙ f.1)

  pub count-inside : from + 2 ≤ length s
  count-inside = counted.0

  pub count-few : little s from 2 ≤ 128
  count-few = rw counted.1 at (count_most 1 128 s (Ok from))

  expression-is : expression_at variables s (Ok from) ≡ up_to variables s from (little s from 2)
  unfolding expression_at
  expression-is = rw counted.1

  module _ (k : ℕ) (below : k < little s from 2) {at : ℕ} {before after : List ℕ} (stored : Stored (up_to variables s from k).depth (Ok at) before after (up_to variables s from k)) where
    pub record-there : WentOn (record_at variables (up_to variables s from k).depth (little s from 2 - k - 1) s (Ok at)).next
    unfolding taken_more
    record-there =
        let n : ℕ = little s from 2 in
        let w = back (λ j. (taken_from variables n s (Ok (from + 2)) j).next) (taken-keep variables n s (Ok (from + 2))) n (k + 1) (ap (λ (t : Taken). t.next) (sym expression-is) ∙ on.1) (omega arith) in
        (w.0, rw stored.place (ap (λ (t : Taken). t.next) (sym (taken_next variables n s (Ok (from + 2)) k)) ∙ w.1))

    pub stored-record : {r : ℕ × ℕ} {end : ℕ} → RecordIs r end (record_at variables (up_to variables s from k).depth (little s from 2 - k - 1) s (Ok at)) → 2 * k + 2 ≤ length before
        → Stored (up_to variables s from (k + 1)).depth (Ok end) before (set (set after (2 * k) r.0) (2 * k + 1) r.1) (up_to variables s from (k + 1))
    stored-record is fits =
        let more = stored_more variables (little s from 2) s (Ok (from + 2)) k stored refl fits in
        record { trees = refl; place = is.place ∙ more.place; list = rw (is.tag, is.value) more.list }

  pub took-whole : (k : ℕ) {next : Place} {before after : List ℕ} → k ≡ little s from 2
      → Stored (up_to variables s from k).depth next before after (up_to variables s from k) → Took k next before after (expression_at variables s (Ok from))
  took-whole k all stored = rw (all, expression-is) (took-all variables (little s from 2) s (Ok (from + 2)) (rw all at stored) count-few)

pub stored-first : (variables : ℕ) (s : List ℕ) (from : ℕ) (before : List ℕ) → Stored (up_to variables s from 0).depth (Ok (from + 2)) before before (up_to variables s from 0)
unfolding taken_from
stored-first variables s from before = record { trees = refl; place = refl; list = refl }
