-- Refusals: those that `?` hands on, and those made before a field.
use mathlib.Core.Path.{◌≡◌, ◌∙◌}
use mathlib.Core.List.{List}
use Prim.Native.Nat.{ℕ}
use mathlib.Core.Bool.{Bool, true, false}
use Rattle.std.specs.Prelude.{Result, Ok, Err, IsErrAnd, IfOk}
use Rattle.std.proofs.lemmas.Result.{err_from_is_err_and}
use Rattle.refusal.specs.declared.Fault.{Fault}
use Rattle.refusal.specs.declared.Refusal.{Refusal}
use Rattle.refusal.specs.Numbers.{refused}
use Rattle.sheet_field.specs.declared.Reader.{Reader}
use Rattle.sheet_field.specs.Field.{Place, field_at, check_field, tested_at, code_at, count_at}
use Rattle.sheet_field.specs.Reads.{Reads}
use Rattle.sheet_field.proofs.Fields.{checked-taken, checked-failed, checked-stays}

-- a refusal that `?` hands on
pub handed : {B : Type 0} {old new : Reader} {result : Result B Refusal} {r : Refusal} {p : Place}
    → IsErrAnd result (λ y. y ≡ r) → Reads {A = B} old new (Err r) p → Reads old new result p
handed {result = result} is reads = let e = err_from_is_err_and result is in rw (e.1, e.2) reads

-- and where it is the answer
pub handed_out : {B : Type 0} {result answer : Result B Refusal} {r : Refusal} → IsErrAnd result (λ y. y ≡ r) → Err r ≡ answer → result ≡ answer
handed_out {result = result} is e = let h = err_from_is_err_and result is in rw (h.1, h.2) e

-- a refusal made before a field stays
module _ (s : List ℕ) {p : Place} {r : Refusal} (e : Err r ≡ p) where
  pub field_stays : (n : ℕ) → Err r ≡ (field_at n s p).next
  unfolding field_at
  field_stays n = rw (← e)

  pub code_stays : (limit : ℕ) → Err r ≡ (code_at limit s p).next
  unfolding code_at check_field field_at
  code_stays limit = rw (← e)

  pub count_stays : (least most : ℕ) → Err r ≡ (count_at least most s p).next
  unfolding count_at check_field field_at
  count_stays least most = rw (← e)

-- a field that is tested: refused before the test, taken by it, and refused by it
module _ (n : ℕ) (test : ℕ → Bool) (fault : Fault) {old new : Reader} {result : Result ℕ Refusal}
    (reads : Reads old new result (field_at n old.bytes.now (Ok old.at)).next) where
  pub tested-stays : {r : Refusal} → result ≡ Err r → Reads {A = ℕ} old new (Err r) (tested_at n test fault old.bytes.now (Ok old.at)).next
  tested-stays is =
      let f = field_at n old.bytes.now (Ok old.at) in
      let r = rw is at reads in
      record { same = r.same; place = checked-stays (test f.value) fault old.at f r.place }

  module _ {x : ℕ} (is : result ≡ Ok x) (value : IfOk result (λ v. v ≡ (field_at n old.bytes.now (Ok old.at)).value)) where
    pub tested-taken : test x ≡ true
        → Reads {A = ℕ} old new (Ok x) (tested_at n test fault old.bytes.now (Ok old.at)).next × (x ≡ (tested_at n test fault old.bytes.now (Ok old.at)).value)
    tested-taken ok =
        let r = rw is at reads in let v = rw is at value in
        let taken = checked-taken fault old.at (field_at n old.bytes.now (Ok old.at)) (rw v at ok) r.place in
        (record { same = r.same; place = taken.0 }, v ∙ taken.1)

    pub tested-failed : {r : Refusal} → test x ≡ false → r ≡ refused fault old.at
        → Reads {A = ℕ} old new (Err r) (tested_at n test fault old.bytes.now (Ok old.at)).next
    tested-failed fails r-is =
        let r = rw is at reads in let v = rw is at value in
        record { same = r.same; place = rw r-is (checked-failed fault old.at (field_at n old.bytes.now (Ok old.at)) (rw v at fails) r.place) }
