-- A field that is written is read, and one that is read was written: the n bytes of a number and the number that n bytes spell undo each other, by
-- induction on n, with quotient and remainder by 256.
use Prim.Native.Nat.{ℕ, zero, suc, ◌+◌, ◌*◌, ◌/◌, ◌%◌, ◌^◌, ◌<◌, ◌≤◌}
use mathlib.Core.Path.{◌≡◌, refl, sym}
use mathlib.Core.List.{List, [], ◌++◌}
use mathlib.Core.Bool.{Bool, true, ◌&&◌}
use native.Mathlib.Omega.{arith}
use native.Mathlib.Nat.{pow-suc}
use lib.Dec.{leb, ltb}
use lib.ListN.{length, get_or}
use borrow.Author.Tests.{le-leb, lt-ltb, ltb-true}
use Rattle.std.specs.Prelude.{Ok}
use Rattle.refusal.specs.declared.Fault.{Fault}
use Rattle.refusal.specs.declared.Fault.TheVariants.{Code, Count}
use Rattle.sheet_field.specs.Field.{little, field_at, check_field, code_at, count_at, start_of, Place}
use Rattle.sheet_field.proofs.Fields.{check-at, field-at, count_at_lem}
use Rattle.sheet_bytes.specs.Write.{Bytes, bytes}
use Rattle.sheet_bytes.proofs.Spans.{Stands, Spans, spans-none, spans-join}

stands-little : (s : List ℕ) (n a v b : ℕ) → v < 256 ^ n → Stands s a (bytes n v) b → (little s a n ≡ v) × (b ≡ a + n)
unfolding little bytes
stands-little s zero a v b lt h = (omega arith, omega (arith, h))
stands-little s (suc n) a v b lt h =
    let rest : v / 256 < 256 ^ n = omega (arith, rw pow-suc at lt) in
    let t = stands-little s n (suc a) (v / 256) b rest h.2 in
    (rw (h.1, t.0) (omega arith), omega (arith, t.1))

stands-inside : (s : List ℕ) (n a v b : ℕ) → Stands s a (bytes (suc n) v) b → b ≤ length s
unfolding bytes
stands-inside s zero a v b h = let e = h.2 in omega (arith, e, h.0)
stands-inside s (suc n) a v b h = stands-inside s n (suc a) (v / 256) b h.2

little-stands : (s : List ℕ) → Bytes s → (n a : ℕ) → a + n ≤ length s → (little s a n < 256 ^ n) × Stands s a (bytes n (little s a n)) (a + n)
unfolding little bytes
little-stands s small zero a le = (omega arith, omega arith)
little-stands s small (suc n) a le =
    let t = little-stands s small n (suc a) (omega arith) in
    let low = small a in
    let x = little s (suc a) n in
    let d : (get_or s a 0 + 256 * x) / 256 ≡ x = omega arith in
    let m : (get_or s a 0 + 256 * x) % 256 ≡ get_or s a 0 = omega arith in
    let e : a + suc n ≡ suc a + n = omega arith in
    (rw pow-suc (omega (arith, t.0)), (omega arith, sym m, rw (d, e) t.1))

-- what was written: where it stood, and its bytes
pub record Written (s : List ℕ) (p : Place) (bs : List ℕ) (b : ℕ) : Type 0 where
  pub from : ℕ
  pub there : p ≡ Ok from
  pub spans : Spans s from bs b

pub written_none : {s : List ℕ} {p : Place} {b : ℕ} → p ≡ Ok b → Written s p [] b
written_none {s} {p} {b} e = record { from = b; there = e; spans = spans-none }

pub written-join : {s : List ℕ} {p q : Place} {x y : List ℕ} {c : ℕ} (w : Written s q y c) → Written s p x w.from → Written s p (x ++ y) c
written-join w before = record { from = before.from; there = before.there; spans = spans-join before.spans w.spans }

pub written_as : {s : List ℕ} {p : Place} {b : ℕ} {x y : List ℕ} → x ≡ y → Written s p x b → Written s p y b
written_as e h = rw (← e) h

pub written_at : {s : List ℕ} {p q : Place} {b : ℕ} {x : List ℕ} → p ≡ q → Written s p x b → Written s q x b
written_at e h = rw (← e) h

pub field-read : {s : List ℕ} {a b : ℕ} (n v : ℕ) → 0 < n → v < 256 ^ n → Spans s a (bytes n v) b
    → field_at n s (Ok a) ≡ record { value = v; next = Ok b }
unfolding field_at
field-read n v pos lt h = go n v pos lt h
  where
    go : {s : List ℕ} {a b : ℕ} (n v : ℕ) → 0 < n → v < 256 ^ n → Spans s a (bytes n v) b → field_at n s (Ok a) ≡ record { value = v; next = Ok b }
    go zero v pos lt h = absurd (omega arith)
    go {s} {a} {b} (suc n) v pos lt h =
        let t = stands-little s (suc n) a v b lt h.it in
        let inside = stands-inside s n a v b h.it in
        let fits : leb (a + suc n) (length s) ≡ true = le-leb (a + suc n) (length s) (omega (arith, t.1)) in
        rw (fits, t.0, t.1)

pub record FieldWritten (n : ℕ) (s : List ℕ) (p : Place) (b v : ℕ) : Type 0 where
  pub written : Written s p (bytes n v) b
  pub small : v < 256 ^ n

whole-written : (n : ℕ) (s : List ℕ) (p : Place) (a b : ℕ) → Bytes s → p ≡ Ok a → b ≡ a + n → a + n ≤ length s
    → FieldWritten n s p b (field_at n s p).value
unfolding field_at
whole-written n s p a b small there after inside =
    let t = little-stands s small n a inside in
    rw (there, le-leb (a + n) (length s) inside, after) record { written = record { from = a; there = refl; spans = record { it = t.1 } }; small = t.0 }

pub field-written : (n : ℕ) (s : List ℕ) (p : Place) {b : ℕ} → Bytes s → (field_at n s p).next ≡ Ok b
    → FieldWritten n s p b (field_at n s p).value
field-written n s p {b} small e =
    let w = field-at n s p e in
    whole-written n s p w.from b small w.there w.after w.inside

-- a field with a check
module _ (n : ℕ) (ok : ℕ → Bool) (fault : Fault) where
  pub checked-read : {s : List ℕ} {a b : ℕ} (v : ℕ) → 0 < n → v < 256 ^ n → ok v ≡ true → Spans s a (bytes n v) b
      → check_field (ok (field_at n s (Ok a)).value) fault a (field_at n s (Ok a)) ≡ record { value = v; next = Ok b }
  unfolding check_field
  checked-read v pos lt o h = rw (field-read n v pos lt h, o)

  pub record CheckedWritten (s : List ℕ) (p : Place) (b v : ℕ) : Type 0 where
    pub written : Written s p (bytes n v) b
    pub small : v < 256 ^ n
    pub good : ok v ≡ true

  pub checked-written : (s : List ℕ) (p : Place) {b : ℕ} → Bytes s → (check_field (ok (field_at n s p).value) fault (start_of p) (field_at n s p)).next ≡ Ok b
      → CheckedWritten s p b (check_field (ok (field_at n s p).value) fault (start_of p) (field_at n s p)).value
  checked-written s p small e =
      let c = check-at _ fault (start_of p) (field_at n s p) e in
      let f = field-written n s p small c.1 in
      rw c.2 record { written = f.written; small = f.small; good = c.0 }

pub code_read : {s : List ℕ} {a b : ℕ} (limit v : ℕ) → limit ≤ 256 → v < limit → Spans s a (bytes 1 v) b
    → code_at limit s (Ok a) ≡ record { value = v; next = Ok b }
unfolding code_at
code_read limit v few lt h = checked-read 1 (λ v. ltb v limit) Code v (omega arith) (omega arith) (lt-ltb _ _ lt) h

pub record CodeWritten (limit : ℕ) (s : List ℕ) (p : Place) (b v : ℕ) : Type 0 where
  pub written : Written s p (bytes 1 v) b
  pub below : v < limit

pub code-written : (limit : ℕ) (s : List ℕ) (p : Place) {b : ℕ} → Bytes s → (code_at limit s p).next ≡ Ok b
    → CodeWritten limit s p b (code_at limit s p).value
unfolding code_at
code-written limit s p small e =
    let c = checked-written 1 (λ v. ltb v limit) Code s p small e in
    record { written = c.written; below = ltb-true _ _ c.good }

pub count-read : {s : List ℕ} {a b : ℕ} (least most v : ℕ) → most < 65536 → least ≤ v → v ≤ most → Spans s a (bytes 2 v) b
    → count_at least most s (Ok a) ≡ record { value = v; next = Ok b }
unfolding count_at
count-read least most v few ge le h =
    checked-read 2 (λ v. leb least v && leb v most) Count v (omega arith) (omega arith) (rw (le-leb _ _ ge, le-leb _ _ le)) h

pub record CountWritten (least most : ℕ) (s : List ℕ) (p : Place) (b v : ℕ) : Type 0 where
  pub written : Written s p (bytes 2 v) b
  pub at_least : least ≤ v
  pub at_most : v ≤ most

pub count-written : (least most : ℕ) (s : List ℕ) (p : Place) {b : ℕ} → Bytes s → (count_at least most s p).next ≡ Ok b
    → CountWritten least most s p b (count_at least most s p).value
count-written least most s p {b} small e =
    let c = count_at_lem least most s p e in
    let w : CheckedWritten 2 (λ v. leb least v && leb v most) Count s p b (count_at least most s p).value = unfold count_at in checked-written 2 (λ v. leb least v && leb v most) Count s p small e in
    record { written = w.written; at_least = c.at_least; at_most = c.at_most }
