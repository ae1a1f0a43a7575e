-- Laws of numbers, of fields and their checks, and of what readers return.
use Prim.Native.Nat.{ℕ, zero, suc, ◌+◌, ◌-◌, ◌*◌, ◌^◌, ◌≤◌, ◌<◌}
use mathlib.Core.Path.{◌≡◌, refl, ◌∙◌}
use mathlib.Core.List.{List}
use lib.ListN.{length, get_or}
use native.Mathlib.Omega.{arith}
use native.Mathlib.Numerals.{add-one}
use native.Mathlib.Nat.{add-zero, zero-add, add-suc, suc-add, pow-suc}
use borrow.Author.Tests.{le-leb, lt-leb}
use mathlib.Core.Bool.{Bool, true, false}
use lib.Dec.{leb}
use borrow.Author.Tests.{leb-true, ltb-true}
use Rattle.sheet_field.specs.Field.{Place, FieldReading, little, field_at, check_field, count_at, judge, keep, start_of, code_at, WentOn, read_as}
use Rattle.std.specs.Prelude.{Ok, Err, IsOk}
use Rattle.std.specs.Int.{from_le_bytes, w64}
use Rattle.refusal.specs.declared.Fault.{Fault}
use Rattle.refusal.specs.declared.Fault.TheVariants.{Ends, Code, Count}
use Rattle.refusal.specs.declared.Refusal.{Refusal}
use Rattle.refusal.specs.Numbers.{refused}
use Rattle.laws.proofs.Booleans.{and_left, and_right}

pub little-one : (s : List ℕ) (at : ℕ) → little s at 1 ≡ get_or s at 0
unfolding little
little-one s at = omega arith

pub little-two : (s : List ℕ) (at : ℕ) → little s at 2 ≡ get_or s at 0 + 256 * get_or s (at + 1) 0
unfolding little
little-two s at = rw (add-one at) (omega arith)

pub little-add : (s : List ℕ) (at m n : ℕ) → little s at (m + n) ≡ little s at m + 256 ^ m * little s (at + m) n
unfolding little
little-add s at zero n = rw (zero-add, add-zero) (omega arith)
little-add s at (suc m) n =
    rw (suc-add, little-add s (suc at) m n, suc-add, ← add-suc, pow-suc) (omega arith)

-- n bytes spell a number below 256 to the n
pub little-small : (s : List ℕ) (n at : ℕ) → ((i : ℕ) → get_or s i 0 < 256) → little s at n < 256 ^ n
unfolding little
little-small s zero at bytes = omega arith
little-small s (suc n) at bytes = rw pow-suc (omega (arith, bytes at, little-small s n (suc at) bytes))

-- the cases of `field_at`: a whole field, one that the sheet's end cuts, and none where reading was refused
pub field-whole : (n : ℕ) (s : List ℕ) {p : Place} {at v m : ℕ}
    → p ≡ Ok at → at + n ≤ length s → v ≡ little s at n → m ≡ n
    → ◌≡◌ {A = FieldReading} (record { value = v; next = Ok (at + m) }) (field_at n s p)
unfolding field_at
field-whole n s p-at fits v-is m-is = rw (p-at, le-leb _ _ fits, v-is, m-is)

pub field_cut : (n : ℕ) (s : List ℕ) {p : Place} {at : ℕ}
    → p ≡ Ok at → length s < at + n
    → ◌≡◌ {A = FieldReading} (record { value = 0; next = Err (refused Ends at) }) (field_at n s p)
unfolding field_at
field_cut n s p-at out = rw (p-at, lt-leb _ _ out)

pub field-refused : (n : ℕ) (s : List ℕ) {p : Place} {r : Refusal}
    → p ≡ Err r
    → ◌≡◌ {A = FieldReading} (record { value = 0; next = Err r }) (field_at n s p)
unfolding field_at
field-refused n s p-refused = rw p-refused

-- a checked value is below whatever the check says
kept-below : (ok : Bool) (fault : Fault) (at v most : ℕ) (p : Place) → (ok ≡ true → v ≤ most) → keep (judge ok fault at p) v ≤ most
kept-below true fault at v most (Ok next) h = h refl
kept-below false fault at v most (Ok next) h = omega arith
kept-below ok fault at v most (Err r) h = omega arith

pub check-below : (ok : Bool) (fault : Fault) (at : ℕ) (f : FieldReading) (most : ℕ) → (ok ≡ true → f.value ≤ most) → (check_field ok fault at f).value ≤ most
unfolding check_field
check-below ok fault at f most h = kept-below ok fault at f.value most f.next h

pub code-most : (limit : ℕ) (s : List ℕ) (p : Place) → (code_at limit s p).value ≤ limit
unfolding code_at
code-most limit s p = check-below _ Code (start_of p) (field_at 1 s p) limit (λ e. omega (arith, ltb-true (field_at 1 s p).value limit e))

pub count_most : (least most : ℕ) (s : List ℕ) (p : Place) → (count_at least most s p).value ≤ most
unfolding count_at check_field
count_most least most s p =
    kept-below _ Count (start_of p) (field_at 2 s p).value most (field_at 2 s p).next
    (λ e. leb-true _ _ (and_right (leb least (field_at 2 s p).value) _ e))

-- Where reading goes on after a stage, it went on before it, and the stage's check held.
pub judge-at : (ok : Bool) (fault : Fault) (at : ℕ) (p : Place) {a : ℕ} → judge ok fault at p ≡ Ok a → (ok ≡ true) × (p ≡ Ok a)
judge-at true fault at (Ok next) e = (refl, e)
judge-at false fault at (Ok next) e = (cc, cc)
judge-at ok fault at (Err r) e = (cc, cc)

-- a whole field: where it stood, and its value
pub record Whole (n : ℕ) (s : List ℕ) (p : Place) (a : ℕ) : Type 0 where
  pub from : ℕ
  pub there : p ≡ Ok from
  pub after : a ≡ from + n
  pub inside : from + n ≤ length s

whole-at : (n : ℕ) (s : List ℕ) (b a : ℕ) (t : Bool) → leb (b + n) (length s) ≡ t
    → (field_at n s (Ok b)).next ≡ Ok a → Whole n s (Ok b) a
unfolding field_at
whole-at n s b a true e q = record { from = b; there = refl; after = cc (q, e); inside = leb-true _ _ e }
whole-at n s b a false e q = absurd (let z = rw e at q in cc)

pub field-at : (n : ℕ) (s : List ℕ) (p : Place) {a : ℕ} → (field_at n s p).next ≡ Ok a → Whole n s p a
unfolding field_at
field-at n s (Ok b) {a} e = whole-at n s b a _ refl e
field-at n s (Err r) e = absurd cc

-- a field that its check took is as it was read
pub check-at : (ok : Bool) (fault : Fault) (at : ℕ) (f : FieldReading) {a : ℕ} → (check_field ok fault at f).next ≡ Ok a
    → (ok ≡ true) × (f.next ≡ Ok a) × (check_field ok fault at f ≡ f)
unfolding check_field
check-at ok fault at f {a} e =
    let j = judge-at ok fault at f.next e in
    (j.0, j.1, taken f.next j.0 j.1)
  where
    taken : (p : Place) → ok ≡ true → p ≡ Ok a → ◌≡◌ {A = FieldReading} (record { value = keep (judge ok fault at p) f.value; next = judge ok fault at p }) (record { value = f.value; next = p })
    taken (Ok b) o q = rw o
    taken (Err r) o q = absurd cc

-- the bytes of a number, and zeros behind them
pub little-same : (s t : List ℕ) (n a b : ℕ) → ((i : ℕ) → i < n → get_or s (a + i) 0 ≡ get_or t (b + i) 0) → little s a n ≡ little t b n
unfolding little
little-same s t zero a b same = refl
little-same s t (suc n) a b same =
    let h : get_or s a 0 ≡ get_or t b 0 = rw (add-zero, add-zero) at (same 0 (omega arith)) in
    let r = little-same s t n (suc a) (suc b) (λ i lt. rw (suc-add, suc-add, ← add-suc, ← add-suc) (same (suc i) (omega arith))) in
    rw (h, r) refl

little-zeros : (s : List ℕ) (n a : ℕ) → ((i : ℕ) → a ≤ i → i < a + n → get_or s i 0 ≡ 0) → little s a n ≡ 0
unfolding little
little-zeros s zero a none = refl
little-zeros s (suc n) a none =
    rw (none a (omega arith) (omega arith), little-zeros s n (suc a) (λ i le lt. none i (omega arith) (omega arith))) refl

little-eight : (b : List ℕ) → from_le_bytes w64 b ≡ little b 0 8
unfolding little
little-eight b = omega arith

-- a number of up to eight bytes by eight bytes of which the rest are zeros
pub little-padded : (s b : List ℕ) (at n : ℕ) → n ≤ 8 → ((i : ℕ) → i < n → get_or b i 0 ≡ get_or s (at + i) 0) → ((i : ℕ) → n ≤ i → i < 8 → get_or b i 0 ≡ 0)
    → from_le_bytes w64 b ≡ little s at n
little-padded s b at n few same none =
    let parts = little-add b 0 n (8 - n) in
    let whole : n + (8 - n) ≡ 8 = omega arith in
    let low : little b 0 n ≡ little s at n = little-same b s n 0 at (λ i lt. rw zero-add (same i lt)) in
    let high : little b n (8 - n) ≡ 0 = little-zeros b (8 - n) n (λ i le lt. none i le (omega arith)) in
    rw (little-eight b) (rw (whole, zero-add, low, high) at parts ∙ omega arith)

-- what a reader returned, and where reading has come to
pub read_ok : {A : Type 0} (p : Place) (made : ℕ → A) {x : A} → read_as p made ≡ Ok x → (b : ℕ) × (p ≡ Ok b) × (x ≡ made b)
read_ok (Ok b) made e = (b, refl, cc)
read_ok (Err r) made e = absurd cc

pub read_err : {A : Type 0} (p : Place) (made : ℕ → A) {r : Refusal} → read_as p made ≡ Err r → p ≡ Err r
read_err (Ok b) made e = absurd cc
read_err (Err r) made e = cc

-- a code: where it stood, and that it is in its table
pub record WholeCode (limit : ℕ) (s : List ℕ) (p : Place) (a : ℕ) : Type 0 where
  pub whole : Whole 1 s p a
  pub below : (code_at limit s p).value < limit
  pub is : code_at limit s p ≡ field_at 1 s p

pub code-at : (limit : ℕ) (s : List ℕ) (p : Place) {a : ℕ} → (code_at limit s p).next ≡ Ok a → WholeCode limit s p a
unfolding code_at
code-at limit s p {a} e =
    let c = check-at _ Code (start_of p) (field_at 1 s p) e in
    record { whole = field-at 1 s p c.1; below = rw c.2 (ltb-true _ _ c.0); is = c.2 }

-- a count: where it stood, and its limits
pub record WholeCount (least most : ℕ) (s : List ℕ) (p : Place) (a : ℕ) : Type 0 where
  pub whole : Whole 2 s p a
  pub at_least : least ≤ (count_at least most s p).value
  pub at_most : (count_at least most s p).value ≤ most

pub count_at_lem : (least most : ℕ) (s : List ℕ) (p : Place) {a : ℕ} → (count_at least most s p).next ≡ Ok a → WholeCount least most s p a
unfolding count_at
count_at_lem least most s p e =
    let v : ℕ = (field_at 2 s p).value in
    let c = check-at _ Count (start_of p) (field_at 2 s p) e in
    record {
      whole = field-at 2 s p c.1;
      at_least = rw c.2 (leb-true _ _ (and_left (leb least v) (leb v most) c.0));
      at_most = rw c.2 (leb-true _ _ (and_right (leb least v) (leb v most) c.0));
    }

-- reading went on before a field, a code and a count that were read whole
pub field-on : (n : ℕ) (s : List ℕ) (p : Place) {a : ℕ} → (field_at n s p).next ≡ Ok a → WentOn p
field-on n s p e = let w = field-at n s p e in (w.from, w.there)

pub code-on : (limit : ℕ) (s : List ℕ) (p : Place) {a : ℕ} → (code_at limit s p).next ≡ Ok a → WentOn p
code-on limit s p e = let w = (code-at limit s p e).whole in (w.from, w.there)

pub count-on : (least most : ℕ) (s : List ℕ) (p : Place) {a : ℕ} → (count_at least most s p).next ≡ Ok a → WentOn p
count-on least most s p e = let w = (count_at_lem least most s p e).whole in (w.from, w.there)

-- a check of a field that was read, and of one that was refused
pub checked-taken : {ok : Bool} (fault : Fault) (at : ℕ) (f : FieldReading) {b : ℕ} → ok ≡ true → Ok b ≡ f.next
    → (Ok b ≡ (check_field ok fault at f).next) × (f.value ≡ (check_field ok fault at f).value)
unfolding check_field
checked-taken fault at f o e = rw (o, ← e) (refl, refl)

pub checked-failed : {ok : Bool} (fault : Fault) (at : ℕ) (f : FieldReading) {b : ℕ} → ok ≡ false → Ok b ≡ f.next
    → Err (refused fault at) ≡ (check_field ok fault at f).next
unfolding check_field
checked-failed fault at f o e = rw (o, ← e) refl

pub checked-stays : (ok : Bool) (fault : Fault) (at : ℕ) (f : FieldReading) {r : Refusal} → Err r ≡ f.next → Err r ≡ (check_field ok fault at f).next
unfolding check_field
checked-stays ok fault at f e = rw (← e) refl

-- the field that a reader has taken
pub field-taken : (f : FieldReading) {v b : ℕ} → Ok b ≡ f.next → v ≡ f.value → f ≡ record { value = v; next = Ok b }
field-taken f e q = rw (e, q) refl

-- reading went on, as a test and with the offset
pub went-on : (p : Place) → IsOk p → WentOn p
went-on (Ok b) e = (b, refl)
went-on (Err r) e = absurd cc

pub went-ok : {p : Place} → WentOn p → IsOk p
went-ok on = rw on.1 refl
