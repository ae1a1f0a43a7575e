-- Fields of a sheet, the offset that reading has reached, and checks.
use Rattle.std.specs.Prelude.{ℕ, zero, suc, ◌+◌, ◌*◌, ◌^◌, ◌<◌, ◌≡◌, List, Bool, cond, ◌&&◌, length, get_or, leb, ltb, Result, Ok, Err}
use Rattle.refusal.specs.declared.Fault.{Fault}
use Rattle.refusal.specs.declared.Fault.TheVariants.{Ends, Code, Count}
use Rattle.refusal.specs.declared.Refusal.{Refusal}
use Rattle.refusal.specs.Numbers.{refused}

-- where reading has come to: the next byte's offset, or the first refusal
abbrev pub Place : Type 0
Place = Result ℕ Refusal

-- a field as it is read: its number, 0 where reading was refused, and where reading has come to after it
pub record FieldReading : Type 0 where
  pub value : ℕ
  pub next : Place

-- The number that the n bytes from an offset on spell, the lowest byte first (S1).
unfoldable pub little : List ℕ → ℕ → ℕ → ℕ
little s at zero = 0
little s at (suc n) = get_or s at 0 + 256 * little s (suc at) n

-- A field of n bytes: its number and the offset after it. Refusal 1, reported at the field, where the sheet has not all its bytes. Where reading was
-- refused before, it stays so (S2, R3, R6).
unfoldable pub field_at : ℕ → List ℕ → Place → FieldReading
field_at n s (Ok at) = cond (leb (at + n) (length s)) (record { value = little s at n; next = Ok (at + n) }) (record { value = 0; next = Err (refused Ends at) })
field_at n s (Err r) = record { value = 0; next = Err r }

-- reading has not been refused at an offset
abbrev pub WentOn : Place → Type 0
WentOn p = (b : ℕ) × (p ≡ Ok b)

-- where a record that is read from an offset on starts
abbrev pub start_of : Place → ℕ
start_of (Ok at) = at
start_of (Err r) = r.at

-- A check made at this offset, with the refusal's fault and offset. A refusal made before stays (R2, R3).
abbrev pub judge : Bool → Fault → ℕ → Place → Place
judge ok fault at (Ok next) = cond ok (Ok next) (Err (refused fault at))
judge ok fault at (Err r) = Err r

-- a value where reading went on, else 0
abbrev pub keep : Place → ℕ → ℕ
keep (Ok next) v = v
keep (Err r) v = 0

-- A check of a field: a refused field has the value 0.
unfoldable pub check_field : Bool → Fault → ℕ → FieldReading → FieldReading
check_field ok fault at f =
    let p = judge ok fault at f.next in
    record { value = keep p f.value; next = p }

-- a field of n bytes whose number passes a test; else refused, reported at the field
abbrev pub tested_at : ℕ → (ℕ → Bool) → Fault → List ℕ → Place → FieldReading
tested_at n test fault s p =
    let f = field_at n s p in
    check_field (test f.value) fault (start_of p) f

-- a check of numbers of 64 bits, by what its calls may answer, that answers as a test does
abbrev pub Answers : (ℕ → Bool → Type 0) → (ℕ → Bool) → Type 0
Answers post test = (x : ℕ) (b : Bool) → x < 2 ^ 64 → post x b → b ≡ test x

-- A code of one byte, below its table's end; else refusal 2, reported at the field (S2, R8).
unfoldable pub code_at : ℕ → List ℕ → Place → FieldReading
code_at limit s p =
    let f = field_at 1 s p in
    check_field (ltb f.value limit) Code (start_of p) f

-- A count of 2 bytes, within its limits; else refusal 3, reported at the field (S2, R11).
unfoldable pub count_at : ℕ → ℕ → List ℕ → Place → FieldReading
count_at least most s p =
    let f = field_at 2 s p in
    check_field (leb least f.value && leb f.value most) Count (start_of p) f

-- after the first k of numbers of 8 bytes each that stand one after the other
unfoldable pub words_from : List ℕ → Place → ℕ → Place
words_from s p zero = p
words_from s p (suc k) = (field_at 8 s (words_from s p k)).next

-- what a reader returns: the value that it makes of the offset after it, or the first refusal
abbrev pub read_as : {A : Type 0} → Place → (ℕ → A) → Result A Refusal
read_as (Ok end) made = Ok (made end)
read_as (Err r) made = Err r
