-- The lines in the borrowed list: each is read back from its 18 bytes, and what is beyond them is as it was.
use Prim.Native.Nat.{ℕ, zero, suc, ◌+◌, ◌*◌, ◌^◌, ◌<◌, ◌≤◌}
use mathlib.Core.Path.{◌≡◌, refl, ap, ◌∙◌}
use mathlib.Core.Bool.{Bool, true, false, cond}
use mathlib.Core.List.{List, [], ◌∷◌, ◌++◌}
use native.Mathlib.Omega.{arith}
use lib.Dec.{leb}
use lib.ListN.{length, get_or}
use Rattle.std.specs.Prelude.{Ok, Err}
use Rattle.refusal.specs.Numbers.{refused}
use Rattle.refusal.specs.declared.Fault.TheVariants.{Ends}
use Rattle.sheet_field.specs.Field.{little, field_at, FieldReading}
use Rattle.sheet.specs.Index.{over}
use Rattle.sheet_bytes.specs.Write.{bytes, records}
use Rattle.sheet_bytes.proofs.Spans.{Spans, bytes-length, spans-cut, spans-length}
use Rattle.verdict_lines.proofs.Over.{over-spans}
use Rattle.sheet_bytes.proofs.Fields.{field-read}
use Rattle.verdict_lines.specs.Lines.{Line, line_bytes}
use Rattle.verdict_lines.proofs.Written.{line-length, lines-length}
use Rattle.theorems.specs.Lines.{line_at}
use Rattle.theorems.proofs.DueLines.{no_line}

pub over-beyond : (entries before : List ℕ) (i : ℕ) → length entries ≤ i → get_or (over entries before) i 0 ≡ get_or before i 0
unfolding over
over-beyond [] before i le = refl
over-beyond (x ∷ entries) [] i le = refl
over-beyond (x ∷ entries) (b ∷ before) zero le = absurd (omega (arith, le))
over-beyond (x ∷ entries) (b ∷ before) (suc i) le = over-beyond entries before i (omega (arith, le))

-- a number in 8 bytes is read back
spells : (s : List ℕ) (a b v : ℕ) → v < 256 ^ 8 → Spans s a (bytes 8 v) b → little s a 8 ≡ v
unfolding field_at
spells s a b v small h = go (leb (a + 8) (length s)) (field-read 8 v (omega arith) small h)
  where
    go : (t : Bool)
        → ◌≡◌ {A = FieldReading} (cond t (record { value = little s a 8; next = Ok (a + 8) }) (record { value = 0; next = Err (refused Ends a) })) (record { value = v; next = Ok b })
        → little s a 8 ≡ v
    go true e = ap (λ (f : FieldReading). f.value) e
    go false e = let q = ap (λ (f : FieldReading). f.next) e in cc

-- a line that fits its bytes
pub record Fits (l : Line) : Type 0 where
  pub site : l.site < 256 ^ 8
  pub target : l.target < 256 ^ 8

nth-spans : (s : List ℕ) (due : List Line) (a c k : ℕ) → k < length due → Spans s a (records line_bytes due) c
    → (b : ℕ) × Spans s (a + 18 * k) (line_bytes (get_or due k no_line)) b
unfolding records
nth-spans s [] a c k below h = absurd (omega (arith, below))
nth-spans s (l ∷ due) a c zero below h =
    let cut = spans-cut (line_bytes l) (records line_bytes due) h in
    let here : a + 18 * 0 ≡ a = omega arith in
    (cut.0, rw here cut.1)
nth-spans s (l ∷ due) a c (suc k) below h =
    let cut = spans-cut (line_bytes l) (records line_bytes due) h in
    let next : cut.0 ≡ a + 18 = spans-length cut.1 ∙ ap (λ (n : ℕ). a + n) (line-length l) in
    let r = nth-spans s due cut.0 c k (omega (arith, below)) cut.2 in
    let there : a + 18 * suc k ≡ cut.0 + 18 * k = omega (arith, next) in
    (r.0, rw there r.1)

read_back : (s : List ℕ) (a b k : ℕ) (l : Line) → a ≡ 18 * k → Fits l → Spans s a (line_bytes l) b → line_at s k ≡ l
unfolding line_bytes
read_back s a b k l is fits h =
    let one = spans-cut (bytes 8 l.site) (bytes 8 l.target ++ (l.value ∷ (l.reason ∷ []))) h in
    let two = spans-cut (bytes 8 l.target) (l.value ∷ (l.reason ∷ [])) one.2 in
    let p : one.0 ≡ 18 * k + 8 = spans-length one.1 ∙ (ap (λ (n : ℕ). a + n) (bytes-length 8 l.site) ∙ omega (arith, is)) in
    let q : two.0 ≡ 18 * k + 16 = spans-length two.1 ∙ (ap (λ (n : ℕ). one.0 + n) (bytes-length 8 l.target) ∙ omega (arith, p)) in
    let r : suc two.0 ≡ 18 * k + 17 = omega (arith, q) in
    let x : little s (18 * k) 8 ≡ l.site = rw is at (spells s a one.0 l.site fits.site one.1) in
    let y : little s (18 * k + 8) 8 ≡ l.target = rw p at (spells s one.0 two.0 l.target fits.target two.1) in
    let v : get_or s (18 * k + 16) 0 ≡ l.value = rw q at two.2.it.1 in
    let w : get_or s (18 * k + 17) 0 ≡ l.reason = rw r at two.2.it.2.1 in
    rw (x, y, v, w)

-- The line of each number.
pub stands : (due : List Line) (before : List ℕ) → 18 * length due ≤ length before → (k : ℕ) → k < length due → Fits (get_or due k no_line)
    → line_at (over (records line_bytes due) before) k ≡ get_or due k no_line
stands due before room k below fits =
    let f = over-spans (records line_bytes due) before (rw (lines-length due) room) in
    let n = nth-spans (over (records line_bytes due) before) due 0 f.0 k below f.1 in
    read_back (over (records line_bytes due) before) (0 + 18 * k) n.0 k (get_or due k no_line) (omega arith) fits n.1
