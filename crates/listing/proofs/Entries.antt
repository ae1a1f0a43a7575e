-- The entries of a list that lines were written to have the lines' text.
use Prim.Native.Nat.{ℕ, zero, suc, ◌+◌, ◌*◌, ◌/◌, ◌%◌}
use mathlib.Core.Path.{◌≡◌, refl, ◌∙◌}
use mathlib.Core.List.{List, [], ◌∷◌}
use native.Mathlib.Omega.{arith}
use lib.ListN.{length, get_or}
use Rattle.sheet_field.specs.Field.{little}
use Rattle.sheet_bytes.specs.Write.{bytes, records}
use Rattle.sheet_bytes.proofs.Spans.{Spans, Stands, bytes-length, spans-cut, spans-length}
use Rattle.verdict_lines.specs.Lines.{Line, line_bytes}
use Rattle.text.specs.Digits.{digits}
use Rattle.listing_text.specs.Text.{line_text, entry_text, entries_text}
use Rattle.listing.specs.Program.{lines_text}

-- two hexadecimal digits for each of n bytes
abbrev twice : ℕ → ℕ
twice zero = zero
twice (suc n) = suc (suc (twice n))

-- a byte's two digits and those of what is above it
byte-digits : (k v y : ℕ) → digits 16 k y ≡ digits 16 k (v / 256)
    → digits 16 (suc (suc k)) (v % 256 + 256 * y) ≡ digits 16 (suc (suc k)) v
unfolding digits
byte-digits k v y above =
    let x : ℕ = v % 256 + 256 * y in
    let a : x / 16 / 16 ≡ y = omega arith in
    let b : v / 16 / 16 ≡ v / 256 = omega arith in
    let c : x / 16 % 16 ≡ v / 16 % 16 = omega arith in
    let d : x % 16 ≡ v % 16 = omega arith in
    rw (a, b, c, d, above)

no-digits : (x y : ℕ) → digits 16 0 x ≡ digits 16 0 y
unfolding digits
no-digits x y = refl

-- a number's digits are those of its bytes
bytes-digits : (s : List ℕ) (n a v b : ℕ) → Stands s a (bytes n v) b → digits 16 (twice n) (little s a n) ≡ digits 16 (twice n) v
unfolding little bytes
bytes-digits s zero a v b h = no-digits (little s a 0) v
bytes-digits s (suc n) a v b h =
    rw h.1 (byte-digits (twice n) v (little s (suc a) n) (bytes-digits s n (suc a) (v / 256) b h.2))

-- the line of an entry that a line was written to
entry-parts : (s : List ℕ) (l : Line) (a m n b : ℕ) → m ≡ a + 8 → n ≡ a + 16
    → Stands s a (bytes 8 l.site) m → Stands s m (bytes 8 l.target) n → Stands s n (l.value ∷ (l.reason ∷ [])) b
    → (entry_text s a ≡ line_text l.site l.target l.value l.reason) × (b ≡ a + 18)
unfolding entry_text line_text
entry-parts s l a m n b p q site target last =
    let first : digits 16 16 (little s a 8) ≡ digits 16 16 l.site = bytes-digits s 8 a l.site m site in
    let second : digits 16 16 (little s (a + 8) 8) ≡ digits 16 16 l.target = bytes-digits s 8 (a + 8) l.target n (rw p at target) in
    let value : get_or s (a + 16) 0 ≡ l.value = rw q at last.1 in
    let after : suc n ≡ a + 17 = omega arith in
    let reason : get_or s (a + 17) 0 ≡ l.reason = rw after at last.2.1 in
    (rw (first, second, value, reason), omega (arith, last.2.2))

entry-line : {s : List ℕ} {a b : ℕ} (l : Line) → Spans s a (line_bytes l) b
    → (entry_text s a ≡ line_text l.site l.target l.value l.reason) × (b ≡ a + 18)
unfolding line_bytes
entry-line {s} {a} {b} l h =
    let site = spans-cut (bytes 8 l.site) _ h in
    let target = spans-cut (bytes 8 l.target) _ site.2 in
    let p : site.0 ≡ a + 8 = spans-length site.1 ∙ rw bytes-length in
    let q : target.0 ≡ a + 16 = spans-length target.1 ∙ rw bytes-length (omega (arith, p)) in
    entry-parts s l a site.0 target.0 b p q site.1.it target.1.it target.2.it

pub entries-lines : {s : List ℕ} {a b : ℕ} (due : List Line) → Spans s a (records line_bytes due) b → entries_text s a (length due) ≡ lines_text due
unfolding records entries_text lines_text
entries-lines {s} {a} {b} [] h = refl
entries-lines {s} {a} {b} (l ∷ due) h =
    let t = spans-cut (line_bytes l) (records line_bytes due) h in
    let e = entry-line l t.1 in
    rw (e.0, entries-lines {a = a + 18} due (rw e.1 at t.2))
