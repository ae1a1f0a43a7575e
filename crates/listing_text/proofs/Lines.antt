-- The pieces of a line, and the lines of a list, one after the other.
use Prim.Native.Nat.{ℕ, zero, suc, ◌+◌, ◌*◌, ◌-◌, ◌≤◌, ◌<◌}
use mathlib.Core.Path.{◌≡◌, refl, sym, ap, ◌∙◌}
use mathlib.Core.Bool.{Bool, true, false, cond}
use mathlib.Core.List.{List, [], ◌++◌, append_assoc, append-nil}
use native.Mathlib.Nat.{add-zero, zero-add, mul-zero}
use native.Mathlib.Numerals.{add-one}
use native.Mathlib.Omega.{arith}
use lib.Dec.{eqb}
use lib.ListN.{length, get_or, length-append}
use Rattle.sheet_field.specs.Field.{little}
use Rattle.text.specs.Digits.{digits, decimal}
use Rattle.text.specs.declared.Writer.{Writer}
use Rattle.text.specs.Promises.{Puts}
use Rattle.text.proofs.Lengths.{digits_long, byte-short}
use Rattle.text.proofs.Puts.{put-none, puts_then}
use Rattle.listing_text.specs.Text.{space, line_feed, branches, always, never, refused, at_word, verdict_word, line_text, entry_text, entries_text, branches_text, refusal_text}

-- how long the pieces can be
verdict-by : (a n : Bool) → length (cond a always (cond n never [])) ≤ 6
verdict-by true n = omega arith
verdict-by false true = omega arith
verdict-by false false = omega arith

pub verdict-short : (value : ℕ) → length (verdict_word value) ≤ 6
verdict-short value = verdict-by (eqb value 1) (eqb value 0)

-- an entry's line, from its two parts
pub put-entry-of : {old mid new : Writer} {site target : ℕ} (list : List ℕ) (from : ℕ)
    → site ≡ little list from 8 → target ≡ little list (from + 8) 8
    → Puts old mid (digits 16 16 site ++ space ++ digits 16 16 target ++ space)
    → Puts mid new (verdict_word (get_or list (from + 16) 0) ++ space ++ decimal (get_or list (from + 17) 0) ++ line_feed)
    → Puts old new (entry_text list from)
unfolding entry_text line_text
put-entry-of list from site-is target_is p q = simp append_assoc (simp append_assoc at (puts_then (rw (site-is, target_is) at p) q))

-- the text of a refusal, from its pieces
pub put-refusal-of : {w₀ w₁ w₂ w₃ w₄ w₅ : Writer} (number place : ℕ)
    → Puts w₀ w₁ (refused ++ space) → Puts w₁ w₂ (decimal number) → Puts w₂ w₃ at_word → Puts w₃ w₄ (decimal place) → Puts w₄ w₅ line_feed
    → Puts w₀ w₅ (refusal_text number place)
unfolding refusal_text
put-refusal-of number place a b c d e = puts_then (puts_then (puts_then (puts_then a b) c) d) e

-- the whole text of a list, from its pieces
pub put-branches-of : {w₀ w₁ w₂ w₃ w₄ : Writer} (count : ℕ) {lines : List ℕ}
    → Puts w₀ w₁ (branches ++ space) → Puts w₁ w₂ (decimal count) → Puts w₂ w₃ line_feed → Puts w₃ w₄ lines
    → Puts w₀ w₄ (branches_text count lines)
unfolding branches_text
put-branches-of count a b c d = puts_then (puts_then (puts_then a b) c) d

-- entries from an offset on, the last one apart
entries-last : (list : List ℕ) (from i : ℕ) → entries_text list from (suc i) ≡ entries_text list from i ++ entry_text list (from + 18 * i)
unfolding entries_text
entries-last list from zero = rw (mul-zero, add-zero) (append-nil (entry_text list from))
entries-last list from (suc i) =
    let place : from + 18 + 18 * i ≡ from + 18 * suc i = omega arith in
    ap (λ (l : List ℕ). entry_text list from ++ l) (entries-last list (from + 18) i) ∙ rw place (sym (append_assoc (entry_text list from) (entries_text list (from + 18) i) (entry_text list (from + 18 * suc i))))

-- the lines of the first entries are put, and there is room for the others
pub record EntriesPut (list : List ℕ) (count : ℕ) (old new : Writer) (i : ℕ) : Type 0 where
  pub lines : Puts old new (entries_text list 0 i)
  pub room : new.at + 45 * (count - i) ≤ length new.out.now

pub entries_start : (list : List ℕ) (count : ℕ) (w : Writer) → w.at ≤ length w.out.now → w.at + 45 * count ≤ length w.out.now
    → EntriesPut list count w w 0
unfolding entries_text
entries_start list count w within fits = record { lines = record { same = refl; put = put-none _ _ within }; room = omega arith }

pub entries_next : {list : List ℕ} {count : ℕ} {old new after : Writer} {i : ℕ} → EntriesPut list count old new i → i < count
    → Puts new after (entry_text list (18 * i)) → after.at ≤ new.at + 45 → EntriesPut list count old after (i + 1)
entries_next {list} {count} {old} {new} {after} {i} w less p short = record {
  lines = rw (add-one, entries-last list 0 i, zero-add) (puts_then w.lines p);
  room = omega (arith, w.room, p.put.long);
}

pub addresses-short : (site target : ℕ) → length (digits 16 16 site ++ space ++ digits 16 16 target ++ space) ≤ 34
addresses-short site target = simp (length-append, digits_long) (omega arith)

-- how long the pieces of a line are
pub ruleset short = (verdict-short, addresses-short, byte-short)
