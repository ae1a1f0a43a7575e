-- Lines put into a list, one after the other.
use Prim.Native.Nat.{ℕ, zero, suc, ◌+◌, ◌*◌, ◌/◌, ◌%◌, ◌≤◌, ◌<◌}
use mathlib.Core.Path.{◌≡◌, refl, sym, ap, ◌∙◌}
use mathlib.Core.List.{List, [], ◌∷◌, ◌++◌, append-nil, append_assoc}
use native.Mathlib.Omega.{arith}
use native.Mathlib.Numerals.{add-one}
use lib.ListN.{length, get_or, set, drop, length-append, length-map, drop_of_length-le}
use lib.Seq.{drop-cons}
use Rattle.std.specs.Prelude.{Ok, Option, unwrap_or}
use Rattle.isa.specs.declared.Instruction.{Instruction}
use Rattle.sheet.specs.declared.Sheet.{Sheet}
use Rattle.sheet.specs.Sheet.{sheet_at, reading_of}
use Rattle.sheet.specs.Index.{targets_of}
use Rattle.sheet.proofs.ByNumber.{instructions-count, places_count}
use Rattle.sheet.proofs.Fronts.{one, map_at}
use Rattle.sheet_bytes.specs.Write.{bytes, records}
use Rattle.sheet_bytes.proofs.Spans.{bytes-length}
use Rattle.verdict_lines.specs.Lines.{Line, line_bytes}
use Rattle.verdict_lines.specs.Slots.{decided_of, slot_line, lines_in, put_at}
use Rattle.verdict_lines.proofs.Decided.{slot-line}
use Rattle.verdict_lines.proofs.Puts.{put-none, put_step, put-join}

-- the instruction of a slot has an offset in the index
pub offset-there : (s : List ℕ) (sheet : Sheet) → reading_of s ≡ Ok sheet → {places : List ℕ} (slots : List ℕ) (i : ℕ) → places ≡ (sheet_at s).instructions.places
    → length (targets_of (sheet_at s).instructions.list) ≡ length slots → i < length slots → i < length places
unfolding targets_of
offset-there s sheet read slots i places-are each below =
    let many : length slots ≡ length (sheet_at s).instructions.list = sym each ∙ rw length-map in
    omega (arith, below, many, instructions-count s sheet read, ap length places-are, places_count s sheet read)

-- the target of a slot's instruction
pub target-there : (l : List Instruction) (i : ℕ) {target : Option ℕ} {to : ℕ} (slots : List ℕ) → length (targets_of l) ≡ length slots → i < length slots
    → ((d : Instruction) → target ≡ (get_or l i d).target) → to ≡ unwrap_or target 0 → to ≡ get_or (targets_of l) i 0
unfolding targets_of
target-there l i slots each below is to_is =
    let many : length slots ≡ length l = sym each ∙ rw length-map in
    let there : i < length l = omega (arith, below, many) in
    let d = one l i there in
    rw (to_is, is d) (sym (map_at (λ (x : Instruction). unwrap_or x.target 0) l i d 0 there))

-- no line
pub slot-none : (at site target : ℕ) {slot : ℕ} (list : List ℕ) → slot ≡ 0 → list ≡ put_at at (records line_bytes (slot_line site target slot)) list
unfolding records
slot-none at site target list none = rw none (sym (put-none at list))

-- a line's two numbers and two bytes
pub slot-put : (at site target slot : ℕ) (list : List ℕ) {first second : List ℕ} → (slot ≡ 0 → ⊥)
    → first ≡ put_at at (bytes 8 site) list → second ≡ put_at (at + 8) (bytes 8 target) first
    → set (set second (at + 16) (slot % 2)) (at + 17) (slot / 2) ≡ put_at at (records line_bytes (slot_line site target slot)) list
unfolding records line_bytes
slot-put at site target slot list {first} {second} some first-is second_is =
    let value = slot % 2 in
    let reason = slot / 2 in
    let two : List ℕ = value ∷ (reason ∷ []) in
    let sixteen : (at + 8) + 8 ≡ at + 16 = omega arith in
    let seventeen : (at + 16) + 1 ≡ at + 17 = omega arith in
    let last : put_at (at + 16) two second ≡ set (set second (at + 16) value) (at + 17) reason =
    put_step (at + 16) value (reason ∷ []) second
    ∙ rw seventeen (put_step (at + 17) reason [] (set second (at + 16) value) ∙ put-none _ _) in
    let middle : put_at (at + 8) (bytes 8 target ++ two) first ≡ put_at (at + 16) two second =
    put-join (at + 8) (bytes 8 target) two first ∙ rw (bytes-length 8 target, sixteen, second_is) in
    let whole : put_at at (bytes 8 site ++ (bytes 8 target ++ two)) list ≡ put_at (at + 8) (bytes 8 target ++ two) first =
    put-join at (bytes 8 site) (bytes 8 target ++ two) list ∙ rw (bytes-length 8 site, first-is) in
    rw (slot-line site target slot some, append-nil) (sym (whole ∙ middle ∙ last))

records-append : (a b : List Line) → records line_bytes (a ++ b) ≡ records line_bytes a ++ records line_bytes b
unfolding records
records-append [] b = refl
records-append (l ∷ a) b = rw (records-append a b) (sym (append_assoc (line_bytes l) (records line_bytes a) (records line_bytes b)))

-- 18 bytes for each line
pub line-length : (l : Line) → length (line_bytes l) ≡ 18
unfolding line_bytes bytes
line-length l = refl

pub lines-length : (due : List Line) → length (records line_bytes due) ≡ 18 * length due
unfolding records
lines-length [] = refl
lines-length (l ∷ due) = omega (arith, length-append (line_bytes l) (records line_bytes due), line-length l, lines-length due)

pub slot-length : (site target slot : ℕ) → length (records line_bytes (slot_line site target slot)) ≡ 18 * decided_of slot
unfolding records
slot-length site target zero = refl
slot-length site target (suc x) = rw append-nil (line-length _)

module _ (sites targets slots : List ℕ) where
  bytes-more : (i : ℕ) → i < length sites → i < length targets → i < length slots
      → records line_bytes (lines_in (drop i sites) (drop i targets) (drop i slots))
      ≡ records line_bytes (slot_line (get_or sites i 0) (get_or targets i 0) (get_or slots i 0))
      ++ records line_bytes (lines_in (drop (suc i) sites) (drop (suc i) targets) (drop (suc i) slots))
  unfolding lines_in
  bytes-more i a b c =
      rw (drop-cons sites i 0 a, drop-cons targets i 0 b, drop-cons slots i 0 c)
      (records-append (slot_line (get_or sites i 0) (get_or targets i 0) (get_or slots i 0)) (lines_in (drop (suc i) sites) (drop (suc i) targets) (drop (suc i) slots)))

  module _ (i at : ℕ) (list : List ℕ) where
    -- one slot more
    pub write-more : {next : ℕ} {after whole : List ℕ} → i < length sites → i < length targets → i < length slots
        → next ≡ at + 18 * decided_of (get_or slots i 0)
        → after ≡ put_at at (records line_bytes (slot_line (get_or sites i 0) (get_or targets i 0) (get_or slots i 0))) list
        → put_at at (records line_bytes (lines_in (drop i sites) (drop i targets) (drop i slots))) list ≡ whole
        → put_at next (records line_bytes (lines_in (drop (i + 1) sites) (drop (i + 1) targets) (drop (i + 1) slots))) after ≡ whole
    write-more a b c next-is after_is before =
        let line = records line_bytes (slot_line (get_or sites i 0) (get_or targets i 0) (get_or slots i 0)) in
        let rest = records line_bytes (lines_in (drop (suc i) sites) (drop (suc i) targets) (drop (suc i) slots)) in
        let cut : put_at at (line ++ rest) list ≡ put_at (at + length line) rest (put_at at line list) = put-join at line rest list in
        rw (add-one i, next-is, after_is, ← slot-length (get_or sites i 0) (get_or targets i 0) (get_or slots i 0))
        (sym cut ∙ ap (λ (bs : List ℕ). put_at at bs list) (sym (bytes-more i a b c)) ∙ before)

    -- none is left
    pub write_done : {whole : List ℕ} → length sites ≤ i
        → put_at at (records line_bytes (lines_in (drop i sites) (drop i targets) (drop i slots))) list ≡ whole → list ≡ whole
    unfolding lines_in records
    write_done out is = sym (put-none at list) ∙ rw (drop_of_length-le sites out) at is
