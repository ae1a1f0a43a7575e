-- The text of the listing's answer on a list that is long enough is what the program writes.
use Prim.Native.Nat.{ℕ, ◌*◌, ◌≤◌, ◌<◌}
use mathlib.Core.Path.{◌≡◌, refl, sym, ap, ◌∙◌}
use mathlib.Core.Bool.{Bool, true, false}
use mathlib.Core.List.{List, [], ◌∷◌}
use native.Mathlib.Omega.{arith}
use lib.Dec.{leb}
use lib.ListN.{length, take, drop, length-append}
use lib.Seq.{length-take-le, take_at}
use borrow.Author.Tests.{leb-false, lt-ltb, le-ltb}
use Rattle.std.specs.Prelude.{Result, Ok, Err}
use Rattle.isa.specs.declared.Instruction.{Instruction}
use Rattle.verdict.specs.declared.Verdict.{Verdict}
use Rattle.verdict.specs.declared.Verdict.TheVariants.{Always, Never, Undecided, NoBranch}
use Rattle.sheet.specs.Sheet.{sheet_at, reading_of, Reading}
use Rattle.sheet.proofs.Accepted.{accepted}
use Rattle.sheet.proofs.ByNumber.{instructions-count}
use Rattle.sheet_bytes.specs.Write.{records}
use Rattle.verdict_lines.proofs.Over.{over-spans}
use Rattle.verdict_lines.specs.Lines.{Line, line_of, line_bytes}
use Rattle.verdict_lines.proofs.Written.{lines-length}
use Rattle.verdict_sheet.specs.Said.{Judged, Said, judged_up_to, first_decided, lines_of}
use Rattle.refusal.specs.declared.Refusal.{Refusal}
use Rattle.refusal.specs.Numbers.{number_of}
use Rattle.answer_listing.specs.Listing.{Listing, listed_numbers, written, on_judged, listing_on, listing_of}
use Rattle.answer_listing.specs.Listing.ListedNumbers.{lines, refused}
use Rattle.listing_text.specs.Text.{branches_text, refusal_text, entries_text}
use Rattle.text.specs.Promises.{Written}
use Rattle.listing.specs.Program.{lines_text, judged_text, read_text, printed}
use Rattle.listing.proofs.Entries.{entries-lines}

-- at most one line for each instruction
line-few : (i : Instruction) (v : Verdict) → length (line_of i v) ≤ 1
line-few i (Always r) = omega arith
line-few i (Never r) = omega arith
line-few i Undecided = omega arith
line-few i NoBranch = omega arith

lines-few : (code : List Instruction) (said : List Said) → length (lines_of code said) ≤ length code
unfolding lines_of
lines-few [] said = omega arith
lines-few (i ∷ code) said =
    let v : Verdict = first_decided i.address said in
    omega (arith, length-append (line_of i v) (lines_of code said), line-few i v, lines-few code said)

-- what an answer says of the text
pub record Says (text : List ℕ) (room : ℕ) (given : Listing) : Type 0 where
  pub of-lines : (n : ℕ) → given.answer ≡ lines n → (text ≡ branches_text n (entries_text given.list 0 n)) × (18 * n ≤ room)
  pub of-refusal : (k p : ℕ) → given.answer ≡ refused k p → text ≡ refusal_text k p

refusal-says : (k p room : ℕ) (list : List ℕ) → Says (refusal_text k p) room (record { answer = refused k p; list = list })
refusal-says k p room list = record {
  of-lines = λ n e. cc;
  of-refusal = λ k' p' e. let a : k ≡ k' = cc in let b : p ≡ p' = cc in rw (a, b);
}

-- the lines due, where the list can hold them
written-says : (s list : List ℕ) (due : List Line) (fits : Bool) → leb (18 * length due) (length list) ≡ fits → 18 * length due ≤ length list
    → Says (branches_text (length due) (lines_text due)) (length list) (written s due list)
written-says s list due false e room = absurd (omega (arith, leb-false (18 * length due) (length list) e))
written-says s list due true e room = rw e record {
  of-lines = λ n is.
      let same : length due ≡ n = cc in
      let spans = over-spans (records line_bytes due) list (rw lines-length room) in
      (rw (← same, entries-lines due spans.1), rw same at room);
  of-refusal = λ k p is. cc;
}

judged-says : (s list : List ℕ) (j : Judged) → 18 * length (sheet_at s).instructions.list ≤ length list → Says (judged_text j s) (length list) (on_judged j s list)
judged-says s list (Err r) room = refusal-says (number_of r.fault) r.at (length list) list
judged-says s list (Ok said) room =
    let code = (sheet_at s).instructions.list in
    let due = lines_of code said in
    written-says s list due (leb (18 * length due) (length list)) refl (omega (arith, lines-few code said))

reading-says : (s list : List ℕ) (r : Reading) → reading_of s ≡ r → 36864 ≤ length list → Says (read_text r s) (length list) (listing_on r s list)
reading-says s list (Err r) e room = refusal-says (number_of r.fault) r.at (length list) list
reading-says s list (Ok sheet) e room =
    judged-says s list (judged_up_to s sheet.blocks.count sheet.nodes.count)
    (omega (arith, instructions-count s sheet e, (accepted s sheet e).few))

pub listing-says : (s list : List ℕ) → 36864 ≤ length list → Says (read_text (reading_of s) s) (length list) (listing_of s list)
unfolding listing_of
listing-says s list room = reading-says s list (reading_of s) refl room

-- what the program writes, by the length of what it is given
pub printed_long : (s : List ℕ) → 65536 < length s → printed s ≡ refusal_text 1 65536
unfolding printed
printed_long s long = rw (lt-ltb 65536 (length s) long)

-- at most 65,536 bytes are read
pub within : (s : List ℕ) → length s ≤ 65536 → printed s ≡ read_text (reading_of s) s
unfolding printed
within s short = rw (le-ltb 65536 (length s) short)

module _ (s list : List ℕ) (room : length list ≡ 36864) where
  says : Says (read_text (reading_of s) s) (length list) (listing_of s list)
  says = listing-says s list (omega arith)

  -- the listing's answer in code
  pub count-few : {r : Result ℕ Refusal} {n : ℕ} → listed_numbers r ≡ (listing_of s list).answer → r ≡ Ok n → 18 * n ≤ 36864
  count-few {r} {n} is lines_are =
      let fits : 18 * n ≤ length list = (says.of-lines n (sym is ∙ rw lines_are)).1 in
      omega arith

  pub lines-text : {old new after : List ℕ} {r : Result ℕ Refusal} {n count : ℕ} → length s ≤ 65536
      → listed_numbers r ≡ (listing_of s list).answer → r ≡ Ok n → after ≡ (listing_of s list).list
      → Written old new count (branches_text n (entries_text after 0 n)) → Written old new count (printed s)
  lines-text {n = n} short is lines_are after_is w =
      rw (within s short, (says.of-lines n (sym is ∙ rw lines_are)).0, ← after_is) w

  pub refusal-text : {old new : List ℕ} {r : Result ℕ Refusal} {e : Refusal} {k count : ℕ} → length s ≤ 65536
      → listed_numbers r ≡ (listing_of s list).answer → r ≡ Err e → k ≡ number_of e.fault
      → Written old new count (refusal_text k e.at) → Written old new count (printed s)
  refusal-text {e = e} short is refusal k-is w = rw (within s short, says.of-refusal (number_of e.fault) e.at (sym is ∙ rw refusal), ← k-is) w

-- the text lies within its buffer
pub text-within : {old new : List ℕ} {r : ℕ} {text : List ℕ} → Written old new r text → r ≤ length new
text-within {old} {new} {r} {text} w = omega (arith, w.long, ap length w.is, length-append text (drop (length text) old))

pub text-counted : {old new : List ℕ} {r : ℕ} {text : List ℕ} → Written old new r text → r ≡ length (take r new)
text-counted {old} {new} {r} w = sym (length-take-le r new (text-within w))

pub text-front : {old new : List ℕ} {r : ℕ} {text : List ℕ} → Written old new r text → take r new ≡ text
text-front {old} {new} {r} {text} w = rw (w.long, w.is) (take_at text (drop (length text) old) (length text) refl)
