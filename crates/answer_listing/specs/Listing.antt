-- The listing: its answer, in the scope document's numbers, and the borrowed list after it, from any bytes and any borrowed list.
use Rattle.std.specs.Prelude.{ℕ, ◌*◌, ◌≡◌, List, cond, leb, length, Result, Ok, Err}
use Rattle.refusal.specs.declared.Fault.TheVariants.{Room}
use Rattle.refusal.specs.declared.Refusal.{Refusal}
use Rattle.refusal.specs.Numbers.{number_of, refused as refusal}
use Rattle.sheet.specs.Sheet.{sheet_at, reading_of, Reading}
use Rattle.sheet.specs.Index.{over}
use Rattle.sheet_bytes.specs.Write.{records}
use Rattle.verdict_lines.specs.Lines.{Line, line_bytes}
use Rattle.verdict_sheet.specs.Said.{Judged, judged_up_to, lines_of}

-- An answer in numbers: how many lines there are; a refusal has a number and an offset.
pub data ListedNumbers : Type 0 where
  lines : (count : ℕ) → ListedNumbers
  refused : (number place : ℕ) → ListedNumbers

abbrev pub listed_numbers : Result ℕ Refusal → ListedNumbers
listed_numbers (Ok count) = lines count
listed_numbers (Err r) = refused (number_of r.fault) r.at

-- what the listing gives: its answer, and the borrowed list as it is then
pub record Listing : Type 0 where
  pub answer : ListedNumbers
  pub list : List ℕ

-- A refusal leaves the borrowed list as it was (R1, D4).
abbrev pub turned_back : Refusal → List ℕ → Listing
turned_back r list = record { answer = refused (number_of r.fault) r.at; list = list }

-- The lines' number, and their bytes over the start of the borrowed list, whose other bytes stay; 12, at the sheet's length, exactly where the list is
-- shorter than the lines (L5, L6, L9).
abbrev pub written : List ℕ → List Line → List ℕ → Listing
written s due list =
    cond (leb (18 * length due) (length list))
    (record { answer = lines (length due); list = over (records line_bytes due) list })
    (turned_back (refusal Room (length s)) list)

-- 10 or 11 of the first node that has one; else the lines due (L5, L8).
abbrev pub on_judged : Judged → List ℕ → List ℕ → Listing
on_judged (Err r) s list = turned_back r list
on_judged (Ok said) s list = written s (lines_of (sheet_at s).instructions.list said) list

-- Reading's refusals first (R5).
abbrev pub listing_on : Reading → List ℕ → List ℕ → Listing
listing_on (Err r) s list = turned_back r list
listing_on (Ok sheet) s list = on_judged (judged_up_to s sheet.blocks.count sheet.nodes.count) s list

-- The listing of any bytes on any borrowed list (R1, R5, D3).
unfoldable pub listing_of : List ℕ → List ℕ → Listing
listing_of s list = listing_on (reading_of s) s list

-- what the code gives of it: the answer, and the list as it leaves it
abbrev pub Gives : Result ℕ Refusal → List ℕ → Listing → Type 0
Gives r list listing = (listed_numbers r ≡ listing.answer) × (list ≡ listing.list)
