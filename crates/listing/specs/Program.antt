-- What the listing program writes, from the bytes that it is given.
use Rattle.std.specs.Prelude.{ℕ, cond, List, [], ◌∷◌, ◌++◌, ltb, length, Ok, Err}
use Rattle.refusal.specs.declared.Fault.TheVariants.{Ends}
use Rattle.refusal.specs.Numbers.{number_of}
use Rattle.sheet.specs.Sheet.{sheet_at, reading_of, Reading}
use Rattle.verdict_lines.specs.Lines.{Line}
use Rattle.verdict_sheet.specs.Said.{Judged, judged_up_to, lines_of}
use Rattle.listing_text.specs.Text.{line_text, branches_text, refusal_text}

-- the text of lines, one after the other
unfoldable pub lines_text : List Line → List ℕ
lines_text [] = []
lines_text (l ∷ rest) = line_text l.site l.target l.value l.reason ++ lines_text rest

-- The lines due with their number, or the first node's refusal (L10, L11).
abbrev pub judged_text : Judged → List ℕ → List ℕ
judged_text (Err r) s = refusal_text (number_of r.fault) r.at
judged_text (Ok said) s =
    let due = lines_of (sheet_at s).instructions.list said in
    branches_text (length due) (lines_text due)

-- Reading's refusal comes first (R5, L11).
abbrev pub read_text : Reading → List ℕ → List ℕ
read_text (Err r) s = refusal_text (number_of r.fault) r.at
read_text (Ok sheet) s = judged_text (judged_up_to s sheet.blocks.count sheet.nodes.count) s

-- What the program writes. More than 65,536 bytes are refused as 1 at 65536, whatever they are (S5).
unfoldable pub printed : List ℕ → List ℕ
printed s = cond (ltb 65536 (length s)) (refusal_text (number_of Ends) 65536) (read_text (reading_of s) s)
