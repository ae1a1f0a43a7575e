-- The lines that the slots hold are those due; slots that hold nothing.
use Prim.Native.Nat.{ℕ, ◌+◌, ◌*◌, ◌/◌, ◌%◌}
use mathlib.Core.Path.{◌≡◌, refl, ap, ap₂}
use mathlib.Core.List.{List, [], ◌∷◌, ◌++◌}
use native.Mathlib.Omega.{arith}
use lib.ListN.{length, replicate}
use Rattle.std.specs.Prelude.{unwrap_or}
use Rattle.isa.specs.declared.Instruction.{Instruction}
use Rattle.verdict.specs.declared.Verdict.{Verdict}
use Rattle.verdict.specs.declared.Verdict.TheVariants.{Always, Never, Undecided, NoBranch}
use Rattle.verdict.specs.Numbers.{reason_number}
use Rattle.sheet.specs.Index.{addresses_of, targets_of}
use Rattle.verdict_lines.specs.Lines.{Line, line_of}
use Rattle.verdict_lines.specs.Slots.{slot_of, slot_line, lines_in}
use Rattle.verdict_lines.proofs.Decided.{slot-line}
use Rattle.verdict_sheet.specs.Said.{Said, first_decided, lines_of}
use Rattle.verdict_sheet.specs.Kept.{slots_of}
use Rattle.verdict_sheet.proofs.Codes.{always-some, never-some}

-- a slot holds its verdict's line
slot_due : (i : Instruction) (v : Verdict) → slot_line i.address (unwrap_or i.target 0) (slot_of v) ≡ line_of i v
slot_due i (Always r) =
    let value : (2 * reason_number r + 1) % 2 ≡ 1 = omega arith in
    let reason : (2 * reason_number r + 1) / 2 ≡ reason_number r = omega arith in
    rw (slot-line i.address (unwrap_or i.target 0) (slot_of (Always r)) (always-some r), value, reason)
slot_due i (Never r) =
    let value : (2 * reason_number r) % 2 ≡ 0 = omega arith in
    let reason : (2 * reason_number r) / 2 ≡ reason_number r = omega arith in
    rw (slot-line i.address (unwrap_or i.target 0) (slot_of (Never r)) (never-some r), value, reason)
slot_due i Undecided = refl
slot_due i NoBranch = refl

pub lines-due : (code : List Instruction) (said : List Said) → lines_in (addresses_of code) (targets_of code) (slots_of code said) ≡ lines_of code said
unfolding lines_in addresses_of targets_of slots_of lines_of
lines-due [] said = refl
lines-due (i ∷ code) said = ap₂ (λ (a b : List Line). a ++ b) (slot_due i (first_decided i.address said)) (lines-due code said)

pub slots-empty : (code : List Instruction) → replicate (length code) 0 ≡ slots_of code []
unfolding slots_of first_decided
slots-empty [] = refl
slots-empty (i ∷ code) = ap (λ (l : List ℕ). 0 ∷ l) (slots-empty code)
