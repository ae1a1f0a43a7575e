-- The block verdict: its answers, in the scope document's numbers, from any bytes.
use Rattle.std.specs.Prelude.{ℕ, List, cond, ltb, Ok, Err}
use Rattle.refusal.specs.declared.Fault.TheVariants.{Number}
use Rattle.refusal.specs.Numbers.{refused}
use Rattle.verdict.specs.Numbers.{Answer, Numbers, answer_numbers}
use Rattle.sheet.specs.Sheet.{Reading, reading_of}
use Rattle.verdict_block.specs.Verdict.{verdict_on}

-- Reading's refusals first; 13, at offset 0, where there is no block of that number; else the verdict on that block
-- (R1, R5, M31).
abbrev pub on_reading : Reading → List ℕ → ℕ → Answer
on_reading (Err r) s number = Err r
on_reading (Ok sheet) s number = cond (ltb number sheet.blocks.count) (Ok (verdict_on s number)) (Err (refused Number 0))

-- The answer in numbers (D3, D7).
unfoldable pub block_answer : List ℕ → ℕ → Numbers
block_answer s number = answer_numbers (on_reading (reading_of s) s number)
