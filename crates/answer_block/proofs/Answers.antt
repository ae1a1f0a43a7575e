-- The cases of the block verdict, over plain values.
use Prim.Native.Nat.{ℕ, ◌<◌}
use mathlib.Core.Path.{◌≡◌, ap}
use mathlib.Core.Bool.{Bool, true, false, cond}
use mathlib.Core.List.{List}
use lib.Dec.{ltb}
use borrow.Author.Tests.{lt-ltb}
use Rattle.std.specs.Prelude.{Ok, Err}
use Rattle.refusal.specs.declared.Fault.TheVariants.{Number}
use Rattle.refusal.specs.declared.Refusal.{Refusal}
use Rattle.refusal.specs.Numbers.{refused}
use Rattle.verdict.specs.declared.Verdict.{Verdict}
use Rattle.verdict.specs.Numbers.{Answer, answer_numbers}
use Rattle.sheet.specs.declared.Sheet.{Sheet}
use Rattle.sheet.specs.Sheet.{Reading, reading_of}
use Rattle.sheet.specs.Promises.{having_block}
use Rattle.verdict_block.specs.Verdict.{verdict_on}
use Rattle.answer_block.specs.Block.{on_reading, block_answer}

module _ (s : List ℕ) (number : ℕ) where
  pub block_refused : {r : Refusal} → Err r ≡ having_block (reading_of s) number → answer_numbers (Err r) ≡ block_answer s number
  unfolding block_answer
  block_refused {r} is = ap answer_numbers (by (reading_of s) is)
    where
      by : (x : Reading) → Err r ≡ having_block x number → Err r ≡ on_reading x s number
      by (Err q) e = let same : r ≡ q = cc in rw same
      by (Ok sheet) e = go (ltb number sheet.blocks.count) e
        where
          go : (b : Bool) → Err r ≡ cond b (Ok sheet) (Err (refused Number 0)) → ◌≡◌ {A = Answer} (Err r) (cond b (Ok (verdict_on s number)) (Err (refused Number 0)))
          go true e = absurd cc
          go false e = let same : r ≡ refused Number 0 = cc in rw same

  pub block-judged : {sheet : Sheet} {v : Verdict} → reading_of s ≡ Ok sheet → number < sheet.blocks.count
      → v ≡ verdict_on s number → answer_numbers (Ok v) ≡ block_answer s number
  unfolding block_answer
  block-judged is there v-is = rw (is, lt-ltb _ _ there, v-is)
