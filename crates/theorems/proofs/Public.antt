-- Blocks, by the answers that the contract of the block verdict speaks of: whatever the bytes, no run goes against a decision, and a decision is
-- given exactly where what is known forces the branch.
use Rattle.std.proofs.Common.{Some}
use Prim.Native.Nat.{ℕ, ◌<◌}
use mathlib.Core.Path.{◌≡◌, refl, sym, subst, ◌∙◌}
use mathlib.Core.List.{List}
use mathlib.Core.Logic.{◌↔◌}
use mathlib.Core.Bool.{Bool, true, false, cond}
use borrow.Author.Tests.{ltb-true, lt-ltb}
use lib.Dec.{ltb}
use Rattle.std.specs.Prelude.{Ok, Err, is_some}
use Rattle.isa.specs.declared.Instruction.{Instruction}
use Rattle.machine.specs.Registers.{nothing_known}
use Rattle.machine.specs.Rules.{stepped_all}
use Rattle.sheet.specs.declared.Sheet.{Sheet}
use Rattle.sheet.specs.Sheet.{reading_of, Reading}
use Rattle.verdict.specs.declared.Verdict.{Verdict}
use Rattle.verdict.specs.declared.Verdict.TheVariants as verdict
use Rattle.verdict.specs.Numbers.{verdict_numbers, answer_numbers, Answer}
use Rattle.verdict.specs.Numbers.Numbers.{decision}
use Rattle.verdict.proofs.Apart.{answers-apart}
use Rattle.verdict_block.specs.Verdict.{Parts, apart, code_of, end_from, end_on, verdict_on}
use Rattle.verdict_block.specs.Verdict.Parts.{none, ending}
use Rattle.answer_block.specs.Block.{on_reading, block_answer}
use Rattle.theorems.specs.Runs.{Ends, ForcedEnd}
use Rattle.theorems.specs.Runs.Source.{block}
use Rattle.theorems.specs.Branches.{EndsIn}
use Rattle.theorems.proofs.Apart.{no-decision}
use Rattle.theorems.proofs.Found.{ends-apart, apart-ends}
use Rattle.theorems.proofs.Sound.{run_on, NotAgainst, blocks-right}
use Rattle.theorems.proofs.Sound.Outcome.{jumped}
use Rattle.theorems.proofs.Forced.{saying, blocks-forced}
use Rattle.laws.proofs.Booleans.{by_test}

-- a decision comes from an accepted sheet, and is the verdict on that block
record Decision (s : List ℕ) (number value reason : ℕ) : Type 0 where
  sheet : Sheet
  read : reading_of s ≡ Ok sheet
  below : number < sheet.blocks.count
  is : verdict_numbers (verdict_on s number) ≡ decision value reason

decided-by : (s : List ℕ) (number value reason : ℕ) → block_answer s number ≡ decision value reason → Decision s number value reason
unfolding block_answer
decided-by s number value reason e = go (reading_of s) refl e
  where
    go : (r : Reading) → reading_of s ≡ r → answer_numbers (on_reading r s number) ≡ decision value reason → Decision s number value reason
    go (Err r) q h = no-decision h
    go (Ok sheet) q h =
        by_test (ltb number sheet.blocks.count)
        (λ t. record { sheet = sheet; read = q; below = ltb-true number sheet.blocks.count t; is = rw t at h })
        (λ t. no-decision (rw t at h))

against : (v : Verdict) (value reason : ℕ) (went : Bool) → verdict_numbers v ≡ decision value reason → NotAgainst v (jumped went) → value ≡ cond went 1 0
against (verdict.Always r) value reason true e h = cc
against (verdict.Always r) value reason false e h = cc
against (verdict.Never r) value reason true e h = cc
against (verdict.Never r) value reason false e h = cc
against verdict.Undecided value reason went e h = cc
against verdict.NoBranch value reason went e h = cc

-- The theorem: no run of a block goes against a decision on it.
pub block_runs : (s : List ℕ) (number value reason : ℕ) → block_answer s number ≡ decision value reason
    → (went : Bool) → Ends s (block number) went → value ≡ cond went 1 0
unfolding run_on
block_runs s number value reason e went r =
    let d = decided-by s number value reason e in
    let is : run_on s number r.start r.free r.chosen ≡ jumped went =
    rw (ends-apart s d.sheet d.read number r.before r.last r.ends, r.ends.branch, r.jumps) in
    against (verdict_on s number) value reason went d.is
    (subst (NotAgainst (verdict_on s number)) is (blocks-right s d.sheet d.read number r.start r.free r.chosen))

-- ---- forced

saying-said : (b : Bool) → answer_numbers (Ok (saying b)) ≡ decision (cond b 1 0) 1
saying-said true = refl
saying-said false = refl

same-verdict : {v w : Verdict} → ◌≡◌ {A = Answer} (Ok v) (Ok w) → v ≡ w
same-verdict e = cc

saying-is : (v : Verdict) (b : Bool) → verdict_numbers v ≡ decision (cond b 1 0) 1 → v ≡ saying b
saying-is v b e = same-verdict (answers-apart (Ok v) (Ok (saying b)) (e ∙ sym (saying-said b)))

not-saying : {X : Type 0} (b : Bool) → verdict.NoBranch ≡ saying b → X
not-saying true e = cc
not-saying false e = cc

-- what is known at a block's end
ends_on : (s : List ℕ) (sheet : Sheet) → reading_of s ≡ Ok sheet → (number : ℕ) (before : List Instruction) (last : Instruction)
    → EndsIn s number before last
    → end_on s number nothing_known ≡ record { known = stepped_all nothing_known before; jump = Some last.mnemonic }
unfolding end_on end_from
ends_on s sheet read number before last h = rw (ends-apart s sheet read number before last h, h.branch)

-- an answer that is always (never) comes from a block that ends so
answer-forces : (s : List ℕ) (number : ℕ) (b : Bool) → block_answer s number ≡ decision (cond b 1 0) 1 → ForcedEnd s number b
unfolding verdict_on end_on end_from
answer-forces s number b e =
    let d = decided-by s number (cond b 1 0) 1 e in
    go d (apart (code_of s number)) refl (saying-is (verdict_on s number) b d.is)
  where
    go : Decision s number (cond b 1 0) 1 → (parts : Parts) → apart (code_of s number) ≡ parts → verdict_on s number ≡ saying b → ForcedEnd s number b
    go d none q is = not-saying b (rw q at is)
    go d (ending before last) q is =
        by_test (is_some last.target)
        (λ t.
        let ends = apart-ends s d.sheet d.read number before last d.below q t in
        let on = ends_on s d.sheet d.read number before last ends in
        record {
          before = before;
          last = last;
          ends = ends;
          forces = (blocks-forced s d.sheet d.read number (stepped_all nothing_known before) last.mnemonic on b).0 is;
        })
        (λ t. not-saying b (rw (q, t) at is))

-- and a block that ends so has that answer
forced-answer : (s : List ℕ) (sheet : Sheet) → reading_of s ≡ Ok sheet → (number : ℕ) → number < sheet.blocks.count
    → (b : Bool) → ForcedEnd s number b → block_answer s number ≡ decision (cond b 1 0) 1
unfolding block_answer
forced-answer s sheet read number below b f =
    let on = ends_on s sheet read number f.before f.last f.ends in
    rw (read, lt-ltb number sheet.blocks.count below, (blocks-forced s sheet read number (stepped_all nothing_known f.before) f.last.mnemonic on b).1 f.forces)
    (saying-said b)

-- The theorem: for a block of an accepted sheet the answer is always (never) exactly where the block ends in a flag branch that what is known
-- forces to jump (not to jump).
pub answers-forced : (s : List ℕ) (sheet : Sheet) → reading_of s ≡ Ok sheet → (number : ℕ) → number < sheet.blocks.count
    → (b : Bool) → (block_answer s number ≡ decision (cond b 1 0) 1) ↔ ForcedEnd s number b
answers-forced s sheet read number below b = (answer-forces s number b, forced-answer s sheet read number below b)
