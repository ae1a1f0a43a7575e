-- Blocks, whole runs: whatever the start state and whatever is free, no run of a block of an accepted sheet goes against
-- its verdict.
use Rattle.std.proofs.Common.{None, Option, Some}
use Prim.Native.Nat.{ℕ, zero, suc}
use mathlib.Core.Path.{◌≡◌, refl, ap}
use mathlib.Core.List.{List, [], ◌∷◌, ◌++◌}
use mathlib.Core.Bool.{Bool, true, false, cond, ◌&&◌}
use lib.Dec.{eqb, leb, ltb}
use lib.ListN.{get_or}
use Rattle.std.specs.Prelude.{Ok, is_some}
use Rattle.sheet_field.specs.Field.{Place}
use Rattle.isa.specs.declared.Operand.{Operand}
use Rattle.isa.specs.declared.Operand.TheVariants.{Absent, Reg, Imm, Mem}
use Rattle.isa.specs.declared.Instruction.{Instruction}
use Rattle.machine.specs.declared.State.{State}
use Rattle.isa.specs.declared.Mnemonic.{Mnemonic}
use Rattle.machine.specs.Registers.{nothing_known}
use Rattle.machine.specs.Rules.{stepped_all}
use Rattle.machine.specs.Conditions.{condition_of}
use Rattle.concrete.specs.Concrete.{Processor, Choice, executed_all, outcome}
use Rattle.concrete.specs.Agreement.{Agrees, AllAccepted, operand_well_formed}
use Rattle.concrete.proofs.Sound.{nothing_known_lem, steps-sound}
use Rattle.concrete.proofs.Forced.{forced}
use Rattle.sheet_instruction.specs.Instruction.{instruction_at}
use Rattle.sheet_instruction.proofs.Accepted.{Well, instruction-on}
use Rattle.sheet.specs.declared.Sheet.{Sheet}
use Rattle.sheet.specs.Sheet.{no_block, instructions_from, sheet_at, reading_of}
use Rattle.sheet.proofs.Accepted.{accepted}
use Rattle.verdict.specs.declared.Verdict.TheVariants as answer
use Rattle.verdict_block.specs.Verdict.{within, code_of, Parts, preceded, apart, flag_verdict, judged, verdict_at, end_at, end_from, end_on, verdict_on, jump_of}
use Rattle.verdict_block.specs.Verdict.Parts.{none, ending}
use Rattle.verdict.specs.declared.Verdict.{Verdict}

-- a run's outcome: whether its last instruction jumps; none where that is no conditional branch
pub data Outcome : Type 0 where
  jumped : Bool → Outcome
  nothing : Outcome

abbrev pub run_at : Processor → (ℕ → Choice) → Bool → Parts → Outcome
run_at start free last none = nothing
run_at start free last (ending before i) =
    cond (is_some i.target) (jumped (outcome i.mnemonic (executed_all start before free) last)) nothing

-- the run of the block of that number, by the instructions that the code finds
unfoldable pub run_on : List ℕ → ℕ → Processor → (ℕ → Choice) → Bool → Outcome
run_on s number start free last = run_at start free last (apart (code_of s number))

-- Always means that the branch jumps, never that it does not; the other verdicts say nothing.
abbrev pub NotAgainst : Verdict → Outcome → Type 0
NotAgainst (answer.Always reason) o = o ≡ jumped true
NotAgainst (answer.Never reason) o = o ≡ jumped false
NotAgainst answer.Undecided o = Unit {0}
NotAgainst answer.NoBranch o = Unit {0}

-- an instruction that reading took is one that the machine's theorems speak of
well : (o : Operand) → Well o → operand_well_formed o ≡ true
well Absent w = refl
well (Reg r) w = w
well (Imm x) w = refl
well Mem w = refl

all_append : (l m : List Instruction) → AllAccepted l → AllAccepted m → AllAccepted (l ++ m)
all_append [] m a b = b
all_append (i ∷ l) m a b = (a.0, all_append l m a.1 b)

all_read : (s : List ℕ) (p : Place) (k : ℕ) {a : ℕ} → (instructions_from s p k).next ≡ Ok a → AllAccepted (instructions_from s p k).list
unfolding instructions_from
all_read s p zero e = tt
all_read s p (suc k) e =
    let t = instructions_from s p k in
    let r = instruction-on (eqb k 0) t.last s t.next e in
    let i = (instruction_at (eqb k 0) t.last s t.next).instruction in
    all_append t.list (i ∷ []) (all_read s p k r.there)
    (record { first = well i.first r.one; second = well i.second r.two; sound = r.sound }, tt)

all-of-sheet : (s : List ℕ) (sheet : Sheet) → reading_of s ≡ Ok sheet → AllAccepted (sheet_at s).instructions.list
all-of-sheet s sheet read =
    let acc = accepted s sheet read in
    rw (← acc.instructions)
    (all_read s (Ok sheet.instructions.at) sheet.instructions.count {a = acc.after_instructions.0} (rw acc.instructions acc.after_instructions.1))

all-within : (from to : ℕ) (l : List Instruction) → AllAccepted l → AllAccepted (within from to l)
unfolding within
all-within from to [] a = tt
all-within from to (i ∷ l) a = kept (leb from i.address && ltb i.address to) (all-within from to l a.1)
  where
    kept : (b : Bool) → AllAccepted (within from to l) → AllAccepted (cond b (i ∷ within from to l) (within from to l))
    kept true rest = (a.0, rest)
    kept false rest = rest

-- the instructions of a block of an accepted sheet
pub all-of-block : (s : List ℕ) (sheet : Sheet) → reading_of s ≡ Ok sheet → (number : ℕ) → AllAccepted (code_of s number)
unfolding code_of
all-of-block s sheet read number =
    let block = get_or (sheet_at s).blocks.list number no_block in
    all-within block.from block.to (sheet_at s).instructions.list (all-of-sheet s sheet read)

-- those before the last
abbrev pub Before : Parts → Type 0
Before none = Unit {0}
Before (ending before last) = AllAccepted before

pub before_last : (l : List Instruction) → AllAccepted l → Before (apart l)
unfolding apart
before_last [] a = tt
before_last (i ∷ l) a = go (apart l) (before_last l a.1)
  where
    go : (parts : Parts) → Before parts → Before (preceded i parts)
    go none rest = tt
    go (ending before last) rest = (a.0, rest)

-- a branch: what is decided of it is forced
branch-right : (s : State) (p : Processor) (m : Mnemonic) (last : Bool) → Agrees s p → (d : Option Bool) → condition_of s m ≡ d
    → NotAgainst (flag_verdict d) (jumped (outcome m p last))
branch-right s p m last agrees (Some true) e = ap jumped ((forced s p agrees m true).0 e p last agrees)
branch-right s p m last agrees (Some false) e = ap jumped ((forced s p agrees m false).0 e p last agrees)
branch-right s p m last agrees None e = tt

last-right : (s : State) (p : Processor) (i : Instruction) (last : Bool) → Agrees s p
    → NotAgainst (judged s (jump_of i)) (cond (is_some i.target) (jumped (outcome i.mnemonic p last)) nothing)
last-right s p i last agrees = go (is_some i.target) refl
  where
    go : (b : Bool) → is_some i.target ≡ b → NotAgainst (judged s (jump_of i)) (cond b (jumped (outcome i.mnemonic p last)) nothing)
    go true e = rw e (branch-right s p i.mnemonic last agrees (condition_of s i.mnemonic) refl)
    go false e = rw e tt

end-right : (s : State) (p : Processor) (parts : Parts) (free : ℕ → Choice) (last : Bool) → Before parts → Agrees s p
    → NotAgainst (verdict_at (end_at s parts)) (run_at p free last parts)
end-right s p none free last a agrees = tt
end-right s p (ending before i) free last a agrees =
    last-right (stepped_all s before) (executed_all p before free) i last (steps-sound s p before free a agrees)

-- The theorem: for every accepted sheet and every block of it, whatever the start state and whatever is free.
pub blocks-right : (s : List ℕ) (sheet : Sheet) → reading_of s ≡ Ok sheet → (number : ℕ)
    → (start : Processor) (free : ℕ → Choice) (last : Bool) → NotAgainst (verdict_on s number) (run_on s number start free last)
unfolding verdict_on end_on end_from run_on
blocks-right s sheet read number start free last =
    end-right nothing_known start (apart (code_of s number)) free last
    (before_last (code_of s number) (all-of-block s sheet read number)) (nothing_known_lem start)
