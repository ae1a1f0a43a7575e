-- The sentence of a block: it is empty exactly where the block has no verdict, it stands in the text, and it is refused for its reasons alone.
use Prim.Native.Nat.{ℕ, suc, ◌+◌, ◌-◌, ◌≤◌, ◌<◌}
use mathlib.Core.Path.{◌≡◌, refl, sym, ap, ◌∙◌}
use mathlib.Core.Bool.{Bool, true, false, cond}
use mathlib.Core.List.{List, [], ◌∷◌, ◌++◌, map}
use mathlib.Core.Logic.{◌⊎◌, inl, inr, ◌↔◌}
use native.Mathlib.Omega.{arith}
use borrow.Author.Tests.{ltb-true, ltb-false, leb-true, leb-false, lt-ltb, le-ltb, lt-leb}
use lib.Dec.{leb, ltb}
use lib.ListN.{length, drop, get_or, length-append, length-drop}
use lib.Seq.{take-append_seam, get_or-append-add, get_or-drop}
use Rattle.std.proofs.Common.{Option, Some, None}
use Rattle.std.specs.Bool.{then_some}
use Rattle.std.specs.Prelude.{Ok, Err, is_some}
use Rattle.refusal.specs.declared.Fault.TheVariants.{Number, Text}
use Rattle.refusal.specs.Numbers.{number_of, refused as refusal}
use Rattle.refusal.specs.declared.Refusal.{Refusal}
use Rattle.machine.specs.declared.State.{State}
use Rattle.machine.specs.Registers.{nothing_known}
use Rattle.machine.specs.Rules.{stepped_all}
use Rattle.machine.specs.Conditions.{condition_of}
use Rattle.sheet.specs.declared.Sheet.{Sheet}
use Rattle.sheet.specs.Sheet.{reading_of, Reading}
use Rattle.sheet.proofs.Refusals.{reading-number}
use Rattle.verdict.specs.declared.Verdict.{Verdict}
use Rattle.verdict.specs.declared.Verdict.TheVariants.{Always, Never, Undecided, NoBranch}
use Rattle.verdict.specs.Numbers.{Numbers, verdict_numbers}
use Rattle.verdict.specs.Numbers.Numbers.{undecided, no_branch, refused as refused_block}
use Rattle.verdict_block.specs.Verdict.{Parts, apart, code_of, end_at, end_from, end_on, verdict_at, verdict_on, judged, flag_verdict}
use Rattle.verdict_block.specs.Verdict.Parts.{none, ending}
use Rattle.sentence.specs.Why.{no_why, why_stepped_all}
use Rattle.sentence.specs.Told.{told_of, sentence_of}
use Rattle.answer_block.specs.Block.{block_answer}
use Rattle.sentence_block.specs.Sentence.{jump_sentence, sentence_at, sentence_on}
use Rattle.answer_sentence.specs.Sentence.{Answered, turned_back, written, on_reading, sentence_answer}
use Rattle.answer_sentence.specs.Sentence.ToldNumbers.{long, refused}
use Rattle.theorems.specs.Sentences.{Holds, RefusesSentence, SentenceRow, answer_to, said_by, few_digits, sentence_rows}
use Rattle.theorems.specs.Sentences.RefusesSentence.{by_reading, no_block, no_room}
use Rattle.text.specs.Digits.{places_within}
use Rattle.sheet_bytes.specs.Write.{All}
use Rattle.worked_sheets.proofs.Worked.{each}
use Rattle.theorems.proofs.Deciding.{block-answer}
use Rattle.theorems.proofs.Filled.{from_start, empty-unknown}

-- ---- without a verdict, no sentence

-- a verdict that is none: undecided, or no branch
abbrev Open : Verdict → Type 0
Open v = (v ≡ Undecided) ⊎ (v ≡ NoBranch)

-- an answer without one
abbrev NoVerdict : Numbers → Type 0
NoVerdict a = (a ≡ undecided) ⊎ (a ≡ no_branch)

not-open : {X : Type 0} (b : Bool) → Open (flag_verdict (Some b)) → X
not-open true (inl e) = cc
not-open true (inr e) = cc
not-open false (inl e) = cc
not-open false (inr e) = cc

unknown-open : (f : Option Bool) → (f ≡ None) ↔ Open (flag_verdict f)
unknown-open (Some b) = (λ e. cc, not-open b)
unknown-open None = (λ e. inl refl, λ o. refl)

empty-at : (parts : Parts) → (sentence_at nothing_known no_why parts ≡ []) ↔ Open (verdict_at (end_at nothing_known parts))
empty-at none = (λ e. inr refl, λ o. refl)
empty-at (ending before last) = go (is_some last.target)
  where
    known : State
    known = stepped_all nothing_known before

    empty : (sentence_of (told_of known (why_stepped_all nothing_known no_why before) last.mnemonic) ≡ [])
        ↔ (condition_of known last.mnemonic ≡ None)
    empty = empty-unknown known (why_stepped_all nothing_known no_why before) last.mnemonic (from_start before)

    unknown : (condition_of known last.mnemonic ≡ None) ↔ Open (flag_verdict (condition_of known last.mnemonic))
    unknown = unknown-open (condition_of known last.mnemonic)

    go : (b : Bool)
        → (jump_sentence known (why_stepped_all nothing_known no_why before) (then_some b last.mnemonic) ≡ [])
        ↔ Open (judged known (then_some b last.mnemonic))
    go true = (λ e. unknown.0 (empty.0 e), λ o. empty.1 (unknown.1 o))
    go false = (λ e. inr refl, λ o. refl)

empty-on : (s : List ℕ) (number : ℕ) → (sentence_on s number ≡ []) ↔ Open (verdict_on s number)
unfolding sentence_on verdict_on end_on end_from
empty-on s number = empty-at (apart (code_of s number))

-- ---- what the answer is

data Case (s : List ℕ) (block : ℕ) (text : List ℕ) (r : Answered) : Type 0 where
  turned : (why : Refusal) → r ≡ turned_back why text → RefusesSentence s block text (number_of why.fault) why.at → Case s block text r
  wrote : (sheet : Sheet) → reading_of s ≡ Ok sheet → block < sheet.blocks.count → length (sentence_on s block) ≤ length text
      → r ≡ record { answer = long (length (sentence_on s block)); text = sentence_on s block ++ drop (length (sentence_on s block)) text } → Case s block text r

sentence-case : (s : List ℕ) (block : ℕ) (text : List ℕ) → Case s block text (sentence_answer s block text)
unfolding sentence_answer
sentence-case s block text = go (reading_of s) refl
  where
    sentence : List ℕ
    sentence = sentence_on s block

    fit : (sheet : Sheet) → reading_of s ≡ Ok sheet → block < sheet.blocks.count → (t : Bool) → leb (length sentence) (length text) ≡ t
        → Case s block text (cond t (record { answer = long (length sentence); text = sentence ++ drop (length sentence) text }) (turned_back (refusal Text (length sentence)) text))
    fit sheet read below true t = wrote sheet read below (leb-true (length sentence) (length text) t) refl
    fit sheet read below false t = turned (refusal Text (length sentence)) refl (no_room sheet read below (leb-false (length sentence) (length text) t))

    there : (sheet : Sheet) → reading_of s ≡ Ok sheet → (t : Bool) → ltb block sheet.blocks.count ≡ t
        → Case s block text (cond t (written sentence text) (turned_back (refusal Number 0) text))
    there sheet read true t = fit sheet read (ltb-true block sheet.blocks.count t) (leb (length sentence) (length text)) refl
    there sheet read false t = turned (refusal Number 0) refl (no_block sheet read (ltb-false block sheet.blocks.count t))

    go : (r : Reading) → reading_of s ≡ r → Case s block text (on_reading r s block text)
    go (Err r) e = turned r refl (by_reading r e)
    go (Ok sheet) e = there sheet e (ltb block sheet.blocks.count) refl

long-refused : {X : Type 0} {n number place : ℕ} → long n ≡ refused number place → X
long-refused e = cc

same-long : {m n : ℕ} → long m ≡ long n → m ≡ n
same-long e = cc

same-refused : {a b c d : ℕ} → refused a b ≡ refused c d → (a ≡ c) × (b ≡ d)
same-refused e = (cc, cc)

-- the block verdict is refused for the first two of them
block_refused : (s : List ℕ) (block : ℕ) (r : Refusal) → reading_of s ≡ Err r → block_answer s block ≡ refused_block (number_of r.fault) r.at
unfolding block_answer
block_refused s block r e = rw e

block-missing : (s : List ℕ) (block : ℕ) (sheet : Sheet) → reading_of s ≡ Ok sheet → sheet.blocks.count ≤ block
    → block_answer s block ≡ refused_block 13 0
unfolding block_answer
block-missing s block sheet e le = rw (e, le-ltb block sheet.blocks.count le)

-- ---- the theorems, for any bytes

-- The length is 0 exactly where the block has no verdict.
pub sentence-decided : (s : List ℕ) (block : ℕ) (text : List ℕ)
    → ((sentence_answer s block text).answer ≡ long 0) ↔ ((block_answer s block ≡ undecided) ⊎ (block_answer s block ≡ no_branch))
sentence-decided s block text = (λ e. there e (sentence-case s block text), λ o. back o (sentence-case s block text))
  where
    no-entry : (l : List ℕ) → length l ≡ 0 → l ≡ []
    no-entry [] e = refl
    no-entry (x ∷ l) e = absurd (omega (arith, e))

    said : (v : Verdict) → Open v → NoVerdict (verdict_numbers v)
    said v (inl e) = inl (ap verdict_numbers e)
    said v (inr e) = inr (ap verdict_numbers e)

    open-verdict : (v : Verdict) → NoVerdict (verdict_numbers v) → Open v
    open-verdict (Always r) (inl e) = cc
    open-verdict (Always r) (inr e) = cc
    open-verdict (Never r) (inl e) = cc
    open-verdict (Never r) (inr e) = cc
    open-verdict Undecided o = inl refl
    open-verdict NoBranch o = inr refl

    there : (sentence_answer s block text).answer ≡ long 0 → Case s block text (sentence_answer s block text)
        → NoVerdict (block_answer s block)
    there e (turned r is why) = long-refused (sym e ∙ ap (λ (r : Answered). r.answer) is)
    there e (wrote sheet read below room is) =
        let none-there = no-entry (sentence_on s block) (same-long (sym (ap (λ (r : Answered). r.answer) is) ∙ e)) in
        rw (block-answer s sheet read block below) (said (verdict_on s block) ((empty-on s block).0 none-there))

    refused-open : {number place : ℕ} → block_answer s block ≡ refused_block number place
        → NoVerdict (block_answer s block) → ⊥
    refused-open e (inl f) = let q = sym e ∙ f in cc
    refused-open e (inr f) = let q = sym e ∙ f in cc

    empty : {sheet : Sheet} → reading_of s ≡ Ok sheet → block < sheet.blocks.count
        → NoVerdict (block_answer s block) → sentence_on s block ≡ []
    empty {sheet} read below o = (empty-on s block).1 (open-verdict (verdict_on s block) (rw (block-answer s sheet read block below) at o))

    no_reason : NoVerdict (block_answer s block) → {number place : ℕ} → RefusesSentence s block text number place → ⊥
    no_reason o (by_reading r e) = refused-open (block_refused s block r e) o
    no_reason o (no_block sheet e le) = refused-open (block-missing s block sheet e le) o
    no_reason o (no_room sheet e less short) = let q = ap length (empty e less o) in omega arith

    back : NoVerdict (block_answer s block) → Case s block text (sentence_answer s block text)
        → (sentence_answer s block text).answer ≡ long 0
    back o (turned r is why) = absurd (no_reason o why)
    back o (wrote sheet read below room is) = ap (λ (r : Answered). r.answer) is ∙ ap (λ (l : List ℕ). long (length l)) (empty read below o)

-- It is refused exactly for one of the reasons.
pub sentence-refused : (s : List ℕ) (block : ℕ) (text : List ℕ) (number place : ℕ)
    → ((sentence_answer s block text).answer ≡ refused number place) ↔ RefusesSentence s block text number place
unfolding sentence_answer
sentence-refused s block text number place = (λ e. there e (sentence-case s block text), back)
  where
    there : (sentence_answer s block text).answer ≡ refused number place → Case s block text (sentence_answer s block text)
        → RefusesSentence s block text number place
    there e (turned r is why) =
        let same = same-refused (sym (ap (λ (r : Answered). r.answer) is) ∙ e) in rw (same.0, same.1) at why
    there e (wrote sheet read below room is) = long-refused (sym (ap (λ (r : Answered). r.answer) is) ∙ e)

    back : {number place : ℕ} → RefusesSentence s block text number place → (sentence_answer s block text).answer ≡ refused number place
    back (by_reading r e) = rw e
    back (no_block sheet e le) = rw (e, le-ltb block sheet.blocks.count le)
    back (no_room sheet e less short) = rw (e, lt-ltb block sheet.blocks.count less, lt-leb (length (sentence_on s block)) (length text) short)

-- A refusal leaves the text as it was.
pub text-kept : (s : List ℕ) (block : ℕ) (text : List ℕ) (number place : ℕ) → (sentence_answer s block text).answer ≡ refused number place
    → (sentence_answer s block text).text ≡ text
text-kept s block text number place e = go (sentence-case s block text)
  where
    go : Case s block text (sentence_answer s block text) → (sentence_answer s block text).text ≡ text
    go (turned r is why) = ap (λ (r : Answered). r.text) is
    go (wrote sheet read below room is) = long-refused (sym (ap (λ (r : Answered). r.answer) is) ∙ e)

-- Its number is one of reading's, 13 or 17.
pub sentence-number : (s : List ℕ) (block : ℕ) (text : List ℕ) {k at : ℕ} → (sentence_answer s block text).answer ≡ refused k at
    → ((1 ≤ k) × (k ≤ 9)) ⊎ ((k ≡ 13) ⊎ (k ≡ 17))
sentence-number s block text {k} {at} e = go ((sentence-refused s block text k at).0 e)
  where
    go : {a b : ℕ} → RefusesSentence s block text a b → ((1 ≤ a) × (a ≤ 9)) ⊎ ((a ≡ 13) ⊎ (a ≡ 17))
    go (by_reading r q) = let n = reading-number s q in inl (n.0, n.1)
    go (no_block sheet q le) = inr (inl refl)
    go (no_room sheet q less short) = inr (inr refl)

beyond-it : (sentence text : List ℕ) (i : ℕ) → length sentence ≤ i → get_or (sentence ++ drop (length sentence) text) i 0 ≡ get_or text i 0
beyond-it sentence text i le =
    let there : length sentence + (i - length sentence) ≡ i = omega arith in
    rw there at (get_or-append-add sentence (drop (length sentence) text) (i - length sentence) 0 ∙ get_or-drop (length sentence) text (i - length sentence) 0)

-- Where the answer is a length, the sentence stands in the text, and nothing else has changed.
pub sentence-stands : (s : List ℕ) (block : ℕ) (text : List ℕ) (n : ℕ) → (sentence_answer s block text).answer ≡ long n
    → Holds (sentence_on s block) n text (sentence_answer s block text).text
sentence-stands s block text n e = go (sentence-case s block text)
  where
    sentence : List ℕ
    sentence = sentence_on s block

    go : Case s block text (sentence_answer s block text) → Holds sentence n text (sentence_answer s block text).text
    go (turned r is why) = long-refused (sym e ∙ ap (λ (r : Answered). r.answer) is)
    go (wrote sheet read below room is) =
        let count : n ≡ length sentence = same-long (sym e ∙ ap (λ (r : Answered). r.answer) is) in
        rw (ap (λ (r : Answered). r.text) is, count)
        (record {
          counted = refl;
          room = room;
          first = take-append_seam sentence (drop (length sentence) text);
          long = simp (length-append, length-drop) (omega arith);
          beyond = beyond-it sentence text;
        })

-- ---- worked sentences

-- the places of ten, and of the two long values, however many more there could be
two-places : places_within 10 10 10 ≡ 2
unfolding places_within
two-places = refl

eight-places : (more : ℕ) → places_within 16 (suc (suc (suc (suc (suc (suc (suc (suc more)))))))) 0xffff_fff6 ≡ 8
unfolding places_within
eight-places more = refl

five-places : (more : ℕ) → places_within 16 (suc (suc (suc (suc (suc more))))) 0x1_0000 ≡ 5
unfolding places_within
five-places more = refl

few-said : ◌≡◌ {A = List Answered} (map answer_to few_digits) (map said_by few_digits)
unfolding few_digits Rattle.sheet_field.specs.Field.little Rattle.sheet_field.specs.Field.field_at Rattle.sheet_field.specs.Field.check_field Rattle.sheet_field.specs.Field.code_at Rattle.sheet_field.specs.Field.count_at Rattle.sheet_instruction.specs.Instruction.register_at Rattle.sheet_instruction.specs.Instruction.operand_at Rattle.sheet_instruction.specs.Instruction.with_register Rattle.sheet_instruction.specs.Instruction.registers_from Rattle.sheet_instruction.specs.Instruction.registers_at Rattle.sheet_instruction.specs.Instruction.map_at Rattle.sheet_instruction.specs.Instruction.address_at Rattle.sheet_instruction.specs.Instruction.head_at Rattle.sheet_instruction.specs.Instruction.tail_at Rattle.sheet_instruction.specs.Instruction.instruction_at Rattle.sheet.specs.Sheet.instructions_from Rattle.sheet.specs.Sheet.block_at Rattle.sheet.specs.Sheet.blocks_from Rattle.sheet.specs.Sheet.nodes_from Rattle.sheet.specs.Sheet.sheet_at Rattle.sheet.specs.Sheet.reading_of Rattle.isa.specs.Mnemonics.named Rattle.isa.specs.Mnemonics.table Rattle.verdict_block.specs.Verdict.within Rattle.verdict_block.specs.Verdict.code_of Rattle.verdict_block.specs.Verdict.apart Rattle.machine.specs.Rules.stepped_all Rattle.machine.specs.Finish.finished Rattle.machine.specs.Rules.arith_step Rattle.machine.specs.Rules.unary_unknown Rattle.machine.specs.Rules.unary_step Rattle.machine.specs.Rules.register_step Rattle.machine.specs.Rules.modelled_step Rattle.machine.specs.Rules.stepped Rattle.machine.specs.Registers.nothing_known Rattle.machine.specs.Registers.slot_at Rattle.machine.specs.Registers.forget_register Rattle.machine.specs.Rules.carry_step Rattle.known.specs.Registers.part_of Rattle.known.specs.Registers.with_part Rattle.machine.specs.States.replaced Rattle.machine.specs.Registers.read_of Rattle.machine.specs.Registers.written Rattle.machine.specs.Registers.operand_of Rattle.machine.specs.Registers.forget_registers Rattle.machine.specs.Registers.forgotten Rattle.known.specs.Operations.of_itself Rattle.known.specs.Operations.of_known Rattle.known.specs.Operations.arith_effect Rattle.known.specs.Operations.unary_effect Rattle.known.specs.Operations.forget_flags Rattle.known.specs.Values.extracted Rattle.known.specs.Values.inserted Rattle.known.specs.Values.merged Rattle.alu.specs.Arithmetic.result_of Rattle.alu.specs.Arithmetic.carry Rattle.alu.specs.Arithmetic.overflow Rattle.alu.specs.Arithmetic.result_flags Rattle.alu.specs.Arithmetic.performed lib.Count.ones Rattle.worked_sheets.specs.Sheets.placed Rattle.sentence_block.specs.Sentence.sentence_on Rattle.answer_sentence.specs.Sentence.sentence_answer Rattle.sentence.specs.Why.arith_why Rattle.sentence.specs.Why.unary_why Rattle.sentence.specs.Why.modelled_why Rattle.sentence.specs.Why.why_stepped Rattle.sentence.specs.Why.why_stepped_all Rattle.sentence.specs.Told.flags_told Rattle.sentence.specs.Told.condition_told Rattle.sentence.specs.Told.told_of Rattle.sentence_text.specs.Sentence.joined Rattle.laws.specs.Words.same_words Rattle.phrase.specs.Causes.value_text Rattle.phrase.specs.Causes.values_text Rattle.phrase.specs.Causes.itself_text Rattle.phrase.specs.Causes.carry_text Rattle.phrase.specs.Causes.overflow_text Rattle.wording.specs.Names.words Rattle.wording.specs.Names.low_bytes Rattle.wording.specs.Names.high_bytes Rattle.wording.specs.Names.low_name Rattle.wording.specs.Names.register_name Rattle.wording.specs.Values.signed_below Rattle.wording.specs.Values.signed_text Rattle.wording.specs.Values.is_text Rattle.text.specs.Digits.digits Rattle.text.specs.Digits.places_within
few-said = refl

pub as_said : All (λ (r : SentenceRow). answer_to r ≡ said_by r) sentence_rows
unfolding All sentence_rows Rattle.sheet_field.specs.Field.little Rattle.sheet_field.specs.Field.field_at Rattle.sheet_field.specs.Field.check_field Rattle.sheet_field.specs.Field.code_at Rattle.sheet_field.specs.Field.count_at Rattle.sheet_instruction.specs.Instruction.register_at Rattle.sheet_instruction.specs.Instruction.operand_at Rattle.sheet_instruction.specs.Instruction.with_register Rattle.sheet_instruction.specs.Instruction.registers_from Rattle.sheet_instruction.specs.Instruction.registers_at Rattle.sheet_instruction.specs.Instruction.map_at Rattle.sheet_instruction.specs.Instruction.address_at Rattle.sheet_instruction.specs.Instruction.head_at Rattle.sheet_instruction.specs.Instruction.tail_at Rattle.sheet_instruction.specs.Instruction.instruction_at Rattle.sheet.specs.Sheet.instructions_from Rattle.sheet.specs.Sheet.block_at Rattle.sheet.specs.Sheet.blocks_from Rattle.sheet.specs.Sheet.nodes_from Rattle.sheet.specs.Sheet.sheet_at Rattle.sheet.specs.Sheet.reading_of Rattle.isa.specs.Mnemonics.named Rattle.isa.specs.Mnemonics.table Rattle.verdict_block.specs.Verdict.within Rattle.verdict_block.specs.Verdict.code_of Rattle.verdict_block.specs.Verdict.apart Rattle.machine.specs.Rules.stepped_all Rattle.machine.specs.Finish.finished Rattle.machine.specs.Rules.arith_step Rattle.machine.specs.Rules.unary_unknown Rattle.machine.specs.Rules.unary_step Rattle.machine.specs.Rules.register_step Rattle.machine.specs.Rules.modelled_step Rattle.machine.specs.Rules.stepped Rattle.machine.specs.Registers.nothing_known Rattle.machine.specs.Registers.slot_at Rattle.machine.specs.Registers.forget_register Rattle.machine.specs.Rules.carry_step Rattle.known.specs.Registers.part_of Rattle.known.specs.Registers.with_part Rattle.machine.specs.States.replaced Rattle.machine.specs.Registers.read_of Rattle.machine.specs.Registers.written Rattle.machine.specs.Registers.operand_of Rattle.machine.specs.Registers.forget_registers Rattle.machine.specs.Registers.forgotten Rattle.known.specs.Operations.of_itself Rattle.known.specs.Operations.of_known Rattle.known.specs.Operations.arith_effect Rattle.known.specs.Operations.unary_effect Rattle.known.specs.Operations.forget_flags Rattle.known.specs.Values.extracted Rattle.known.specs.Values.inserted Rattle.known.specs.Values.merged Rattle.alu.specs.Arithmetic.result_of Rattle.alu.specs.Arithmetic.carry Rattle.alu.specs.Arithmetic.overflow Rattle.alu.specs.Arithmetic.result_flags Rattle.alu.specs.Arithmetic.performed lib.Count.ones Rattle.worked_sheets.specs.Sheets.placed Rattle.sentence_block.specs.Sentence.sentence_on Rattle.answer_sentence.specs.Sentence.sentence_answer Rattle.sentence.specs.Why.arith_why Rattle.sentence.specs.Why.unary_why Rattle.sentence.specs.Why.modelled_why Rattle.sentence.specs.Why.why_stepped Rattle.sentence.specs.Why.why_stepped_all Rattle.sentence.specs.Told.flags_told Rattle.sentence.specs.Told.condition_told Rattle.sentence.specs.Told.told_of Rattle.sentence_text.specs.Sentence.joined Rattle.laws.specs.Words.same_words Rattle.phrase.specs.Causes.value_text Rattle.phrase.specs.Causes.values_text Rattle.phrase.specs.Causes.itself_text Rattle.phrase.specs.Causes.carry_text Rattle.phrase.specs.Causes.overflow_text Rattle.wording.specs.Names.words Rattle.wording.specs.Names.low_bytes Rattle.wording.specs.Names.high_bytes Rattle.wording.specs.Names.low_name Rattle.wording.specs.Names.register_name Rattle.wording.specs.Values.signed_below Rattle.wording.specs.Values.signed_text Rattle.wording.specs.Values.is_text Rattle.text.specs.Digits.digits
as_said = (rw (eight-places 0xffff_ffee, two-places), (rw (five-places 0xfffb), each answer_to said_by few_digits few-said))
