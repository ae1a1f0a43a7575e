-- The theorems about the product, together: each with a sentence, and its statement as a whole. Their proofs are in the files that they cite. Who
-- believes the definitions that stand in a statement need not read on; docs/TRUST.md lists them for each.
use Rattle.std.specs.Prelude.{true, Some, None, Ok}
use Prim.Native.Nat.{ℕ, ◌<◌, ◌≤◌}
use mathlib.Core.Path.{◌≡◌}
use mathlib.Core.List.{List}
use mathlib.Core.Logic.{◌⊎◌, ◌↔◌}
use mathlib.Core.Bool.{Bool, cond}
use lib.ListN.{length}
use Rattle.expr.specs.Codes.{op_equal, op_not_equal}
use Rattle.expr.specs.Tree.{Expr}
use Rattle.expr.specs.Tree.Expr.{binary}
use Rattle.value.specs.Evaluation.{Values, Contents, Effects, shared, ev}
use Rattle.value.specs.Run.{Choices, run}
use Rattle.sheet.specs.declared.Sheet.{Sheet}
use Rattle.sheet.specs.Sheet.{reading_of, node_numbered, node_place}
use Rattle.sheet_bytes.specs.Write.{All}
use Rattle.format.specs.Sheet.{Byte, numbers, Format}
use Rattle.format.specs.Examples.{Example, examples}
use Rattle.format.proofs.Unique.{all-bytes, format}
use Rattle.format.proofs.Examples.{examples-hold}
use Rattle.verdict.specs.declared.Verdict.TheVariants as verdict
use Rattle.verdict.specs.Numbers.Numbers.{decision, undecided, no_branch, refused as refused-answer}
use Rattle.parity.specs.LowBit.{low_bit, AlwaysDiffer, low, Has, shared_bits, own_bits}
use Rattle.decide.specs.Decide.{decide}
use Rattle.decide.specs.Decided.{Decided}
use Rattle.decide.specs.Rows.{Yields as YieldsEach, rows as conditions, worked}
use Rattle.substitution.specs.Substitution.{into, with_assignments}
use Rattle.decide.proofs.Complete.{decided}
use Rattle.parity.proofs.Evaluation.{ev-low}
use Rattle.evaluate_node.specs.Evaluate.{StartsFrom}
use Rattle.answer_block.specs.Block.{block_answer}
use Rattle.answer_node.specs.Node.{node_answer}
use Rattle.answer_node.proofs.Judged.{always-judged}
use Rattle.answer_listing.specs.Listing.{listing_of}
use Rattle.answer_listing.specs.Listing.ListedNumbers.{lines, refused as refused-listing}
use Rattle.answer_evaluation.specs.Evaluation.{evaluation_answer}
use Rattle.answer_evaluation.specs.Evaluation.Evaluated.{outcome, refused}
use Rattle.sentence_block.specs.Sentence.{sentence_on}
use Rattle.answer_sentence.specs.Sentence.{sentence_answer}
use Rattle.answer_sentence.specs.Sentence.ToldNumbers.{long, refused as refused-sentence}
use Rattle.listing.specs.Program.{printed}
use Rattle.theorems.specs.Runs.{Source, answer_for, Ends, ForcedEnd, node_run, SaysOf, AnswerFromRun}
use Rattle.theorems.specs.Lines.{line_at, Listed, Refuses, TrueOf}
use Rattle.theorems.specs.Sentences.{Holds, RefusesSentence, SentenceRow, answer_to, said_by, sentence_rows}
use Rattle.std.specs.Prelude.{codes}
use Rattle.theorems.specs.Text.{text_of, Sample, samples}
use Rattle.theorems.specs.Rows.{Yields, rows, probe, marked}
use Rattle.worked_sheets.specs.Sheets.{Worked}
use Rattle.worked_sheets.proofs.Worked.{as-worked}
use Rattle.theorems.proofs.Public.{answers-forced}
use Rattle.theorems.proofs.Nodes.{node-decided, evaluation-agrees, probe-run}
use Rattle.theorems.proofs.Reasons.{node-decided-as, node-undecided-where}
use Rattle.theorems.proofs.Refusals.{node-number, listing-number}
use Rattle.theorems.proofs.Outcomes.{answers-run, fourteen, refusal-number}
use Rattle.theorems.proofs.Whole.{runs-right}
use Rattle.theorems.proofs.Program.{text-is, limit_is, as-sampled}
use Rattle.theorems.proofs.Listing.{lines-true, lines-due, refused-for, list-kept}
use Rattle.theorems.proofs.Sentences.{sentence-decided, sentence-stands, sentence-refused, sentence-number, text-kept, as_said}

-- Reading accepts exactly the bytes of the valid sheets, and yields their content; a refusal has a number from 1 to 9 and an offset within the sheet.
pub reading : Format
reading = format

-- Reading answers short sheets as worked out by hand, each number of a refusal among them.
pub short-sheets : All (λ (x : Example). reading_of x.bytes ≡ x.answer) examples
short-sheets = examples-hold

-- Whatever the bytes, and whatever block or node: a run of it that has an outcome does not go against the answer for it. The answer 1, always, says
-- that the run jumps, or that the condition holds at its end; 0, never, says the opposite. A run starts from any registers and flags, or any values
-- of the variables, and memory, calls, effects and what is not modelled do whatever they may.
pub runs : (s : List Byte) (from : Source) (value reason : ℕ) → answer_for (numbers s) from ≡ decision value reason
    → (went : Bool) → Ends (numbers s) from went → value ≡ cond went 1 0
runs = runs-right

-- Every line that a listing writes is true of every run of the block or node that it comes from.
pub true-lines : (s : List Byte) (list : List ℕ) (count k : ℕ) → (listing_of (numbers s) list).answer ≡ lines count → k < count
    → TrueOf (numbers s) (line_at (listing_of (numbers s) list).list k)
true-lines = lines-true

-- The lines that a listing writes are exactly those due, each read from its 18 bytes, rising by site, one a site: that of the first block, or else
-- node, that decides the branch. Their number is the answer, they fit the list, and what is beyond them is as it was.
pub due-lines : (s : List Byte) (list : List ℕ) (count : ℕ) → (listing_of (numbers s) list).answer ≡ lines count
    → Listed (numbers s) count list (listing_of (numbers s) list).list
due-lines = lines-due

-- A listing is refused exactly where reading refuses, or a node is refused, or the list is too short for the lines due.
pub refused-listings : (s : List Byte) (list : List ℕ) (number place : ℕ)
    → ((listing_of (numbers s) list).answer ≡ refused-listing number place) ↔ Refuses (numbers s) list number place
refused-listings = refused-for

-- A listing is refused with a number from 1 to 12; so 0, which a C host gets with the lines, is no refusal.
pub listing-refusals : (s list : List ℕ) {k at : ℕ} → (listing_of s list).answer ≡ refused-listing k at → (1 ≤ k) × (k ≤ 12)
listing-refusals = listing-number

-- A refused listing leaves the list as it was.
pub kept-list : (s : List Byte) (list : List ℕ) (number place : ℕ) → (listing_of (numbers s) list).answer ≡ refused-listing number place
    → (listing_of (numbers s) list).list ≡ list
kept-list = list-kept

-- The answer for a block's sentence is the length 0 exactly where the block has no verdict, being undecided or without a branch; so it is in any room,
-- and a verdict has a sentence.
pub sentences : (s : List ℕ) (number : ℕ) (text : List ℕ)
    → ((sentence_answer s number text).answer ≡ long 0) ↔ ((block_answer s number ≡ undecided) ⊎ (block_answer s number ≡ no_branch))
sentences = sentence-decided

-- Where the answer is a length, the sentence is the text's prefix of that length, and what is beyond it is as it was.
pub sentence-texts : (s : List ℕ) (number : ℕ) (text : List ℕ) (count : ℕ) → (sentence_answer s number text).answer ≡ long count
    → Holds (sentence_on s number) count text (sentence_answer s number text).text
sentence-texts = sentence-stands

-- A sentence is refused exactly where reading refuses, or there is no block of that number, or the text is shorter than the sentence.
pub refused-sentences : (s : List ℕ) (number : ℕ) (text : List ℕ) (k at : ℕ)
    → ((sentence_answer s number text).answer ≡ refused-sentence k at) ↔ RefusesSentence s number text k at
refused-sentences = sentence-refused

-- It is refused with one of reading's numbers, 13 or 17; so 0, which a C host gets with the length, is no refusal.
pub sentence-refusals : (s : List ℕ) (number : ℕ) (text : List ℕ) {k at : ℕ} → (sentence_answer s number text).answer ≡ refused-sentence k at
    → ((1 ≤ k) × (k ≤ 9)) ⊎ ((k ≡ 13) ⊎ (k ≡ 17))
sentence-refusals = sentence-number

-- A refused sentence leaves the text as it was.
pub kept-text : (s : List ℕ) (number : ℕ) (text : List ℕ) (k at : ℕ) → (sentence_answer s number text).answer ≡ refused-sentence k at
    → (sentence_answer s number text).text ≡ text
kept-text = text-kept

-- For short sheets, given as bytes, the sentences are those worked out by hand: each phrase, names from each table, values on both sides of base ten's
-- end, texts joined and told alone, blocks without a sentence.
pub worked-sentences : All (λ (r : SentenceRow). answer_to r ≡ said_by r) sentence_rows
worked-sentences = as_said

-- What the listing program writes for at most 65,536 bytes is the text of the listing's answer and lines, on any list that can hold a line of each
-- instruction that a sheet can have.
pub program-text : (s list : List ℕ) → length s ≤ 65536 → 36864 ≤ length list
    → printed s ≡ text_of (listing_of s list).answer (listing_of s list).list
program-text = text-is

-- For longer input it is a refusal, whatever the bytes.
pub program-limit : (s : List ℕ) → 65536 < length s → printed s ≡ codes "refused 1 at 65536\n"
program-limit = limit_is

-- For short inputs it is the text worked out by hand, the scope document's two lines first.
pub program-samples : All (λ (x : Sample). printed x.bytes ≡ codes x.text) samples
program-samples = as-sampled

-- For a block of an accepted sheet the answer is always (never) exactly where the block ends in a flag branch that what is known there forces to jump
-- (not to jump); its reason is 1.
pub forced-blocks : (s : List ℕ) (sheet : Sheet) → reading_of s ≡ Ok sheet → (number : ℕ) → number < sheet.blocks.count
    → (b : Bool) → (block_answer s number ≡ decision (cond b 1 0) 1) ↔ ForcedEnd s number b
forced-blocks = answers-forced

-- No equality is left undecided whose sides' low bits differ for every choice of their atoms' bits.
pub low_bits : (equal : Bool) (a b : Expr) → AlwaysDiffer a b → decide (binary (cond equal op_equal op_not_equal) a b) ≡ verdict.Undecided → ⊥
low_bits = decided

-- So a node whose condition, after substitution, is such an equality is not answered undecided.
pub low-bit-nodes : (s : List ℕ) (number : ℕ) (equal : Bool) (a b : Expr)
    → with_assignments (node_numbered s number).statements (node_numbered s number).condition ≡ into (binary (cond equal op_equal op_not_equal) a b)
    → AlwaysDiffer a b → node_answer s number ≡ undecided → ⊥
low-bit-nodes = node-decided

-- Where a node is not refused, its answer has a value and a reason exactly where the steps, said as a relation in numbers, give them for its
-- substituted condition.
pub node-reasons : (s : List ℕ) (number : ℕ) (e : Expr)
    → with_assignments (node_numbered s number).statements (node_numbered s number).condition ≡ into e
    → ((k at : ℕ) → node_answer s number ≡ refused-answer k at → ⊥)
    → (value reason : ℕ) → (node_answer s number ≡ decision value reason) ↔ Decided e value reason
node-reasons = node-decided-as

-- And it is undecided exactly where no step gives any.
pub node-undecided : (s : List ℕ) (number : ℕ) (e : Expr)
    → with_assignments (node_numbered s number).statements (node_numbered s number).condition ≡ into e
    → ((k at : ℕ) → node_answer s number ≡ refused-answer k at → ⊥)
    → (node_answer s number ≡ undecided) ↔ ((value reason : ℕ) → Decided e value reason → ⊥)
node-undecided = node-undecided-where

-- Conditions worked out by hand have their verdicts: every reason of a node, and the order of the steps.
pub worked-conditions : YieldsEach conditions
worked-conditions = worked

-- No answer for a node is 'no branch': a node that is not refused is undecided, or decided.
pub node-has-branch : (s : List ℕ) (number : ℕ) → node_answer s number ≡ no_branch → ⊥
node-has-branch = always-judged

-- A node verdict is refused with a number from 1 to 11 or with 13, so never with 0.
pub node-refusals : (s : List ℕ) (number : ℕ) {k at : ℕ} → node_answer s number ≡ refused-answer k at → ((1 ≤ k) × (k ≤ 11)) ⊎ (k ≡ 13)
node-refusals = node-number

-- In every evaluation the low bit of a part that has a value is its low bit at the bits that its atoms' values have.
pub low-bit-values : (types : List ℕ) (ρ σ : Values) (m : Contents) (f : Effects) (e : Expr) → Has (ev types ρ σ (shared m) f e)
    → low (ev types ρ σ (shared m) f e) ≡ low_bit (shared_bits types ρ σ m) (own_bits types ρ σ m f e) e
low-bit-values = ev-low

-- Whatever the bytes, the number and the borrowed values: the evaluation's answer is what every run of that node does that starts from those values.
pub evaluations : (s : List ℕ) (number : ℕ) (values : List ℕ) (c : Choices) → StartsFrom (node_numbered s number).types values c
    → SaysOf (evaluation_answer s number values) (node_run s number c)
evaluations = answers-run

-- Where an answer comes from the run, it is refusal 14 exactly when no run from the borrowed values has an outcome.
pub no-outcome : (s : List ℕ) (number : ℕ) (values : List ℕ) → AnswerFromRun (evaluation_answer s number values)
    → (evaluation_answer s number values ≡ refused 14 (node_place s number))
    ↔ ((c : Choices) → StartsFrom (node_numbered s number).types values c → node_run s number c ≡ None)
no-outcome = fourteen

-- The evaluation refuses with reading's numbers or with 13 to 16; so 0, which a C host gets with an answer, is no refusal.
pub evaluation-refusals : (s : List ℕ) (number : ℕ) (values : List ℕ) {k at : ℕ} → evaluation_answer s number values ≡ refused k at
    → ((1 ≤ k) × (k ≤ 9)) ⊎ ((13 ≤ k) × (k ≤ 16))
evaluation-refusals = refusal-number

-- No evaluation of a node contradicts its verdict: where both answer, they give one number.
pub evaluations-agree : (s : List Byte) (number : ℕ) (values : List ℕ) (got value reason : ℕ)
    → evaluation_answer (numbers s) number values ≡ outcome got → node_answer (numbers s) number ≡ decision value reason → got ≡ value
evaluations-agree s = evaluation-agrees (numbers s) (all-bytes s)

-- The marked rows are as the scope document's table has them, of blocks and of nodes.
pub marked-rows : Yields rows
marked-rows = marked

-- The public answers for short sheets, given as bytes, are as worked out by hand: each mnemonic, each jump for six settings of the flags, each declared
-- flag, what is known where a register is not; the refusals 10 to 16 with their offsets; a listing's lines with their bytes.
pub worked-sheets : Worked
worked-sheets = as-worked

-- The probe table's node is undecided (a marked row), and must be: there is a run in which its two sides agree.
pub probe-table : (c : Choices) × (run probe.types probe.statements probe.condition c ≡ Some true)
probe-table = probe-run
