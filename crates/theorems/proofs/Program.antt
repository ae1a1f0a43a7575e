-- What the listing program writes: the text of the listing's answer, of at most 65,536 bytes; else a refusal. And its samples.
use Prim.Native.Nat.{ℕ, zero, suc, ◌+◌, ◌*◌, ◌/◌, ◌%◌, ◌≤◌, ◌<◌}
use mathlib.Core.Path.{◌≡◌, refl, ◌∙◌}
use mathlib.Core.List.{List, map}
use native.Mathlib.Nat.{mod-lt}
use native.Mathlib.Omega.{arith}
use lib.ListN.{length, get_or}
use borrow.Author.Tests.{ne_eqb, lt-ltb}
use Rattle.sheet_bytes.specs.Write.{All}
use Rattle.answer_listing.specs.Listing.{ListedNumbers, listing_of}
use Rattle.answer_listing.specs.Listing.ListedNumbers.{lines, refused}
use Rattle.text.specs.Digits.{digit, digits, places_within, places_of, decimal}
use Rattle.listing_text.specs.Text as text
use Rattle.sheet.specs.Sheet.{reading_of}
use Rattle.listing.specs.Program.{lines_text, read_text, printed}
use Rattle.listing.proofs.Printed.{within, listing-says}
use Rattle.std.specs.Prelude.{codes}
use Rattle.theorems.specs.Text.{numeral, in_ten, word, line_text, lines_from, text_of, Sample, samples}
use Rattle.worked_sheets.proofs.Worked.{each}

-- the digits below a base up to 16
digit-is : (d : ℕ) → d < 16 → get_or (codes "0123456789abcdef") d 0 ≡ digit d
digit-is zero h = refl
digit-is (suc zero) h = refl
digit-is (suc (suc zero)) h = refl
digit-is (suc (suc (suc zero))) h = refl
digit-is (suc (suc (suc (suc zero)))) h = refl
digit-is (suc (suc (suc (suc (suc zero))))) h = refl
digit-is (suc (suc (suc (suc (suc (suc zero)))))) h = refl
digit-is (suc (suc (suc (suc (suc (suc (suc zero))))))) h = refl
digit-is (suc (suc (suc (suc (suc (suc (suc (suc zero)))))))) h = refl
digit-is (suc (suc (suc (suc (suc (suc (suc (suc (suc zero))))))))) h = refl
digit-is (suc (suc (suc (suc (suc (suc (suc (suc (suc (suc zero)))))))))) h = refl
digit-is (suc (suc (suc (suc (suc (suc (suc (suc (suc (suc (suc zero))))))))))) h = refl
digit-is (suc (suc (suc (suc (suc (suc (suc (suc (suc (suc (suc (suc zero)))))))))))) h = refl
digit-is (suc (suc (suc (suc (suc (suc (suc (suc (suc (suc (suc (suc (suc zero))))))))))))) h = refl
digit-is (suc (suc (suc (suc (suc (suc (suc (suc (suc (suc (suc (suc (suc (suc zero)))))))))))))) h = refl
digit-is (suc (suc (suc (suc (suc (suc (suc (suc (suc (suc (suc (suc (suc (suc (suc zero))))))))))))))) h = refl
digit-is (suc (suc (suc (suc (suc (suc (suc (suc (suc (suc (suc (suc (suc (suc (suc (suc d)))))))))))))))) h = absurd (omega arith)

digits_are : (base k n : ℕ) → 0 < base → base ≤ 16 → digits base k n ≡ numeral base k n
unfolding digits numeral
digits_are base zero n some most = refl
digits_are base (suc k) n some most =
    rw (digits_are base k (n / base) some most, digit-is (n % base) (omega (arith, mod-lt n some)))

sixteen : (n : ℕ) → digits 16 16 n ≡ numeral 16 16 n
sixteen n = digits_are 16 16 n (omega arith) (omega arith)

ten : (n : ℕ) → decimal n ≡ in_ten n
ten n = digits_are 10 (places_of 10 n) n (omega arith) (omega arith)

word-is : (v : ℕ) → text.verdict_word v ≡ word v
word-is zero = refl
word-is (suc zero) = refl
word-is (suc (suc n)) = rw (ne_eqb (suc (suc n)) 1 (λ e. omega arith), ne_eqb (suc (suc n)) 0 (λ e. omega arith))

line-is : (site target value reason : ℕ)
    → text.line_text site target value reason ≡ line_text (record { site = site; target = target; value = value; reason = reason })
unfolding text.line_text
line-is site target value reason = rw (sixteen site, sixteen target, word-is value, ten reason)

lines_are : (list : List ℕ) (at k n : ℕ) → at ≡ 18 * k → text.entries_text list at n ≡ lines_from list k n
unfolding text.entries_text text.entry_text lines_from
lines_are list at k zero e = refl
lines_are list at k (suc n) e =
    rw (e, line-is, lines_are list (18 * k + 18) (suc k) n (omega arith))

branches-are : (list : List ℕ) (n : ℕ) → text.branches_text n (text.entries_text list 0 n) ≡ text_of (lines n) list
unfolding text.branches_text
branches-are list n = rw (ten n, lines_are list 0 0 n refl)

refusal_is : (number place : ℕ) (list : List ℕ) → text.refusal_text number place ≡ text_of (refused number place) list
unfolding text.refusal_text
refusal_is number place list = rw (ten number, ten place)

-- At most 65,536 bytes: the text of the listing's answer, on any list that can hold a line of each instruction.
pub text-is : (s list : List ℕ) → length s ≤ 65536 → 36864 ≤ length list
    → printed s ≡ text_of (listing_of s list).answer (listing_of s list).list
text-is s list short room = within s short ∙ go (listing_of s list).answer refl
  where
    go : (a : ListedNumbers) → (listing_of s list).answer ≡ a → read_text (reading_of s) s ≡ text_of a (listing_of s list).list
    go (lines n) e = ((listing-says s list room).of-lines n e).0 ∙ branches-are (listing_of s list).list n
    go (refused k p) e = (listing-says s list room).of-refusal k p e ∙ refusal_is k p (listing_of s list).list

-- Longer input is refused.
pub limit_is : (s : List ℕ) → 65536 < length s → printed s ≡ codes "refused 1 at 65536\n"
unfolding printed text.refusal_text digits places_within
limit_is s long = rw (lt-ltb 65536 (length s) long)

samples-same : ◌≡◌ {A = List (List ℕ)} (map (λ (x : Sample). printed x.bytes) samples) (map (λ (x : Sample). codes x.text) samples)
unfolding samples printed lines_text text.line_text text.branches_text text.refusal_text digits places_within Rattle.sheet_field.specs.Field.little Rattle.sheet_field.specs.Field.field_at Rattle.sheet_field.specs.Field.check_field Rattle.sheet_field.specs.Field.code_at Rattle.sheet_field.specs.Field.count_at Rattle.sheet_instruction.specs.Instruction.register_at Rattle.sheet_instruction.specs.Instruction.operand_at Rattle.sheet_instruction.specs.Instruction.with_register Rattle.sheet_instruction.specs.Instruction.registers_from Rattle.sheet_instruction.specs.Instruction.registers_at Rattle.sheet_instruction.specs.Instruction.map_at Rattle.sheet_instruction.specs.Instruction.address_at Rattle.sheet_instruction.specs.Instruction.head_at Rattle.sheet_instruction.specs.Instruction.tail_at Rattle.sheet_instruction.specs.Instruction.instruction_at Rattle.sheet.specs.Sheet.instructions_from Rattle.sheet.specs.Sheet.block_at Rattle.sheet.specs.Sheet.blocks_from Rattle.sheet.specs.Sheet.nodes_from Rattle.sheet.specs.Sheet.sheet_at Rattle.sheet.specs.Sheet.reading_of Rattle.isa.specs.Mnemonics.named Rattle.isa.specs.Mnemonics.table Rattle.verdict_block.specs.Verdict.within Rattle.verdict_block.specs.Verdict.code_of Rattle.verdict_block.specs.Verdict.apart Rattle.verdict_block.specs.Verdict.end_from Rattle.verdict_block.specs.Verdict.end_on Rattle.verdict_block.specs.Verdict.verdict_on Rattle.answer_block.specs.Block.block_answer Rattle.machine.specs.Rules.stepped_all Rattle.machine.specs.Conditions.condition_of Rattle.machine.specs.Finish.finished Rattle.machine.specs.Rules.arith_step Rattle.machine.specs.Rules.unary_unknown Rattle.machine.specs.Rules.unary_step Rattle.machine.specs.Rules.register_step Rattle.machine.specs.Rules.modelled_step Rattle.machine.specs.Rules.stepped Rattle.machine.specs.Registers.nothing_known Rattle.machine.specs.Registers.slot_at Rattle.machine.specs.Registers.forget_register Rattle.machine.specs.Rules.carry_step Rattle.known.specs.Registers.part_of Rattle.known.specs.Registers.with_part Rattle.machine.specs.States.replaced Rattle.machine.specs.Registers.read_of Rattle.machine.specs.Registers.written Rattle.machine.specs.Registers.operand_of Rattle.machine.specs.Registers.forget_registers Rattle.machine.specs.Registers.forgotten Rattle.known.specs.Operations.of_itself Rattle.known.specs.Operations.of_known Rattle.known.specs.Operations.arith_effect Rattle.known.specs.Operations.unary_effect Rattle.known.specs.Operations.forget_flags Rattle.known.specs.Conditions.flag_condition Rattle.known.specs.Values.extracted Rattle.known.specs.Values.inserted Rattle.known.specs.Values.merged Rattle.alu.specs.Arithmetic.result_of Rattle.alu.specs.Arithmetic.carry Rattle.alu.specs.Arithmetic.overflow Rattle.alu.specs.Arithmetic.result_flags Rattle.alu.specs.Arithmetic.performed lib.Count.ones Rattle.sheet_expression.specs.Expression.argument_at Rattle.sheet_expression.specs.Expression.constant_at Rattle.sheet_expression.specs.Expression.record_at Rattle.sheet_expression.specs.Expression.taken_more Rattle.sheet_expression.specs.Expression.taken_from Rattle.sheet_expression.specs.Expression.expression_at Rattle.sheet_node.specs.Node.map_at Rattle.sheet_node.specs.Node.assignment_at Rattle.sheet_node.specs.Node.statement_at Rattle.sheet_node.specs.Node.types_from Rattle.sheet_node.specs.Node.statements_from Rattle.sheet_node.specs.Node.addresses_from Rattle.sheet_node.specs.Node.node_at Rattle.sheet_node.specs.Node.node_of Rattle.expr.specs.Tree.arity_of Rattle.expr.specs.Tree.node Rattle.expr.specs.Tree.push Rattle.expr.specs.Tree.parse Rattle.expr.specs.Tree.tree_of Rattle.expr.specs.Types.promoted Rattle.expr.specs.Types.common Rattle.expr.specs.Types.constant_type Rattle.expr.specs.Types.binary_type Rattle.expr.specs.Types.type_of Rattle.expr.specs.Types.plain_type Rattle.expr.specs.Types.same_type Rattle.expr.specs.Types.bits Rattle.verdict_node.specs.NodeVerdict.node_verdict Rattle.substitution.specs.Substitution.substituted Rattle.substitution.specs.Substitution.substitute Rattle.expr.specs.Tree.size Rattle.substitution.specs.Substitution.assigned Rattle.substitution.specs.Substitution.kept Rattle.substitution.specs.Substitution.holdable Rattle.substitution.specs.Substitution.ended Rattle.decide.specs.Decide.decide Rattle.decide.specs.Decide.fits Rattle.exact.specs.Exact.exact Rattle.exact.specs.Exact.written Rattle.exact.specs.Exact.exact_fits Rattle.exact.specs.Exact.shape Rattle.parity.specs.Parity.parity Rattle.parity.specs.Parity.atom_low Rattle.parity.specs.Parity.entered Rattle.parity.specs.Parity.place Rattle.poly.specs.Terms.toggle Rattle.poly.specs.Terms.sum Rattle.poly.specs.Terms.sum_times Rattle.poly.specs.Terms.sum_product Rattle.expr.specs.Scan.same_tree Rattle.laws.specs.Words.same_words Rattle.expr.specs.Scan.any_node Rattle.expr.specs.Scan.is_effect Rattle.expr.specs.Scan.is_load Rattle.expr.specs.Scan.is_variable Rattle.expr.specs.Tree.flat Rattle.expr.specs.Tree.tag_of Rattle.expr.specs.Tree.value_of Rattle.answer_node.specs.Node.node_answer Rattle.verdict_sheet.specs.Sites.branch_at Rattle.verdict_sheet.specs.Sites.last_branch Rattle.verdict_sheet.specs.Said.blocks_say Rattle.verdict_sheet.specs.Said.judged_up_to Rattle.verdict_sheet.specs.Said.first_decided Rattle.verdict_sheet.specs.Said.lines_of Rattle.verdict_lines.specs.Lines.line_bytes Rattle.sheet.specs.Index.over Rattle.sheet_bytes.specs.Write.bytes Rattle.sheet_bytes.specs.Write.records
samples-same = refl

pub as-sampled : All (λ (x : Sample). printed x.bytes ≡ codes x.text) samples
as-sampled = each (λ (x : Sample). printed x.bytes) (λ (x : Sample). codes x.text) samples samples-same
