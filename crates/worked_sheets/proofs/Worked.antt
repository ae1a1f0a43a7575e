-- The worked sheets: each answer is as it stands in its table.
use mathlib.Core.Path.{◌≡◌, refl}
use mathlib.Core.List.{List, [], ◌∷◌, map}
use Rattle.sheet_bytes.specs.Write.{All}
use Rattle.verdict.specs.Numbers.{Numbers}
use Rattle.answer_block.specs.Block.{block_answer}
use Rattle.answer_node.specs.Node.{node_answer}
use Rattle.answer_listing.specs.Listing.{Listing, listing_of}
use Rattle.answer_evaluation.specs.Evaluation.{Evaluated, evaluation_answer}
use Rattle.worked_sheets.specs.Sheets as worked
use Rattle.worked_sheets.specs.Sheets.{BlockRow, NodeRow, EvaluationRow, ListingRow, sheet, with_node, Worked}

-- two functions that are the same on a list are so on each of its entries
pub each : {A B : Type 0} (f g : A → B) (l : List A) → map f l ≡ map g l → All (λ (x : A). f x ≡ g x) l
unfolding All
each f g [] e = tt
each f g (x ∷ l) e = (cc, each f g l cc)

blocks-same : ◌≡◌ {A = List Numbers}
    (map (λ (r : BlockRow). block_answer (sheet r.code) r.number) worked.block_rows)
    (map (λ (r : BlockRow). r.answer) worked.block_rows)
unfolding worked.block_rows worked.instructions worked.conditions worked.compared worked.counters worked.flags worked.unknowns worked.placed Rattle.sheet_field.specs.Field.little Rattle.sheet_field.specs.Field.field_at Rattle.sheet_field.specs.Field.check_field Rattle.sheet_field.specs.Field.code_at Rattle.sheet_field.specs.Field.count_at Rattle.sheet_instruction.specs.Instruction.register_at Rattle.sheet_instruction.specs.Instruction.operand_at Rattle.sheet_instruction.specs.Instruction.with_register Rattle.sheet_instruction.specs.Instruction.registers_from Rattle.sheet_instruction.specs.Instruction.registers_at Rattle.sheet_instruction.specs.Instruction.map_at Rattle.sheet_instruction.specs.Instruction.address_at Rattle.sheet_instruction.specs.Instruction.head_at Rattle.sheet_instruction.specs.Instruction.tail_at Rattle.sheet_instruction.specs.Instruction.instruction_at Rattle.sheet.specs.Sheet.instructions_from Rattle.sheet.specs.Sheet.block_at Rattle.sheet.specs.Sheet.blocks_from Rattle.sheet.specs.Sheet.nodes_from Rattle.sheet.specs.Sheet.sheet_at Rattle.sheet.specs.Sheet.reading_of Rattle.isa.specs.Mnemonics.named Rattle.isa.specs.Mnemonics.table Rattle.verdict_block.specs.Verdict.within Rattle.verdict_block.specs.Verdict.code_of Rattle.verdict_block.specs.Verdict.apart Rattle.verdict_block.specs.Verdict.end_from Rattle.verdict_block.specs.Verdict.end_on Rattle.verdict_block.specs.Verdict.verdict_on Rattle.answer_block.specs.Block.block_answer Rattle.machine.specs.Rules.stepped_all Rattle.machine.specs.Conditions.condition_of Rattle.machine.specs.Finish.finished Rattle.machine.specs.Rules.arith_step Rattle.machine.specs.Rules.unary_unknown Rattle.machine.specs.Rules.unary_step Rattle.machine.specs.Rules.register_step Rattle.machine.specs.Rules.modelled_step Rattle.machine.specs.Rules.stepped Rattle.machine.specs.Registers.nothing_known Rattle.machine.specs.Registers.slot_at Rattle.machine.specs.Registers.forget_register Rattle.machine.specs.Rules.carry_step Rattle.known.specs.Registers.part_of Rattle.known.specs.Registers.with_part Rattle.machine.specs.States.replaced Rattle.machine.specs.Registers.read_of Rattle.machine.specs.Registers.written Rattle.machine.specs.Registers.operand_of Rattle.machine.specs.Registers.forget_registers Rattle.machine.specs.Registers.forgotten Rattle.known.specs.Operations.of_itself Rattle.known.specs.Operations.of_known Rattle.known.specs.Operations.arith_effect Rattle.known.specs.Operations.unary_effect Rattle.known.specs.Operations.forget_flags Rattle.known.specs.Conditions.flag_condition Rattle.known.specs.Values.extracted Rattle.known.specs.Values.inserted Rattle.known.specs.Values.merged Rattle.alu.specs.Arithmetic.result_of Rattle.alu.specs.Arithmetic.carry Rattle.alu.specs.Arithmetic.overflow Rattle.alu.specs.Arithmetic.result_flags Rattle.alu.specs.Arithmetic.performed lib.Count.ones
blocks-same = refl

nodes-same : ◌≡◌ {A = List Numbers}
    (map (λ (r : NodeRow). node_answer (with_node r.node) r.number) worked.node_rows)
    (map (λ (r : NodeRow). r.answer) worked.node_rows)
unfolding worked.node_rows worked.joined worked.odds Rattle.sheet_field.specs.Field.little Rattle.sheet_field.specs.Field.field_at Rattle.sheet_field.specs.Field.check_field Rattle.sheet_field.specs.Field.code_at Rattle.sheet_field.specs.Field.count_at Rattle.sheet_expression.specs.Expression.argument_at Rattle.sheet_expression.specs.Expression.constant_at Rattle.sheet_expression.specs.Expression.record_at Rattle.sheet_expression.specs.Expression.taken_more Rattle.sheet_expression.specs.Expression.taken_from Rattle.sheet_expression.specs.Expression.expression_at Rattle.sheet_node.specs.Node.map_at Rattle.sheet_node.specs.Node.assignment_at Rattle.sheet_node.specs.Node.statement_at Rattle.sheet_node.specs.Node.types_from Rattle.sheet_node.specs.Node.statements_from Rattle.sheet_node.specs.Node.addresses_from Rattle.sheet_node.specs.Node.node_at Rattle.sheet_node.specs.Node.node_of Rattle.sheet.specs.Sheet.instructions_from Rattle.sheet.specs.Sheet.block_at Rattle.sheet.specs.Sheet.blocks_from Rattle.sheet.specs.Sheet.nodes_from Rattle.sheet.specs.Sheet.sheet_at Rattle.sheet.specs.Sheet.reading_of Rattle.expr.specs.Tree.arity_of Rattle.expr.specs.Tree.node Rattle.expr.specs.Tree.push Rattle.expr.specs.Tree.parse Rattle.expr.specs.Tree.tree_of Rattle.expr.specs.Types.promoted Rattle.expr.specs.Types.common Rattle.expr.specs.Types.constant_type Rattle.expr.specs.Types.binary_type Rattle.expr.specs.Types.type_of Rattle.expr.specs.Types.plain_type Rattle.expr.specs.Types.same_type Rattle.expr.specs.Types.bits Rattle.verdict_node.specs.NodeVerdict.node_verdict Rattle.substitution.specs.Substitution.substituted Rattle.substitution.specs.Substitution.substitute Rattle.expr.specs.Tree.size Rattle.substitution.specs.Substitution.assigned Rattle.substitution.specs.Substitution.kept Rattle.substitution.specs.Substitution.holdable Rattle.substitution.specs.Substitution.ended Rattle.decide.specs.Decide.decide Rattle.decide.specs.Decide.fits Rattle.exact.specs.Exact.exact Rattle.exact.specs.Exact.written Rattle.exact.specs.Exact.exact_fits Rattle.exact.specs.Exact.shape Rattle.parity.specs.Parity.parity Rattle.parity.specs.Parity.atom_low Rattle.parity.specs.Parity.entered Rattle.parity.specs.Parity.place Rattle.poly.specs.Terms.toggle Rattle.poly.specs.Terms.sum Rattle.poly.specs.Terms.sum_times Rattle.poly.specs.Terms.sum_product Rattle.expr.specs.Scan.same_tree Rattle.laws.specs.Words.same_words Rattle.expr.specs.Scan.any_node Rattle.expr.specs.Scan.is_effect Rattle.expr.specs.Scan.is_load Rattle.expr.specs.Scan.is_variable Rattle.expr.specs.Tree.flat Rattle.expr.specs.Tree.tag_of Rattle.expr.specs.Tree.value_of Rattle.answer_node.specs.Node.node_answer
nodes-same = refl

evaluations-same : ◌≡◌ {A = List Evaluated}
    (map (λ (r : EvaluationRow). evaluation_answer (with_node r.node) r.number r.values) worked.evaluation_rows)
    (map (λ (r : EvaluationRow). r.answer) worked.evaluation_rows)
unfolding worked.evaluation_rows worked.joined Rattle.sheet_field.specs.Field.little Rattle.sheet_field.specs.Field.field_at Rattle.sheet_field.specs.Field.check_field Rattle.sheet_field.specs.Field.code_at Rattle.sheet_field.specs.Field.count_at Rattle.sheet_expression.specs.Expression.argument_at Rattle.sheet_expression.specs.Expression.constant_at Rattle.sheet_expression.specs.Expression.record_at Rattle.sheet_expression.specs.Expression.taken_more Rattle.sheet_expression.specs.Expression.taken_from Rattle.sheet_expression.specs.Expression.expression_at Rattle.sheet_node.specs.Node.map_at Rattle.sheet_node.specs.Node.assignment_at Rattle.sheet_node.specs.Node.statement_at Rattle.sheet_node.specs.Node.types_from Rattle.sheet_node.specs.Node.statements_from Rattle.sheet_node.specs.Node.addresses_from Rattle.sheet_node.specs.Node.node_at Rattle.sheet_node.specs.Node.node_of Rattle.sheet.specs.Sheet.instructions_from Rattle.sheet.specs.Sheet.block_at Rattle.sheet.specs.Sheet.blocks_from Rattle.sheet.specs.Sheet.nodes_from Rattle.sheet.specs.Sheet.sheet_at Rattle.sheet.specs.Sheet.reading_of Rattle.expr.specs.Tree.arity_of Rattle.expr.specs.Tree.node Rattle.expr.specs.Tree.push Rattle.expr.specs.Tree.parse Rattle.expr.specs.Tree.tree_of Rattle.expr.specs.Types.promoted Rattle.expr.specs.Types.common Rattle.expr.specs.Types.constant_type Rattle.expr.specs.Types.binary_type Rattle.expr.specs.Types.type_of Rattle.expr.specs.Types.plain_type Rattle.expr.specs.Types.same_type Rattle.expr.specs.Types.bits Rattle.answer_evaluation.specs.Evaluation.evaluation_answer Rattle.answer_evaluation.specs.Evaluation.evaluated_node Rattle.evaluate_node.specs.Evaluate.plain_all Rattle.evaluate_node.specs.Evaluate.unfit_from Rattle.evaluate_node.specs.Evaluate.evaluation_of Rattle.expr.specs.Scan.any_node Rattle.expr.specs.Scan.is_effect Rattle.expr.specs.Scan.is_load Rattle.value.specs.Run.run_from Rattle.value.specs.Evaluation.ev Rattle.value.specs.Operators.operate Rattle.value.specs.Operators.operators Rattle.value.specs.Operators.arithmetics Rattle.arith.specs.Numbers.convert Rattle.arith.specs.Numbers.residue Rattle.arith.specs.Numbers.number Rattle.arith.specs.Numbers.negative Rattle.arith.specs.Numbers.quotient
evaluations-same = refl

listings-same : ◌≡◌ {A = List Listing}
    (map (λ (r : ListingRow). listing_of r.bytes r.list) worked.listing_rows)
    (map (λ (r : ListingRow). r.gives) worked.listing_rows)
unfolding worked.listing_rows worked.joined Rattle.sheet_field.specs.Field.little Rattle.sheet_field.specs.Field.field_at Rattle.sheet_field.specs.Field.check_field Rattle.sheet_field.specs.Field.code_at Rattle.sheet_field.specs.Field.count_at Rattle.sheet_instruction.specs.Instruction.register_at Rattle.sheet_instruction.specs.Instruction.operand_at Rattle.sheet_instruction.specs.Instruction.with_register Rattle.sheet_instruction.specs.Instruction.registers_from Rattle.sheet_instruction.specs.Instruction.registers_at Rattle.sheet_instruction.specs.Instruction.map_at Rattle.sheet_instruction.specs.Instruction.address_at Rattle.sheet_instruction.specs.Instruction.head_at Rattle.sheet_instruction.specs.Instruction.tail_at Rattle.sheet_instruction.specs.Instruction.instruction_at Rattle.sheet.specs.Sheet.instructions_from Rattle.sheet.specs.Sheet.block_at Rattle.sheet.specs.Sheet.blocks_from Rattle.sheet.specs.Sheet.nodes_from Rattle.sheet.specs.Sheet.sheet_at Rattle.sheet.specs.Sheet.reading_of Rattle.isa.specs.Mnemonics.named Rattle.isa.specs.Mnemonics.table Rattle.verdict_block.specs.Verdict.within Rattle.verdict_block.specs.Verdict.code_of Rattle.verdict_block.specs.Verdict.apart Rattle.verdict_block.specs.Verdict.end_from Rattle.verdict_block.specs.Verdict.end_on Rattle.verdict_block.specs.Verdict.verdict_on Rattle.answer_block.specs.Block.block_answer Rattle.machine.specs.Rules.stepped_all Rattle.machine.specs.Conditions.condition_of Rattle.machine.specs.Finish.finished Rattle.machine.specs.Rules.arith_step Rattle.machine.specs.Rules.unary_unknown Rattle.machine.specs.Rules.unary_step Rattle.machine.specs.Rules.register_step Rattle.machine.specs.Rules.modelled_step Rattle.machine.specs.Rules.stepped Rattle.machine.specs.Registers.nothing_known Rattle.machine.specs.Registers.slot_at Rattle.machine.specs.Registers.forget_register Rattle.machine.specs.Rules.carry_step Rattle.known.specs.Registers.part_of Rattle.known.specs.Registers.with_part Rattle.machine.specs.States.replaced Rattle.machine.specs.Registers.read_of Rattle.machine.specs.Registers.written Rattle.machine.specs.Registers.operand_of Rattle.machine.specs.Registers.forget_registers Rattle.machine.specs.Registers.forgotten Rattle.known.specs.Operations.of_itself Rattle.known.specs.Operations.of_known Rattle.known.specs.Operations.arith_effect Rattle.known.specs.Operations.unary_effect Rattle.known.specs.Operations.forget_flags Rattle.known.specs.Conditions.flag_condition Rattle.known.specs.Values.extracted Rattle.known.specs.Values.inserted Rattle.known.specs.Values.merged Rattle.alu.specs.Arithmetic.result_of Rattle.alu.specs.Arithmetic.carry Rattle.alu.specs.Arithmetic.overflow Rattle.alu.specs.Arithmetic.result_flags Rattle.alu.specs.Arithmetic.performed lib.Count.ones Rattle.sheet_expression.specs.Expression.argument_at Rattle.sheet_expression.specs.Expression.constant_at Rattle.sheet_expression.specs.Expression.record_at Rattle.sheet_expression.specs.Expression.taken_more Rattle.sheet_expression.specs.Expression.taken_from Rattle.sheet_expression.specs.Expression.expression_at Rattle.sheet_node.specs.Node.map_at Rattle.sheet_node.specs.Node.assignment_at Rattle.sheet_node.specs.Node.statement_at Rattle.sheet_node.specs.Node.types_from Rattle.sheet_node.specs.Node.statements_from Rattle.sheet_node.specs.Node.addresses_from Rattle.sheet_node.specs.Node.node_at Rattle.sheet_node.specs.Node.node_of Rattle.expr.specs.Tree.arity_of Rattle.expr.specs.Tree.node Rattle.expr.specs.Tree.push Rattle.expr.specs.Tree.parse Rattle.expr.specs.Tree.tree_of Rattle.expr.specs.Types.promoted Rattle.expr.specs.Types.common Rattle.expr.specs.Types.constant_type Rattle.expr.specs.Types.binary_type Rattle.expr.specs.Types.type_of Rattle.expr.specs.Types.plain_type Rattle.expr.specs.Types.same_type Rattle.expr.specs.Types.bits Rattle.verdict_node.specs.NodeVerdict.node_verdict Rattle.substitution.specs.Substitution.substituted Rattle.substitution.specs.Substitution.substitute Rattle.expr.specs.Tree.size Rattle.substitution.specs.Substitution.assigned Rattle.substitution.specs.Substitution.kept Rattle.substitution.specs.Substitution.holdable Rattle.substitution.specs.Substitution.ended Rattle.decide.specs.Decide.decide Rattle.decide.specs.Decide.fits Rattle.exact.specs.Exact.exact Rattle.exact.specs.Exact.written Rattle.exact.specs.Exact.exact_fits Rattle.exact.specs.Exact.shape Rattle.parity.specs.Parity.parity Rattle.parity.specs.Parity.atom_low Rattle.parity.specs.Parity.entered Rattle.parity.specs.Parity.place Rattle.poly.specs.Terms.toggle Rattle.poly.specs.Terms.sum Rattle.poly.specs.Terms.sum_times Rattle.poly.specs.Terms.sum_product Rattle.expr.specs.Scan.same_tree Rattle.laws.specs.Words.same_words Rattle.expr.specs.Scan.any_node Rattle.expr.specs.Scan.is_effect Rattle.expr.specs.Scan.is_load Rattle.expr.specs.Scan.is_variable Rattle.expr.specs.Tree.flat Rattle.expr.specs.Tree.tag_of Rattle.expr.specs.Tree.value_of Rattle.answer_node.specs.Node.node_answer Rattle.answer_listing.specs.Listing.listing_of Rattle.verdict_sheet.specs.Sites.branch_at Rattle.verdict_sheet.specs.Sites.last_branch Rattle.verdict_sheet.specs.Said.blocks_say Rattle.verdict_sheet.specs.Said.judged_up_to Rattle.verdict_sheet.specs.Said.first_decided Rattle.verdict_sheet.specs.Said.lines_of Rattle.verdict_lines.specs.Lines.line_bytes Rattle.sheet.specs.Index.over Rattle.sheet_bytes.specs.Write.bytes Rattle.sheet_bytes.specs.Write.records
listings-same = refl

pub as-worked : Worked
as-worked = record {
  blocks = each (λ (r : BlockRow). block_answer (sheet r.code) r.number) (λ (r : BlockRow). r.answer) worked.block_rows blocks-same;
  nodes = each (λ (r : NodeRow). node_answer (with_node r.node) r.number) (λ (r : NodeRow). r.answer) worked.node_rows nodes-same;
  evaluations = each (λ (r : EvaluationRow). evaluation_answer (with_node r.node) r.number r.values) (λ (r : EvaluationRow). r.answer) worked.evaluation_rows evaluations-same;
  listings = each (λ (r : ListingRow). listing_of r.bytes r.list) (λ (r : ListingRow). r.gives) worked.listing_rows listings-same;
}
