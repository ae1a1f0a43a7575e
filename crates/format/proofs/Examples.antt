-- Reading answers each of the examples as worked out by hand. Assumes nothing.
use mathlib.Core.Path.{◌≡◌, refl}
use Rattle.sheet_field.specs.Field.{little, field_at, check_field, code_at, count_at}
use Rattle.expr.specs.Tree as tree
use Rattle.expr.specs.Types.{promoted, common, constant_type, binary_type, type_of, plain_type, same_type}
use Rattle.sheet_instruction.specs.Instruction as code
use Rattle.sheet_expression.specs.Expression.{argument_at, constant_at, record_at, taken_more, taken_from, expression_at}
use Rattle.sheet_node.specs.Node as graph
use Rattle.sheet.specs.Sheet.{instructions_from, block_at, blocks_from, nodes_from, sheet_at, reading_of}
use Rattle.sheet_bytes.specs.Write.{All}
use Rattle.format.specs.Examples.{Example, examples}

pub examples-hold : All (λ (x : Example). reading_of x.bytes ≡ x.answer) examples
unfolding examples All reading_of sheet_at instructions_from blocks_from block_at nodes_from little field_at check_field code_at count_at code.register_at code.operand_at code.with_register code.registers_from code.registers_at code.map_at code.address_at code.head_at code.tail_at code.instruction_at argument_at constant_at record_at taken_more taken_from expression_at graph.map_at graph.assignment_at graph.statement_at graph.types_from graph.statements_from graph.addresses_from graph.node_at tree.arity_of tree.node tree.push tree.parse tree.tree_of promoted common constant_type binary_type type_of plain_type same_type Rattle.isa.specs.Mnemonics.named Rattle.isa.specs.Mnemonics.table
examples-hold = (refl, (refl, (refl, (refl, (refl, (refl, (refl, (refl, (refl, (refl, (refl, (refl, (refl, (refl, (refl, (refl, (refl, (refl, (refl, (refl, (refl, (refl, (refl, (refl, (refl, (refl, (refl, (refl, (refl, (refl, (refl, (refl, (refl, (refl, (refl, (refl, (refl, (refl, (refl, tt)))))))))))))))))))))))))))))))))))))))
