-- The marked rows of the scope document's table: what the definitions answer, as one table.
use Rattle.std.specs.Prelude.{ℕ, ◌≡◌, refl, List, [], ◌∷◌, false, Some, None}
use Rattle.expr.specs.Codes.{unsigned32, op_add, op_mul, op_mod, op_and, op_shl, op_equal}
use Rattle.expr.specs.Tree.{Expr}
use Rattle.expr.specs.Tree.Expr.{variable, constant, effect, binary}
use Rattle.expr.specs.Statement.{Statement}
use Rattle.expr.specs.Statement.Statement.{assignment}
use Rattle.isa.specs.declared.Operand.{Operand}
use Rattle.isa.specs.declared.Operand.TheVariants.{Absent, Reg, Imm}
use Rattle.isa.specs.declared.CarryChange.TheVariants.{Stc}
use Rattle.isa.specs.declared.Binary.TheVariants.{Cmp, Xor, Test}
use Rattle.isa.specs.declared.Unary.TheVariants.{Inc, Neg}
use Rattle.isa.specs.declared.Condition.{Condition}
use Rattle.isa.specs.declared.Condition.TheVariants.{E, L, B, O}
use Rattle.isa.specs.declared.Mnemonic.{Mnemonic}
use Rattle.isa.specs.declared.Mnemonic.TheVariants.{Carry, Mov, TwoOperand, OneOperand, Jump}
use Rattle.isa.specs.declared.Instruction.{Instruction}
use Rattle.machine.specs.Registers.{nothing_known}
use Rattle.sheet_node.specs.Node.{Node}
use Rattle.verdict.specs.Numbers.{Numbers, verdict_numbers, answer_numbers}
use Rattle.verdict.specs.Numbers.Numbers.{undecided, decision}
use Rattle.verdict_block.specs.Verdict.{verdict_at, end_from}
use Rattle.verdict_node.specs.NodeVerdict.{node_verdict}

-- a register of class 1: its index and its size, at offset 0
abbrev part : ℕ → ℕ → Operand
part index size = Reg (record { class = 1; index = index; size = size; offset = 0 })

abbrev instruction : Mnemonic → Operand → Operand → ℕ → Instruction
instruction mnemonic first second flags = record {
  address = 0;
  mnemonic = mnemonic;
  target = None;
  call = false;
  first = first;
  second = second;
  written = [];
  count = 0;
  flags = flags;
}

abbrev jump : Condition → Instruction
jump condition = record {
  address = 0;
  mnemonic = Jump condition;
  target = Some 0;
  call = false;
  first = Absent;
  second = Absent;
  written = [];
  count = 0;
  flags = 0;
}

-- unsigned 32-bit variables x and y, and a constant of 4 bytes
abbrev x : Expr
x = variable 0

abbrev y : Expr
y = variable 1

abbrev number : ℕ → Expr
number n = constant 4 n

abbrev equal : Expr → Expr → Expr
equal a b = binary op_equal a b

-- a node over those variables
abbrev node : List Statement → Expr → Node
node statements condition = record { types = unsigned32 ∷ unsigned32 ∷ []; statements = statements; condition = condition; addresses = [] }

-- A row: a block's instructions, or a node, and the answer.
pub data Row : Type 0 where
  of_block : (code : List Instruction) (answer : Numbers) → Row
  of_node : (node : Node) (answer : Numbers) → Row

-- Each row of the table is what the definitions yield.
abbrev pub Yields : List Row → Type 0
Yields [] = Unit {0}
Yields (of_block code answer ∷ rows) = (verdict_numbers (verdict_at (end_from nothing_known code)) ≡ answer) × Yields rows
Yields (of_node n answer ∷ rows) = (answer_numbers (node_verdict n 0) ≡ answer) × Yields rows

-- The probe table: a slot (x) is moved by an odd amount that a step (y) gives, the step takes the new value, and the two are compared.
abbrev pub probe : Node
probe = node (assignment 0 (binary op_add (binary op_add x (number 1)) (binary op_mul (number 2) y)) ∷ assignment 1 x ∷ []) (equal x y)

pub rows : List Row
-- xor eax,eax; je
rows =
    of_block (instruction (TwoOperand Xor) (part 0 32) (part 0 32) 31 ∷ jump E ∷ []) (decision 1 1)
    -- cmp cx,cx; jl
    ∷ of_block (instruction (TwoOperand Cmp) (part 1 16) (part 1 16) 31 ∷ jump L ∷ []) (decision 0 1)
    -- mov al,0; test al,al; je
    ∷ of_block (instruction Mov (part 0 8) (Imm 0) 0 ∷ instruction (TwoOperand Test) (part 0 8) (part 0 8) 31 ∷ jump E ∷ []) undecided
    -- mov eax,0x7FFFFFFF; inc eax; jo
    ∷ of_block (instruction Mov (part 0 32) (Imm 0x7FFF_FFFF) 0 ∷ instruction (OneOperand Inc) (part 0 32) Absent 30 ∷ jump O ∷ []) (decision 1 1)
    -- stc; inc ebx; jb
    ∷ of_block (instruction (Carry Stc) Absent Absent 1 ∷ instruction (OneOperand Inc) (part 3 32) Absent 30 ∷ jump B ∷ []) (decision 1 1)
    -- stc; neg ebx; jb
    ∷ of_block (instruction (Carry Stc) Absent Absent 1 ∷ instruction (OneOperand Neg) (part 3 32) Absent 31 ∷ jump B ∷ []) undecided
    -- ((x × (x + 1)) & 1) == 0
    ∷ of_node (node [] (equal (binary op_and (binary op_mul x (binary op_add x (number 1))) (number 1)) (number 0))) (decision 1 5)
    -- x + x == 2 × y + 1
    ∷ of_node (node [] (equal (binary op_add x x) (binary op_add (binary op_mul (number 2) y) (number 1)))) (decision 0 6)
    -- (2 × x) % 2 == 0
    ∷ of_node (node [] (equal (binary op_mod (binary op_mul (number 2) x) (number 2)) (number 0))) (decision 1 5)
    -- x % 2 == 1
    ∷ of_node (node [] (equal (binary op_mod x (number 2)) (number 1))) undecided
    -- x << 31 == 1
    ∷ of_node (node [] (equal (binary op_shl x (number 31)) (number 1))) (decision 0 6)
    -- x << 32 == 1
    ∷ of_node (node [] (equal (binary op_shl x (number 32)) (number 1))) undecided
    -- effect == effect
    ∷ of_node (node [] (equal (effect unsigned32) (effect unsigned32))) undecided
    ∷ of_node probe undecided
    ∷ []

-- The marked rows hold (T1, T2, T3, T4, T5, T6, T7, T8, T9, T10, T11, T12, T13, T14).
pub marked : Yields rows
unfolding rows end_from Rattle.verdict_block.specs.Verdict.apart Rattle.machine.specs.Rules.stepped_all Rattle.machine.specs.Conditions.condition_of Rattle.machine.specs.Finish.finished Rattle.machine.specs.Rules.arith_step Rattle.machine.specs.Rules.unary_unknown Rattle.machine.specs.Rules.unary_step Rattle.machine.specs.Rules.register_step Rattle.machine.specs.Rules.modelled_step Rattle.machine.specs.Rules.stepped Rattle.machine.specs.Registers.nothing_known Rattle.machine.specs.Registers.slot_at Rattle.machine.specs.Registers.forget_register Rattle.machine.specs.Rules.carry_step Rattle.known.specs.Registers.part_of Rattle.known.specs.Registers.with_part Rattle.machine.specs.States.replaced Rattle.machine.specs.Registers.read_of Rattle.machine.specs.Registers.written Rattle.machine.specs.Registers.operand_of Rattle.machine.specs.Registers.forget_registers Rattle.machine.specs.Registers.forgotten Rattle.known.specs.Operations.of_itself Rattle.known.specs.Operations.of_known Rattle.known.specs.Operations.arith_effect Rattle.known.specs.Operations.unary_effect Rattle.known.specs.Operations.forget_flags Rattle.known.specs.Conditions.flag_condition Rattle.known.specs.Values.extracted Rattle.known.specs.Values.inserted Rattle.known.specs.Values.merged Rattle.alu.specs.Arithmetic.result_of Rattle.alu.specs.Arithmetic.carry Rattle.alu.specs.Arithmetic.overflow Rattle.alu.specs.Arithmetic.result_flags Rattle.alu.specs.Arithmetic.performed Rattle.verdict_node.specs.NodeVerdict.node_verdict Rattle.substitution.specs.Substitution.substituted Rattle.substitution.specs.Substitution.substitute Rattle.expr.specs.Tree.size Rattle.substitution.specs.Substitution.assigned Rattle.substitution.specs.Substitution.kept Rattle.substitution.specs.Substitution.holdable Rattle.substitution.specs.Substitution.ended Rattle.decide.specs.Decide.decide Rattle.decide.specs.Decide.fits Rattle.exact.specs.Exact.exact Rattle.exact.specs.Exact.written Rattle.exact.specs.Exact.exact_fits Rattle.exact.specs.Exact.shape Rattle.parity.specs.Parity.parity Rattle.parity.specs.Parity.atom_low Rattle.parity.specs.Parity.entered Rattle.parity.specs.Parity.place Rattle.poly.specs.Terms.toggle Rattle.poly.specs.Terms.sum Rattle.poly.specs.Terms.sum_times Rattle.poly.specs.Terms.sum_product Rattle.expr.specs.Scan.same_tree Rattle.laws.specs.Words.same_words Rattle.expr.specs.Scan.any_node Rattle.expr.specs.Scan.is_effect Rattle.expr.specs.Scan.is_load Rattle.expr.specs.Scan.is_variable Rattle.expr.specs.Tree.flat Rattle.expr.specs.Tree.tag_of Rattle.expr.specs.Tree.value_of
marked = (refl, (refl, (refl, (refl, (refl, (refl, (refl, (refl, (refl, (refl, (refl, (refl, (refl, (refl, tt))))))))))))))
