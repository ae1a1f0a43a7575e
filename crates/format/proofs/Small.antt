-- What is written are bytes: every number is, and everything else is put together from those.
use Prim.Native.Nat.{ℕ, zero, suc, ◌/◌, ◌<◌}
use mathlib.Core.List.{List, [], ◌∷◌, ◌++◌}
use mathlib.Core.Option.{Option, none, some}
use native.Mathlib.Omega.{arith}
use Rattle.isa.specs.declared.Register.{Register}
use Rattle.expr.specs.Tree.{Expr}
use Rattle.expr.specs.Tree.Expr.{variable, constant, condition_true, condition_false, effect, load, cast, binary, ternary}
use Rattle.expr.specs.Statement.{Statement}
use Rattle.expr.specs.Statement.Statement.{assignment, other}
use Rattle.sheet_node.specs.Node.{Node}
use Rattle.sheet.specs.declared.Block.{Block}
use Rattle.sheet_bytes.specs.Write.{bytes, if_there, records, counted, All}
use Rattle.format.specs.Syntax.{register, Operand, operand, Instruction, head, tail, instruction, block}
use Rattle.format.specs.Syntax.Operand.{reg, imm, mem}
use Rattle.format.specs.Expression.{postfix, expression}
use Rattle.format.specs.Sheet.{statement, node, Sheet, encode}

record Small (s : List ℕ) : Type 0 where
  all : All (λ n. n < 256) s

number : (n v : ℕ) → Small (bytes n v)
unfolding bytes All
number zero v = record { all = tt }
number (suc n) v = record { all = (omega arith, (number n (v / 256)).all) }

both : (x y : List ℕ) → Small x → Small y → Small (x ++ y)
unfolding All
both [] y h k = k
both (a ∷ x) y h k = record { all = (h.all.0, (both x y (record { all = h.all.1 }) k).all) }

optional : {A : Type 0} (write : A → List ℕ) → ((v : A) → Small (write v)) → (o : Option A) → Small (if_there write o)
unfolding if_there All
optional write each none = record { all = tt }
optional write each (some v) = each v

several : {A : Type 0} (write : A → List ℕ) → ((v : A) → Small (write v)) → (l : List A) → Small (records write l)
unfolding records All
several write each [] = record { all = tt }
several write each (v ∷ l) = both _ _ (each v) (several write each l)

section : {A : Type 0} (write : A → List ℕ) → ((v : A) → Small (write v)) → (l : List A) → Small (counted write l)
unfolding counted
section write each l = both _ _ (number 2 _) (several write each l)

a-register : (r : Register) → Small (register r)
unfolding register
a-register r = both _ _ (both _ _ (both _ _ (number 1 _) (number 1 _)) (number 1 _)) (number 1 _)

an-operand : (o : Operand) → Small (operand o)
unfolding operand
an-operand (reg r) = both _ _ (number 1 0) (a-register r)
an-operand (imm v) = both _ _ (number 1 1) (number 8 v)
an-operand mem = number 1 2

an-instruction : (i : Instruction) → Small (instruction i)
unfolding instruction head tail
an-instruction i =
    both _ _
    (both _ _ (both _ _ (both _ _ (number 1 _) (number 8 _)) (number 1 _)) (optional _ (number 8) i.target))
    (both _ _ (both _ _ (both _ _ (optional _ an-operand i.first) (optional _ an-operand i.second)) (optional _ (section register a-register) i.written)) (optional _ (number 1) i.flags))

a_block : (b : Block) → Small (block b)
unfolding block
a_block b = both _ _ (number 8 _) (number 8 _)

a-tree : (e : Expr) → Small (postfix e)
unfolding postfix
a-tree (variable n) = both _ _ (number 1 0) (number 1 n)
a-tree (constant w x) = both _ _ (both _ _ (number 1 1) (number 1 w)) (number 8 x)
a-tree condition_true = number 1 2
a-tree condition_false = number 1 3
a-tree (effect t) = both _ _ (number 1 4) (number 1 t)
a-tree (load t a) = both _ _ (a-tree a) (both _ _ (number 1 5) (number 1 t))
a-tree (cast t a) = both _ _ (a-tree a) (both _ _ (number 1 6) (number 1 t))
a-tree (binary o a b) = both _ _ (both _ _ (a-tree a) (a-tree b)) (both _ _ (number 1 7) (number 1 o))
a-tree (ternary c a b) = both _ _ (both _ _ (both _ _ (a-tree c) (a-tree a)) (a-tree b)) (number 1 8)

an-expression : (e : Expr) → Small (expression e)
unfolding expression
an-expression e = both _ _ (number 2 _) (a-tree e)

a-statement : (x : Statement) → Small (statement x)
unfolding statement
a-statement (assignment v e) = both _ _ (both _ _ (number 1 3) (number 1 v)) (an-expression e)
a-statement other = number 1 0

a-node : (n : Node) → Small (node n)
unfolding node
a-node n = both _ _ (both _ _ (both _ _ (section _ (number 1) n.types) (section _ a-statement n.statements)) (an-expression n.condition)) (section _ (number 8) n.addresses)

pub encode-bytes : (v : Sheet) → All (λ n. n < 256) (encode v)
unfolding encode
encode-bytes v = (both _ _ (both _ _ (section _ an-instruction v.instructions) (section _ a_block v.blocks)) (section _ a-node v.nodes)).all
