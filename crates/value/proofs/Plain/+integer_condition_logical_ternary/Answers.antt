-- The proof of the cycle of calls {integer, condition, logical, ternary}: by the root, what each says is the definition's case. Assumes nothing.
use mathlib.Core.Logic.{⊎_elim}
use mathlib.Core.Path.{sym, ap, ◌∙◌}
use native.Mathlib.Omega.{arith}
use Rattle.expr.specs.Tree.{tree_of}
use Rattle.expr.proofs.Laws.{wf-two}
use Rattle.expr.proofs.Views.{by-root}
use Rattle.expr.specs.declared.Root.TheVariants as root
use Rattle.value.specs.Operators.{is_logic}
use Rattle.value.proofs.Laws.{plain-root, at-variable, at-constant, at-true, at-false, at-cast, at-logic, at-binary, at-then, at-otherwise, at-neither, type-variable, type-constant, type-true, type-false, type-cast, type-binary, type-ternary, type-logic}
use Rattle.value.proofs.Plain.+integer_condition_logical_ternary.Goals as goal

pub integer-unreachable-requires : goal.integer-unreachable-requires
integer-unreachable-requires t c =
    let p = plain-root (tree_of c.args.self.tree.words.now) c.args.self.plain in
    ⊎_elim (λ h. p.0 (sym c.root.ensures ∙ h)) (λ h. p.1 (sym c.root.ensures ∙ h)) c.in-Effect.is

pub integer-returns-in-Variable : goal.integer-returns-in-Variable
integer-returns-in-Variable t c =
    let k = by-root (tree_of c.args.self.tree.words.now) root.Variable (sym c.root.ensures ∙ c.in-Variable.is) in
    record {
      value = c.chosen.ensures.value ∙ rw (c.variable_type.ensures, c.lent.ensures, c.argument-n.ensures) (at-variable c.args.types.now c.args.values.now k);
      typing = c.chosen.ensures.typing ∙ rw (c.variable_type.ensures, c.argument-n.ensures) (type-variable c.args.types.now k);
    }

pub integer-returns-in-Constant : goal.integer-returns-in-Constant
integer-returns-in-Constant t c =
    let k = by-root (tree_of c.args.self.tree.words.now) root.Constant (sym c.root.ensures ∙ c.in-Constant.is) in
    record {
      value = c.chosen-in-Constant.ensures.value ∙ rw (c.constant_type.ensures, c.value.ensures, c.argument-n.ensures) (at-constant c.args.types.now c.args.values.now k);
      typing = c.chosen-in-Constant.ensures.typing ∙ rw (c.constant_type.ensures, c.argument-n.ensures) (type-constant c.args.types.now k);
    }

pub integer-returns-in-True : goal.integer-returns-in-True
integer-returns-in-True t c =
    let k = by-root (tree_of c.args.self.tree.words.now) root.True (sym c.root.ensures ∙ c.in-True.is) in
    record {
      value = c.logic.ensures.value ∙ at-true c.args.types.now c.args.values.now k;
      typing = c.logic.ensures.typing ∙ type-true c.args.types.now k;
    }

pub integer-returns-in-False : goal.integer-returns-in-False
integer-returns-in-False t c =
    let k = by-root (tree_of c.args.self.tree.words.now) root.False (sym c.root.ensures ∙ c.in-False.is) in
    record {
      value = c.logic-in-False.ensures.value ∙ at-false c.args.types.now c.args.values.now k;
      typing = c.logic-in-False.ensures.typing ∙ type-false c.args.types.now k;
    }

pub integer-returns-in-Cast : goal.integer-returns-in-Cast
integer-returns-in-Cast t c =
    record {
      value = at-cast c.args.types.now c.args.values.now c.child.ensures.tree c.integer.ensures.typing c.integer.ensures.value (rw (← c.argument-n.ensures) c.taken.ensures.value);
      typing = c.taken.ensures.typing ∙ c.argument-n.ensures ∙ type-cast c.args.types.now c.child.ensures.tree;
    }

pub integer-returns-then-is_logic : goal.integer-returns-then-is_logic
integer-returns-then-is_logic t c =
    let l = ap is_logic (sym c.argument-n.ensures) ∙ sym c.is_logic.ensures ∙ c.if-is_logic.true in
    record {
      value = c.logic-then-is_logic.ensures.value ∙ rw (c.logical.ensures, c.argument-n.ensures) (at-logic c.args.types.now c.args.values.now c.sides.ensures.tree l);
      typing = c.logic-then-is_logic.ensures.typing ∙ type-logic c.args.types.now c.sides.ensures.tree l;
    }

pub integer-returns-else-is_logic : goal.integer-returns-else-is_logic
integer-returns-else-is_logic t c =
    let a = c.integer-in-Binary.ensures in
    let b = c.integer-in-Binary-2.ensures in
    record {
      value =
          at-binary c.args.types.now c.args.values.now c.sides.ensures.tree (ap is_logic (sym c.argument-n.ensures) ∙ sym c.is_logic.ensures ∙ c.if-is_logic.false) a.typing b.typing a.value b.value
          (rw (← c.argument-n.ensures) c.operated.ensures.value);
      typing = type-binary c.args.types.now c.sides.ensures.tree a.typing b.typing (rw (← c.argument-n.ensures) c.operated.ensures.typing);
    }

pub integer-ternary-requires : goal.integer-ternary-requires
integer-ternary-requires t c =
    (omega (arith, c.decreases, wf-two c.args.self.tree.words.now c.args.self.tree.wf), sym c.root.ensures ∙ c.in-Ternary.is)

pub ternary-condition-requires : goal.ternary-condition-requires
ternary-condition-requires t c = (omega (arith, c.decreases, c.arms.ensures.size), tt)

pub ternary-integer-a-requires : goal.ternary-integer-a-requires
ternary-integer-a-requires t c = (omega (arith, c.decreases, c.arms.ensures.size), tt)

pub ternary-integer-b-requires : goal.ternary-integer-b-requires
ternary-integer-b-requires t c = (omega (arith, c.decreases, c.arms.ensures.size), tt)

pub ternary-returns-in-Some-true : goal.ternary-returns-in-Some-true
ternary-returns-in-Some-true t c =
    let k = c.arms.ensures.tree in
    let a = c.integer-a.ensures in
    let b = c.static_type.ensures in
    record {
      value = at-then c.args.types.now c.args.values.now k a.typing b c.joined.ensures c.condition.ensures (cc) a.value c.taken.ensures.value;
      typing = c.taken.ensures.typing ∙ type-ternary c.args.types.now k a.typing b c.joined.ensures;
    }

pub ternary-returns-in-Some-false : goal.ternary-returns-in-Some-false
ternary-returns-in-Some-false t c =
    let k = c.arms.ensures.tree in
    let a = c.static_type-in-Some-false.ensures in
    let b = c.integer-b.ensures in
    let j = c.joined-in-Some-false.ensures in
    record {
      value = at-otherwise c.args.types.now c.args.values.now k a b.typing j c.condition.ensures (cc) b.value c.taken-in-Some-false.ensures.value;
      typing = c.taken-in-Some-false.ensures.typing ∙ type-ternary c.args.types.now k a b.typing j;
    }

pub ternary-returns-in-None : goal.ternary-returns-in-None
ternary-returns-in-None t c =
    let k = c.arms.ensures.tree in
    let a = c.static_type-in-None.ensures in
    let b = c.static_type-in-None-2.ensures in
    let j = c.joined-in-None.ensures in
    record {
      value = c.no_value.ensures.value ∙ at-neither c.args.types.now c.args.values.now k a b j c.condition.ensures c.in-None.is;
      typing = c.no_value.ensures.typing ∙ type-ternary c.args.types.now k a b j;
    }
