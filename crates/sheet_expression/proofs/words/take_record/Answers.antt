use Rattle.sheet_expression.proofs.Decoding.{kind-inside, argument-inside, argument-record, constant-inside, constant-record, bare-record}
use mathlib.Core.Path.{refl, sym, ◌∙◌}
use Rattle.sheet_expression.proofs.words.take_record.Goals as goal

pub take_number-kind-requires-clause-inside : goal.take_number-kind-requires-clause-inside
take_number-kind-requires-clause-inside c =
    let p = c.requires in kind-inside p.variables p.depth p.left c.args.r.now.bytes.now c.args.r.now.at p.on

pub returns-then-not-has_argument-clause-is : goal.returns-then-not-has_argument-clause-is
returns-then-not-has_argument-clause-is c variables depth left on =
    let k = c.take_number-kind.ensures in
    bare-record variables depth left _ _ on k.value (sym c.has_argument.ensures ∙ c.if-not-has_argument.true) refl k.at

pub take_number-requires-clause-inside : goal.take_number-requires-clause-inside
take_number-requires-clause-inside c =
    let p = c.requires in
    let k = c.take_number-kind.ensures in
    rw (k.same, k.at) (argument-inside p.variables p.depth p.left c.args.r.now.bytes.now c.args.r.now.at p.on k.value (sym c.has_argument.ensures ∙ c.if-not-has_argument.false))

pub take_number-requires-then-kind-eq-CONSTANT-clause-inside : goal.take_number-requires-then-kind-eq-CONSTANT-clause-inside
take_number-requires-then-kind-eq-CONSTANT-clause-inside c =
    let p = c.requires in
    let k = c.take_number-kind.ensures in
    let a = c.take_number.ensures in
    rw (a.same, k.same, a.at, k.at) (constant-inside p.variables p.depth p.left c.args.r.now.bytes.now c.args.r.now.at p.on k.value c.if-kind-eq-CONSTANT.true)

pub returns-then-kind-eq-CONSTANT-clause-is : goal.returns-then-kind-eq-CONSTANT-clause-is
returns-then-kind-eq-CONSTANT-clause-is c variables depth left on =
    let k = c.take_number-kind.ensures in
    let a = c.take_number.ensures in
    let v = c.take_number-then-kind-eq-CONSTANT.ensures in
    constant-record variables depth left _ _ on k.value c.if-kind-eq-CONSTANT.true (rw (k.same, k.at) at a.value) (rw (a.same, k.same, a.at, k.at) at v.value) refl (rw (a.at, k.at) at v.at)

pub returns-clause-is : goal.returns-clause-is
returns-clause-is c variables depth left on =
    let k = c.take_number-kind.ensures in
    let a = c.take_number.ensures in
    argument-record variables depth left _ _ on k.value (sym c.has_argument.ensures ∙ c.if-not-has_argument.false) c.if-kind-eq-CONSTANT.false (rw (k.same, k.at) at a.value) refl (rw k.at at a.at)
