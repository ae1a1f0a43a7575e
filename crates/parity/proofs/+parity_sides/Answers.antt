-- `sides` is called on the two sides of a part and calls `parity` on each: the measures are twice the words, and one more for `parity`.
use Rattle.std.proofs.Common.{refl, sym, ◌∙◌, arith}
use Rattle.parity.proofs.Calls.{lent-smaller, given-same, given-as, low-constant, low-cast, low-binary, low-other, two-right, two-sides, two-given}
use Rattle.parity.proofs.Steps.{constant-made, lent-count}
use Rattle.parity.proofs.+parity_sides.Goals as goal
use Rattle.parity.proofs.+parity_sides.Goals.{parity-in_default-via-in-Cast+else-argument-ne-BOOL, parity-in_default-via-in_default}

pub parity-parity-requires : goal.parity-parity-requires
parity-parity-requires t c =
    (omega (arith, c.decreases, c.child.ensures.size), lent-smaller c.requires (omega (arith, c.child.ensures.size)))

pub parity-sides-requires-in-Both : goal.parity-sides-requires-in-Both
parity-sides-requires-in-Both t c =
    (omega (arith, c.decreases, c.sides.ensures.size), lent-smaller c.requires (omega (arith, c.sides.ensures.size)))

pub parity-parity-requires-in-Keeps : goal.parity-parity-requires-in-Keeps
parity-parity-requires-in-Keeps t c =
    (omega (arith, c.decreases, c.sides.ensures.size), lent-smaller c.requires (omega (arith, c.sides.ensures.size)))

pub parity-atom-requires-in_default-clause-room : goal.parity-atom-requires-in_default-clause-room
parity-atom-requires-in_default-clause-room t c =
    lent-count c.args.part.wf c.requires

pub parity-returns-in-Constant : goal.parity-returns-in-Constant
parity-returns-in-Constant t c =
    given-as (low-constant _ _ (sym c.root.ensures ∙ c.in-Constant.is))
    (given-same refl refl (constant-made c.value.ensures c.constant_poly.ensures.count c.constant_poly.ensures.stands))

pub parity-returns-in-Cast : goal.parity-returns-in-Cast
parity-returns-in-Cast t c =
    given-as (low-cast _ _ c.child.ensures.tree (λ h. c.if-argument-ne-BOOL.true (c.argument.ensures ∙ h))) c.parity.ensures

pub parity-returns-in-Both : goal.parity-returns-in-Both
parity-returns-in-Both t c =
    given-as (low-binary _ _ c.sides.ensures.tree c.entered.ensures c.argument-in-Binary.ensures c.in-Both.is) c.sides-in-Both.ensures

pub parity-returns-in-Keeps : goal.parity-returns-in-Keeps
parity-returns-in-Keeps t c =
    given-as (low-binary _ _ c.sides.ensures.tree c.entered.ensures c.argument-in-Binary.ensures c.in-Keeps.is) c.parity-in-Keeps.ensures

pub parity-returns-in-Clears : goal.parity-returns-in-Clears
parity-returns-in-Clears t c =
    given-as (low-binary _ _ c.sides.ensures.tree c.entered.ensures c.argument-in-Binary.ensures c.in-Clears.is)
    (given-same refl refl (record { size = refl; stands = λ _. refl }))

pub parity-returns-in-Atom : goal.parity-returns-in-Atom
parity-returns-in-Atom t c =
    given-as (low-binary _ _ c.sides.ensures.tree c.entered.ensures c.argument-in-Binary.ensures c.in-Atom.is) c.atom.ensures

pub parity-returns-in_default : goal.parity-returns-in_default
parity-returns-in_default t c =
    elim c.in_default.branch [
      | parity-in_default-via-in-Cast+else-argument-ne-BOOL w ↦
          given-as (low-other _ _ (λ h. cc) (λ _. sym w.argument.ensures ∙ w.if-argument-ne-BOOL.false) (λ h. cc)) c.atom-in_default.ensures
      | parity-in_default-via-in_default w ↦
          given-as (low-other _ _ (λ h. w.in_default.not-Constant (c.root.ensures ∙ h)) (λ h. absurd (w.in_default.not-Cast (c.root.ensures ∙ h))) (λ h. w.in_default.not-Binary (c.root.ensures ∙ h))) c.atom-in_default.ensures
    ]

pub sides-parity-requires-2 : goal.sides-parity-requires-2
sides-parity-requires-2 t c =
    (omega (arith, c.decreases), two-right _ _ _ c.args.left.wf c.args.right.wf c.requires c.parity.ensures c.in_ok-n.was c.parity.auto.terms c.parity.auto.scratch)

pub sides-combined-requires : goal.sides-combined-requires
sides-combined-requires t c =
    two-sides _ _ _ c.args.left.wf c.args.right.wf c.requires c.parity.ensures c.in_ok-n.was c.parity-2.ensures c.in_ok-k.was _ c.parity.auto.terms c.parity-2.auto.terms
    (c.parity-2.auto.scratch ∙ c.parity.auto.scratch)

pub sides-returns : goal.sides-returns
sides-returns t c =
    two-given _ _ _ c.args.left.wf c.args.right.wf c.requires c.parity.ensures c.in_ok-n.was c.parity-2.ensures c.in_ok-k.was _ c.args.pair _ _ c.combined.ensures
