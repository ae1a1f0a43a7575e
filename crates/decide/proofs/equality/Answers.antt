use Rattle.std.proofs.Common.{refl}
use Rattle.expr.specs.Tree.{tree_of}
use Rattle.parity.proofs.Limits.{kept}
use Rattle.decide.proofs.Judged.{equality-found}
use Rattle.decide.proofs.equality.Goals as goal

pub returns : goal.returns
returns c =
    let d = kept _ _ c.parted_sides.ensures c.in_ok-differ.was in
    let a = kept _ _ c.exact.ensures c.in_ok-a.was in
    let b = kept _ _ c.exact-2.ensures c.in_ok-b.was in
    equality-found c.args.operator (tree_of c.args.left.words.now) (tree_of c.args.right.words.now) d.0 a.0 b.0
    (rw (c.or_else.ensures, c.or_else-later.ensures, c.equal_sides-same.ensures, c.exact_verdict.ensures, c.parity_verdict.ensures, c.written.ensures, c.written-2.ensures, d.1, a.1, b.1) refl)
