use Rattle.std.proofs.Common.{◌∙◌, rules, tests, arith, take}
use Rattle.std.proofs.lemmas.Iterator.{YieldsList-from_slice}
use Rattle.std.proofs.lemmas.Iterator.Search.{position_from_yields_List}
use lib.Seq.{length-take-le}
use Rattle.expr.specs.Tree.{tree_of}
use Rattle.parity.proofs.Table.{is_tree, placed}
use Rattle.parity.proofs.atoms.Atoms.place.Goals as goal

pub returns : goal.returns
returns c =
    let e = tree_of c.args.part.words.now in
    let l = take c.args.self.now.count c.args.self.now.list in
    c.unwrap_or.ensures ∙ placed e l (length-take-le _ _ (omega (arith, c.args.self.now.few, c.args.self.now.full))) (position_from_yields_List (is_tree e) _ _ _ c.position.ensures.ran (YieldsList-from_slice _ c.iter.ensures.rest) (λ x b q k. search (rules, tests)))
