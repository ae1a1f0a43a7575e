use Rattle.std.proofs.Common.{◌≤◌, ◌<◌, ◌∙◌, le_refl, rules, tests}
use Rattle.std.proofs.lemmas.Slice.{between_to_end}
use Rattle.std.proofs.lemmas.Iterator.{IsFirst-from_position, YieldsList-from_slice}
use Rattle.search.proofs.Laws.{walked_to, walked_through}
use Rattle.search.proofs.first_from.Goals as goal

pub returns-in-Some : goal.returns-in-Some
returns-in-Some c =
    walked_to c.requires (c.are_below.ensures (search rules))
    (IsFirst-from_position _ _ _ (λ y. c.args.x ≤ y) (λ y. y < c.args.x) c.in-Some.ensures.ran (YieldsList-from_slice _ (c.iter.ensures.rest ∙ between_to_end c.args.list.now c.args.guess _ (le_refl _))) (λ a q k. search (rules, tests)) (λ a q k. search (rules, tests)))

pub returns-in-None : goal.returns-in-None
returns-in-None c =
    walked_through c.requires (c.are_below.ensures (search rules))
    (IsFirst-from_position _ _ _ (λ y. c.args.x ≤ y) (λ y. y < c.args.x) c.in-None.ensures.ran (YieldsList-from_slice _ (c.iter.ensures.rest ∙ between_to_end c.args.list.now c.args.guess _ (le_refl _))) (λ a q k. search (rules, tests)) (λ a q k. search (rules, tests)))
