use Rattle.std.proofs.Common.{◌∙◌, ◌++◌, drop, replicate, arith}
use Rattle.std.proofs.lemmas.Grind.{common_steps}
use Rattle.sheet_field.proofs.Fields.{little-padded, little-small}
use Rattle.sheet_field.proofs.bounded.Goals as goal

pub returns-clause-value : goal.returns-clause-value
returns-clause-value c c' =
    c'.from_le_bytes.ensures ∙ little-padded c'.args.s.now (c'.copy_from_slice.new.self ++ drop c.row.N (replicate 8 0)) c'.args.at c.row.N c'.requires.width (λ i lt. grind (arith, common_steps)) (λ i le lt. grind (arith, common_steps))

pub returns-clause-small : goal.returns-clause-small
returns-clause-small c c' = rw (returns-clause-value c c') (little-small c'.args.s.now c.row.N c'.args.at (λ i. omega (arith, c'.type_inv.s i)))
