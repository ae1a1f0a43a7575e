use mathlib.Core.Path.{refl}
use native.Mathlib.Omega.{arith}
use Rattle.sheet.proofs.ByNumber.{block_inside, nth-block-is}
use Rattle.sheet.proofs.Sheet.nth_block.Goals as goal

pub overflow_mul-at : goal.overflow_mul-at
overflow_mul-at c = omega (arith, block_inside _ _ c.requires.accepted _ c.requires.number_lt_count)

pub overflow_add-at : goal.overflow_add-at
overflow_add-at c = omega (arith, block_inside _ _ c.requires.accepted _ c.requires.number_lt_count)

pub number-requires : goal.number-requires
number-requires c = omega (arith, block_inside _ _ c.requires.accepted _ c.requires.number_lt_count)

pub overflow_add-at-2 : goal.overflow_add-at-2
overflow_add-at-2 c = omega (arith, block_inside _ _ c.requires.accepted _ c.requires.number_lt_count)

pub number-requires-2 : goal.number-requires-2
number-requires-2 c = omega (arith, block_inside _ _ c.requires.accepted _ c.requires.number_lt_count)

pub returns : goal.returns
returns c =
    nth-block-is _ _ c.requires.accepted _ c.requires.number_lt_count refl c.number.ensures c.number-2.ensures
