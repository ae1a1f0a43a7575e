-- What finding a node or a block by its number gives.
use Rattle.std.specs.Prelude.{ℕ, List, cond, ltb, Ok, Err}
use Rattle.refusal.specs.declared.Fault.TheVariants.{Number}
use Rattle.refusal.specs.Numbers.{refused}
use Rattle.sheet_field.specs.Field.{Place}
use Rattle.sheet.specs.Sheet.{Reading, node_place}

-- where the node of that number starts; or reading's refusal, or 13 at offset 0 where there is no such node
abbrev pub found_on : Reading → List ℕ → ℕ → Place
found_on (Err r) s number = Err r
found_on (Ok sheet) s number = cond (ltb number sheet.nodes.count) (Ok (node_place s number)) (Err (refused Number 0))

-- the sheet, where it has a block of that number; or reading's refusal, or 13 at offset 0 where there is no such block
abbrev pub having_block : Reading → ℕ → Reading
having_block (Err r) number = Err r
having_block (Ok sheet) number = cond (ltb number sheet.blocks.count) (Ok sheet) (Err (refused Number 0))
