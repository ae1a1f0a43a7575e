use Prim.Native.Nat.{◌≤◌}
use native.Mathlib.Omega.{arith}
use Rattle.sheet_field.proofs.Fields.{count_most}
use Rattle.sheet_field.proofs.Steps.{handed_out}
use Rattle.sheet.proofs.Sections.{first_refused, instructions_refused, second_refused, blocks_refused, third_refused, nodes_refused, indexed, read_whole, left_over}
use Rattle.sheet.proofs.read_index.Goals as goal

pub overflow_mul-blocks : goal.overflow_mul-blocks
overflow_mul-blocks c =
    let few : c.in_ok-blocks.blocks.count ≤ 1024 = rw c.in_ok-blocks.ensures.count (count_most 0 1024 _ _) in
    record { fits = omega (arith, few) }

pub returns-in_err-instructions-clause-reading : goal.returns-in_err-instructions-clause-reading
returns-in_err-instructions-clause-reading c =
    let new = c.new-r.ensures in
    handed_out c.from_residual.ensures.1 (first_refused _ new.bytes new.at c.in_err-instructions.ensures.reads)

pub returns-in_err-read_instructions-clause-reading : goal.returns-in_err-read_instructions-clause-reading
returns-in_err-read_instructions-clause-reading c =
    let new = c.new-r.ensures in let i = c.in_ok-instructions.ensures in
    handed_out c.from_residual-in_err-read_instructions.ensures.1 (instructions_refused _ new.bytes new.at i.reads i.count i.at c.in_err-read_instructions.ensures.reads)

pub returns-in_err-blocks-clause-reading : goal.returns-in_err-blocks-clause-reading
returns-in_err-blocks-clause-reading c =
    let new = c.new-r.ensures in let i = c.in_ok-instructions.ensures in
    handed_out c.from_residual-in_err-blocks.ensures.1
    (second_refused _ new.bytes new.at i.reads i.count i.at c.in_ok-read_instructions.ensures.reads c.in_err-blocks.ensures.reads)

pub returns-in_err-take_words-clause-reading : goal.returns-in_err-take_words-clause-reading
returns-in_err-take_words-clause-reading c =
    let new = c.new-r.ensures in let i = c.in_ok-instructions.ensures in let b = c.in_ok-blocks.ensures in
    handed_out c.from_residual-in_err-take_words.ensures.1
    (blocks_refused _ new.bytes new.at i.reads i.count i.at c.in_ok-read_instructions.ensures.reads b.reads b.count b.at c.in_err-take_words.ensures)

pub returns-in_err-last-clause-reading : goal.returns-in_err-last-clause-reading
returns-in_err-last-clause-reading c =
    let new = c.new-r.ensures in let i = c.in_ok-instructions.ensures in let b = c.in_ok-blocks.ensures in
    handed_out c.from_residual-in_err-last.ensures.1
    (third_refused _ new.bytes new.at i.reads i.count i.at c.in_ok-read_instructions.ensures.reads b.reads b.count b.at c.in_ok-take_words.ensures c.in_err-last.ensures.reads)

pub returns-in_err-read_nodes-clause-reading : goal.returns-in_err-read_nodes-clause-reading
returns-in_err-read_nodes-clause-reading c =
    let new = c.new-r.ensures in let i = c.in_ok-instructions.ensures in let b = c.in_ok-blocks.ensures in let n = c.in_ok-last.ensures in
    handed_out c.from_residual-in_err-read_nodes.ensures.1
    (nodes_refused _ new.bytes new.at i.reads i.count i.at c.in_ok-read_instructions.ensures.reads b.reads b.count b.at c.in_ok-take_words.ensures n.reads n.count n.at
    c.in_err-read_nodes.ensures.reads)

pub returns-then-s-r-clause-reading : goal.returns-then-s-r-clause-reading
returns-then-s-r-clause-reading c =
    let new = c.new-r.ensures in let i = c.in_ok-instructions.ensures in let b = c.in_ok-blocks.ensures in let n = c.in_ok-last.ensures in
    read_whole _ new.bytes new.at i.reads i.count i.at c.in_ok-read_instructions.ensures.reads b.reads b.count b.at c.in_ok-take_words.ensures n.reads n.count n.at
    c.in_ok-read_nodes.ensures.reads c.if-s-r.true

pub returns-then-s-r-clause-index : goal.returns-then-s-r-clause-index
returns-then-s-r-clause-index c =
    let new = c.new-r.ensures in let i = c.in_ok-instructions.ensures in let b = c.in_ok-blocks.ensures in let n = c.in_ok-last.ensures in
    let code = c.in_ok-read_instructions.ensures in let graph = c.in_ok-read_nodes.ensures in
    indexed _ new.bytes new.at i.reads i.count i.at code.reads b.reads b.count b.at c.in_ok-take_words.ensures n.reads n.count n.at code.noted graph.noted

pub returns-else-s-r-clause-reading : goal.returns-else-s-r-clause-reading
returns-else-s-r-clause-reading c =
    let new = c.new-r.ensures in let i = c.in_ok-instructions.ensures in let b = c.in_ok-blocks.ensures in let n = c.in_ok-last.ensures in
    rw c.at.ensures
    (left_over _ new.bytes new.at i.reads i.count i.at c.in_ok-read_instructions.ensures.reads b.reads b.count b.at c.in_ok-take_words.ensures n.reads n.count n.at
    c.in_ok-read_nodes.ensures.reads c.if-s-r.false)
