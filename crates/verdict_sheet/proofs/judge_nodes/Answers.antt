use lib.ListN.{length, get_or}
use mathlib.Core.Path.{refl, ap, ◌∙◌}
use native.Mathlib.Omega.{arith}
use Rattle.std.specs.Prelude.{Ok}
use Rattle.std.proofs.lemmas.Result.{err_from_is_err_and}
use Rattle.sheet.specs.Sheet.{sheet_at}
use Rattle.sheet.proofs.ByNumber.{node-places-count}
use Rattle.sheet_node.specs.Node.{node_at, node_of}
use Rattle.verdict_sheet.specs.Said.{blocks_say}
use Rattle.verdict_sheet.specs.Sites.{last_branch}
use Rattle.verdict_sheet.proofs.Branches.{node-jump}
use Rattle.verdict_sheet.proofs.Keeping.{slots_length, has-slot}
use Rattle.verdict_sheet.proofs.Order.{stands-whole, nodes-none, nodes-whole, node-kept, node-ended}
use Rattle.verdict_sheet.proofs.judge_nodes.Goals as goal

pub loop-node-init : goal.loop-node-init
loop-node-init c =
    (refl, λ blocks is. nodes-none c.args.index.now.code.bytes.now blocks is)

pub new-requires : goal.new-requires
new-requires c =
    stands-whole _ _ c.args.index.now.code.accepted _ c.requires.nodes_value c.loop-node-test.true

pub keep_at-requires : goal.keep_at-requires
keep_at-requires c =
    let code = c.args.index.now.code in
    let s = code.bytes.now in
    let list = (sheet_at s).instructions.list in
    let node = node_at s (Ok (get_or c.args.nodes.now c.loop-node.node-index 0)) in
    let whole = stands-whole _ _ code.accepted _ c.requires.nodes_value c.loop-node-test.true in
    let judged = rw (c.new.ensures.bytes, c.new.ensures.at) at c.in_ok-judged.ensures in
    has-slot list c.node_jump-jump.result (last_branch list (node_of s node).addresses) c.loop-node.slots (node-jump s _ whole list c.node_jump-jump.result judged.addresses c.node_jump-jump.ensures)
    (c.loop-node.invariant.0 ∙ ap length c.requires.slots_value ∙ slots_length list (blocks_say s code.sheet.blocks.count))

pub returns-in_err-judged : goal.returns-in_err-judged
returns-in_err-judged c =
    let code = c.args.index.now.code in
    let blocks = code.sheet.blocks.count in
    let p = err_from_is_err_and c.from_residual.result c.from_residual.ensures.1 in
    let all = ap length c.requires.nodes_value ∙ node-places-count code.bytes.now code.sheet code.accepted in
    rw (p.1, p.2) (node-ended code c.loop-node.node-index c.requires.nodes_value c.loop-node-test.true blocks c.loop-node.slots (c.loop-node.invariant.1 blocks c.requires.slots_value) _ (rw (c.new.ensures.bytes, c.new.ensures.at) at c.in_err-judged.ensures) code.sheet.nodes.count (omega (arith, c.loop-node-test.true, all)))

pub loop-node-preserved : goal.loop-node-preserved
loop-node-preserved c =
    let code = c.args.index.now.code in
    let s = code.bytes.now in
    let whole = stands-whole _ _ code.accepted _ c.requires.nodes_value c.loop-node-test.true in
    let judged = rw (c.new.ensures.bytes, c.new.ensures.at) at c.in_ok-judged.ensures in (
      c.keep_at.auto.slots ∙ c.loop-node.invariant.0,
      λ blocks given. node-kept code c.loop-node.node-index c.requires.nodes_value c.loop-node-test.true blocks c.loop-node.slots (c.loop-node.invariant.1 blocks given) _ judged c.node_jump-jump.result
          (node-jump s _ whole (sheet_at s).instructions.list c.node_jump-jump.result judged.addresses c.node_jump-jump.ensures) c.keep_at.ensures,
    )

pub returns : goal.returns
returns c =
    let code = c.args.index.now.code in
    let blocks = code.sheet.blocks.count in
    let all = ap length c.requires.nodes_value ∙ node-places-count code.bytes.now code.sheet code.accepted in
    nodes-whole code.bytes.now blocks c.loop-node.node-index code.sheet.nodes.count c.loop-node.slots (omega (arith, all)) (c.loop-node.invariant.1 blocks c.requires.slots_value)
