use Rattle.std.proofs.Common.{rules}
use Rattle.verdict_node.proofs.Judged.{types-few, these-statements, this-condition, node-addresses, judged-into, judged_long}
use Rattle.verdict_node.proofs.verdict_among.Goals as goal

pub substitute-requires : goal.substitute-requires
substitute-requires g c =
    let n = c.args.node.now in let these = c.types-types.ensures in let r = c.new-r.ensures in (
      search rules,
      (
        λ _. types-few n.bytes.now n.at n.read n.front_is these c.requires.few,
        (rw (r.bytes, r.at) (these-statements n.bytes.now n.at n.read n.front_is these), rw (r.bytes, r.at) (this-condition n.bytes.now n.at n.read n.front_is these)),
      ),
    )

pub judge-requires-clause-there : goal.judge-requires-clause-there
judge-requires-clause-there g c =
    let n = c.args.node.now in let these = c.types-types.ensures in let r = c.new-r.ensures in
    let made = rw (r.bytes, r.at) at c.in-Some.ensures.made in
    rw (c.substitute.ensures.same, r.bytes) (node-addresses n.bytes.now n.at n.read n.front_is these made.0)

pub returns-in-Some : goal.returns-in-Some
returns-in-Some g c =
    let n = c.args.node.now in let these = c.types-types.ensures in let r = c.new-r.ensures in
    let made = rw (r.bytes, r.at) at c.in-Some.ensures.made in
    judged-into n.bytes.now n.at n.read n.front_is these made.0 _ made.2 c.judge.ensures.answer (rw (c.substitute.ensures.same, r.bytes) at c.judge.ensures.addresses) c.judge.ensures.sites

pub returns-in-None : goal.returns-in-None
returns-in-None g c =
    let n = c.args.node.now in let these = c.types-types.ensures in let r = c.new-r.ensures in
    rw c.at.ensures (judged_long n.bytes.now n.at n.read n.front_is these (rw (r.bytes, r.at) at c.in-None.ensures.made))
