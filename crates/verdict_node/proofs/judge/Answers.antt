use Rattle.std.proofs.Common.{arith}
use Rattle.sheet_node.proofs.Decoding.{sites-inside}
use Rattle.verdict_node.proofs.judge.Goals as goal

pub overflow_add-sites : goal.overflow_add-sites
overflow_add-sites c = omega (arith, sites-inside c.args.r.now.bytes.now c.args.r.now.at c.requires.there)
