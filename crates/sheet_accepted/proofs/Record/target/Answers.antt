use Rattle.std.proofs.Common.{rules}
use Rattle.sheet_accepted.proofs.Records.{target_here}
use Rattle.sheet_accepted.proofs.Record.target.Goals as goal

pub returns : goal.returns
returns c = target_here _ _ c.args.self.now.read c.is_branch.ensures c.then.result c.then.ensures.variant c.then.ensures.some (λ t p. search rules)
