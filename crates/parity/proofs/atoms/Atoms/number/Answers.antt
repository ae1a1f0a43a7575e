use Rattle.std.proofs.Common.{sym, arith}
use Rattle.parity.proofs.Table.{count-exprs}
use Rattle.parity.proofs.atoms.Atoms.number.Goals as goal

pub returns-then-has_own_value : goal.returns-then-has_own_value
returns-then-has_own_value c = rw (sym c.has_own_value.ensures, c.if-has_own_value.true) (sym (count-exprs c.args.self.now.list (omega (arith, c.args.self.now.few, c.args.self.now.full))))
