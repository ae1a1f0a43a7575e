use Rattle.std.proofs.Common.{◌≤◌, ◌<◌, length, arith}
use lib.ListN.{length-set}
use Rattle.parity.proofs.Table.{count-exprs, noted-known, noted-new}
use Rattle.parity.proofs.atoms.Atoms.note.Goals as goal

pub listed : goal.listed
listed c =
    let a = c.args.self.now in
    let room : a.count ≤ length a.list = omega (arith, a.few, a.full) in
    omega (arith, c.if-n-self.true, c.requires, count-exprs a.list room, a.full)

pub bounds-self-n : goal.bounds-self-n
bounds-self-n c =
    let a = c.args.self.now in
    let room : a.count ≤ length a.list = omega (arith, a.few, a.full) in
    omega (arith, c.if-n-self.true, c.requires, count-exprs a.list room)

pub invariant_of-self-then-n-self : goal.invariant_of-self-then-n-self
invariant_of-self-then-n-self c =
    let a = c.args.self.now in
    let room : a.count ≤ length a.list = omega (arith, a.few, a.full) in
    record {
      full = omega (arith, length-set a.list c.number-n.result c.args.part, a.full);
      few = omega (arith, c.requires, count-exprs a.list room);
    }

pub returns-then-n-self-clause-noted : goal.returns-then-n-self-clause-noted
returns-then-n-self-clause-noted c =
    let a = c.args.self.now in
    let room : a.count ≤ length a.list = omega (arith, a.few, a.full) in
    let space : a.count < length a.list = omega (arith, a.full, c.requires, count-exprs a.list room) in
    noted-new a.list room c.args.part space c.number-n.ensures c.if-n-self.true

pub returns-else-n-self-clause-noted : goal.returns-else-n-self-clause-noted
returns-else-n-self-clause-noted c =
    let a = c.args.self.now in
    let room : a.count ≤ length a.list = omega (arith, a.few, a.full) in
    noted-known a.list room _ c.number-n.ensures c.if-n-self.false
