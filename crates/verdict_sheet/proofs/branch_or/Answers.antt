use native.Mathlib.Omega.{arith}
use Rattle.search.proofs.Laws.{place_found}
use Rattle.sheet.proofs.InCode.{code-addresses, code-places, code-rises}
use Rattle.verdict_sheet.proofs.branch_or.Goals as goal

pub find-requires : goal.find-requires
find-requires c =
    code-rises c.args.index.now

pub is_branch-requires : goal.is_branch-requires
is_branch-requires c =
    let index = c.args.index.now in
    omega (arith, code-addresses index, code-places index.code, place_found index.addresses.now c.args.address c.find.ensures c.in-Some.is)
