use native.Mathlib.Omega.{arith}
use Rattle.poly.proofs.Toggled.{found, missed, take-out-toggles, put-in-toggles}
use Rattle.poly.proofs.toggle.Goals as goal

pub take_out-requires : goal.take_out-requires
take_out-requires c =
    ((found _ _ (omega arith) c.requires.1 c.in-Ok.ensures.position).0, omega arith)

pub returns-in-Ok : goal.returns-in-Ok
returns-in-Ok c =
    take-out-toggles _ _ _ (omega arith) c.requires.1 c.in-Ok.ensures.position c.take_out.auto.list c.take_out.ensures

pub put_in-requires : goal.put_in-requires
put_in-requires c =
    (missed _ _ (omega arith) c.requires.1 c.in-Err.ensures.position, omega arith)

pub returns-in-Err : goal.returns-in-Err
returns-in-Err c =
    put-in-toggles _ _ (omega arith) c.requires.1 c.in-Err.ensures.position c.put_in.auto.list c.put_in.ensures
