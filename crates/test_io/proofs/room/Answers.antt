-- `test_io::room` meets its contract: a repeat is as long as it says, by the law, with nothing computed.
use mathlib.Core.Path.{sym}
use Prim.Native.Nat.{ℕ}
use lib.ListN.{length-replicate}
use Rattle.test_io.proofs.room.Goals as goal

pub returns : goal.returns
returns c =
    sym {0} {A = ℕ} (length-replicate {0} {A = ℕ} 1048576 0)
