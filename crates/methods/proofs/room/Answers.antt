-- `methods::room` meets its contract.
use Prim.Native.Nat.{ℕ}
use lib.ListN.{length-replicate}
use Rattle.methods.proofs.room.Goals as goal

pub returns : goal.returns
returns c = length-replicate {0} {A = ℕ} 524288 0
