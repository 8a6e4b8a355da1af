-- `moving::reversal` meets its contract: y is the reversal of the bits passed, `left` what is above them. Assumes nothing.
use Prim.Native.Nat.{◌-◌, ◌≤◌}
use Rattle.storage.proofs.Reversals.{Passing}
use Rattle.storage.proofs.moving.reversal.Given as goal

abbrev pub invariant-loop-i : goal.invariant-loop-i
invariant-loop-i l = (l.i ≤ l.bits) × Passing l.x l.i l.y l.left

abbrev pub decreases-loop-i : goal.decreases-loop-i
decreases-loop-i l = l.bits - l.i
