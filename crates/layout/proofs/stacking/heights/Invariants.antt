-- `stacking::heights` meets its contract: every height before the loop's index has one bit set. Assumes nothing.
use Prim.Native.Nat.{◌≤◌, ◌-◌}
use mathlib.Core.Path.{◌≡◌}
use Rattle.layout.specs.Checks.{first_of}
use Rattle.layout.specs.Logs.{height_number}
use Rattle.layout.proofs.stacking.heights.Given as goal

abbrev pub invariant-loop-i : goal.invariant-loop-i
invariant-loop-i l = (l.i ≤ l.m) × (first_of l.i (height_number l.list) ≡ 0)

abbrev pub decreases-loop-i : goal.decreases-loop-i
decreases-loop-i l = l.m - l.i
