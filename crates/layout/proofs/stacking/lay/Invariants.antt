-- `stacking::lay` meets its contract: the first i matrices are in their places. Assumes nothing.
use Prim.Native.Nat.{◌-◌}
use lib.ListN.{length}
use Rattle.layout.proofs.Fills.{Filling}
use Rattle.layout.proofs.stacking.lay.Given as goal

abbrev pub invariant-loop-i : goal.invariant-loop-i
invariant-loop-i l = Filling l.l_skip l.list l.cells (length l.initial.out) l.i l.at l.from l.out

abbrev pub decreases-loop-i : goal.decreases-loop-i
decreases-loop-i l = l.m - l.i
