-- `stacking::cell_count` meets its contract: the cells of the matrices before the loop's index. Assumes nothing.
use Prim.Native.Nat.{◌≤◌, ◌-◌, ◌*◌, ◌^◌}
use mathlib.Core.Path.{◌≡◌}
use Rattle.layout.specs.Stacked.{cells_before}
use Rattle.layout.proofs.stacking.cell_count.Given as goal

abbrev pub invariant-loop-i : goal.invariant-loop-i
invariant-loop-i l = (l.i ≤ l.m) × (l.n ≤ l.i * 2 ^ 36) × (l.n ≡ cells_before l.list l.i)

abbrev pub decreases-loop-i : goal.decreases-loop-i
decreases-loop-i l = l.m - l.i
