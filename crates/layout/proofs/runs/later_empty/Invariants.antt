-- `runs::later_empty` meets its contract: the commitments before the loop's index have a column. Assumes nothing.
use Prim.Native.Nat.{◌≤◌, ◌-◌}
use mathlib.Core.Path.{◌≡◌}
use Rattle.layout.specs.Checks.{first_of}
use Rattle.layout.specs.Lists.{later_number}
use Rattle.layout.proofs.runs.later_empty.Given as goal

abbrev pub invariant-loop-c : goal.invariant-loop-c
invariant-loop-c l = (l.c ≤ l.later) × (first_of l.c (later_number l.first l.list) ≡ 0)

abbrev pub decreases-loop-c : goal.decreases-loop-c
decreases-loop-c l = l.later - l.c
