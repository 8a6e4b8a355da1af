-- `runs::later_counts` meets its contract: the commitments before the loop's index have one matrix. Assumes nothing.
use Prim.Native.Nat.{◌≤◌, ◌<◌, ◌-◌}
use mathlib.Core.Path.{◌≡◌}
use Rattle.layout.specs.Checks.{first_of}
use Rattle.layout.specs.Lists.{commitment_number}
use Rattle.layout.proofs.runs.later_counts.Given as goal

abbrev pub invariant-loop-c : goal.invariant-loop-c
invariant-loop-c l = (l.c ≤ l.n) × (0 < l.c) × (first_of l.c (commitment_number l.counts) ≡ 0)

abbrev pub decreases-loop-c : goal.decreases-loop-c
decreases-loop-c l = l.n - l.c
