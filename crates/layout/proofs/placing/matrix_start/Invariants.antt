-- `placing::matrix_start` meets its contract. Assumes nothing.
use Prim.Native.Nat.{◌≤◌, ◌-◌, ◌*◌, ◌^◌}
use mathlib.Core.Path.{◌≡◌}
use Rattle.layout.specs.Placing.{matrix_start}
use Rattle.layout.proofs.placing.matrix_start.Given as goal

abbrev pub invariant-loop-k : goal.invariant-loop-k
invariant-loop-k l = (l.k ≤ l.i) × (l.s ≤ l.k * 2 ^ 37) × (l.s ≡ matrix_start l.l_skip l.n_stack l.first l.list l.k)

abbrev pub decreases-loop-k : goal.decreases-loop-k
decreases-loop-k l = l.i - l.k
