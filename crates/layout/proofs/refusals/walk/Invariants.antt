-- `refusals::walk` meets its contract: every column of the matrices before the loop's index fits. Assumes nothing.
use Prim.Native.Nat.{◌≤◌, ◌-◌, ◌*◌, ◌^◌}
use mathlib.Core.Path.{◌≡◌}
use Rattle.layout.specs.Checks.{first_of}
use Rattle.layout.specs.Placing.{matrix_start}
use Rattle.layout.specs.Refusals.{place_number}
use Rattle.layout.proofs.refusals.walk.Given as goal

abbrev pub invariant-loop-i : goal.invariant-loop-i
invariant-loop-i l = (l.i ≤ l.m) × (l.s ≤ l.i * 2 ^ 37) × (l.s ≡ matrix_start l.l_skip l.n_stack l.first l.list l.i) × (first_of l.i (place_number l.l_skip l.n_stack l.first l.list) ≡ 0)

abbrev pub decreases-loop-i : goal.decreases-loop-i
decreases-loop-i l = l.m - l.i
