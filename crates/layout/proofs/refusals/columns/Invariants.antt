-- `refusals::columns` meets its contract: in the first commitment the count is that of the columns before matrix i. Assumes nothing.
use Prim.Native.Nat.{◌≤◌, ◌-◌}
use mathlib.Core.Path.{◌≡◌}
use Rattle.layout.specs.Checks.{first_of}
use Rattle.layout.specs.Triples.{columns_before}
use Rattle.layout.specs.Refusals.{width_number}
use Rattle.layout.proofs.refusals.columns.Given as goal

abbrev pub invariant-loop-i : goal.invariant-loop-i
invariant-loop-i l = (l.i ≤ l.m) × (l.count ≤ 4096) × (l.i ≤ l.first → l.count ≡ columns_before l.list l.i) × (first_of l.i (width_number l.first l.list) ≡ 0)

abbrev pub decreases-loop-i : goal.decreases-loop-i
decreases-loop-i l = l.m - l.i
