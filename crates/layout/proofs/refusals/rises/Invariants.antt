-- `refusals::rises` meets its contract: `last` is the lowest log height so far. Assumes nothing.
use Prim.Native.Nat.{◌≤◌, ◌-◌, min}
use mathlib.Core.Path.{◌≡◌}
use Rattle.layout.specs.Triples.{count_of}
use Rattle.layout.proofs.Turns.{Lowest}
use Rattle.layout.proofs.refusals.rises.Given as goal

abbrev pub invariant-loop-b : goal.invariant-loop-b
invariant-loop-b l = (l.b ≤ l.end) × (l.end ≡ min l.first (count_of l.list)) × Lowest l.list l.b l.last

abbrev pub decreases-loop-b : goal.decreases-loop-b
decreases-loop-b l = l.end - l.b
