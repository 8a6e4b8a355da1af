-- `columns::seek` meets its contract: what is sought from the loop's matrix on is what was sought. Assumes nothing.
use Prim.Native.Nat.{◌≤◌, ◌-◌, ◌+◌, ◌*◌, ◌^◌}
use mathlib.Core.Path.{◌≡◌}
use Rattle.layout.specs.Triples.{count_of}
use Rattle.layout.specs.Columns.{sought}
use Rattle.layout.proofs.columns.seek.Given as goal

abbrev pub invariant-loop-at : goal.invariant-loop-at
invariant-loop-at l = (l.at ≤ l.m) × (l.start ≤ 2 ^ 61 + l.at * 2 ^ 24) × (sought l.l_skip l.n_stack l.first l.list (count_of l.list - l.at) l.at l.start ≡ sought l.l_skip l.n_stack l.first l.list (count_of l.list - l.i) l.i l.s)

abbrev pub decreases-loop-at : goal.decreases-loop-at
decreases-loop-at l = l.m - l.at
