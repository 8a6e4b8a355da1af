-- `unsorted::gather` meets its contract: the first k words are written. Assumes nothing.
use Prim.Native.Nat.{◌≤◌, ◌-◌}
use Rattle.layout.proofs.Filling.{Filled}
use Rattle.ordering.specs.Ordered.{ordered_word}
use Rattle.ordering.proofs.unsorted.gather.Given as goal

abbrev pub invariant-loop-k : goal.invariant-loop-k
invariant-loop-k l = (l.k ≤ l.n) × Filled (ordered_word l.list) l.initial.out l.k l.out

abbrev pub decreases-loop-k : goal.decreases-loop-k
decreases-loop-k l = l.n - l.k
