-- `records::write` meets its contract: the first k records are written, two words each, and the cursor is at column k. Assumes nothing.
use Prim.Native.Nat.{◌-◌}
use Rattle.layout.proofs.Packing.{Writing}
use Rattle.layout.proofs.records.write.Given as goal

abbrev pub invariant-loop-k : goal.invariant-loop-k
invariant-loop-k l = Writing l.l_skip l.n_stack l.list l.initial.sorted_cols l.k l.c l.sorted_cols

abbrev pub decreases-loop-k : goal.decreases-loop-k
decreases-loop-k l = l.n - l.k
