use Rattle.std.proofs.Common.{◌≡◌, ◌-◌, ◌≤◌}
use Rattle.prover.specs.CallNumbers.{live_tables}
use Rattle.prover.proofs.words.live_tables.Given as goal

abbrev pub invariant-loop-h : goal.invariant-loop-h
invariant-loop-h l = (l.h ≤ l.top) × (l.ok ≡ live_tables l.heights.l_skip l.heights.lists.now l.folds l.t l.h)

abbrev pub decreases-loop-h : goal.decreases-loop-h
decreases-loop-h l = l.top - l.h
