use Rattle.std.proofs.Common.{◌-◌, ◌≤◌}
use Rattle.prover.specs.Written.{Written}
use Rattle.prover.proofs.StridedTurns.{row_gained}
use Rattle.prover.proofs.row_sums.add_rows.Given as goal

abbrev pub invariant-loop-i : goal.invariant-loop-i
invariant-loop-i l = (l.i ≤ l.rows) × Written l.initial.acc 0 l.i (row_gained l.initial.acc l.q l.at l.stride l.t l.m) l.acc

abbrev pub decreases-loop-i : goal.decreases-loop-i
decreases-loop-i l = l.rows - l.i
