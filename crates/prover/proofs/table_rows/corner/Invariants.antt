use Rattle.std.proofs.Common.{◌-◌}
use Rattle.prover.proofs.TableBlocks.{Cornered}
use Rattle.prover.proofs.table_rows.corner.Given as goal

abbrev pub invariant-loop-i : goal.invariant-loop-i
invariant-loop-i l = Cornered l.r l.from l.n l.b l.e l.left l.i

abbrev pub decreases-loop-i : goal.decreases-loop-i
decreases-loop-i l = l.n - l.i
