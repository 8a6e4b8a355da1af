use Rattle.std.proofs.Common.{◌-◌}
use Rattle.prover.proofs.CoefficientTables.{Splitting}
use Rattle.prover.proofs.rows.split.Given as goal

abbrev pub invariant-loop-i : goal.invariant-loop-i
invariant-loop-i l = Splitting l.groups l.k l.i l.r

abbrev pub decreases-loop-i : goal.decreases-loop-i
decreases-loop-i l = 4096 - l.i
