use Rattle.std.proofs.Common.{◌-◌, ◌*◌}
use Rattle.prover.specs.RowSum.{coefficients}
use Rattle.prover.proofs.CheckedFolds.{Before}
use Rattle.prover.proofs.sumcheck.fold_blocks.Given as goal

abbrev pub invariant-loop-y : goal.invariant-loop-y
invariant-loop-y l = Before l.q (4 * l.groups) (coefficients l.groups l.k) l.initial.out l.rows l.step l.y l.out

abbrev pub decreases-loop-y : goal.decreases-loop-y
decreases-loop-y l = l.rows - l.y
