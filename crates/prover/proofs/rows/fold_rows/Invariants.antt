use Rattle.std.proofs.Common.{◌-◌, ◌*◌, ◌≤◌}
use Rattle.prover.specs.Written.{Written}
use Rattle.prover.specs.RowSum.{row_sum, coefficients}
use Rattle.prover.proofs.rows.fold_rows.Given as goal

abbrev pub invariant-loop-y : goal.invariant-loop-y
invariant-loop-y l = (l.y ≤ l.rows) × Written l.initial.out l.at l.y (λ i. row_sum l.q (4 * l.groups * i) (coefficients l.groups l.k) (4 * l.groups)) l.out

abbrev pub decreases-loop-y : goal.decreases-loop-y
decreases-loop-y l = l.rows - l.y
