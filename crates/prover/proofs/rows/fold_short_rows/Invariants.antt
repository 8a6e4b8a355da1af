use Rattle.std.proofs.Common.{◌-◌, ◌*◌, ◌≤◌}
use Rattle.prover.specs.Written.{Written}
use Rattle.field.specs.Slice.{elem_at}
use Rattle.prover.specs.RowSum.{row_sum}
use Rattle.prover.proofs.rows.fold_short_rows.Given as goal

abbrev pub invariant-loop-y : goal.invariant-loop-y
invariant-loop-y l = (l.y ≤ l.rows) × Written l.initial.out l.at l.y (λ i. row_sum l.q (l.n * i) (elem_at l.k) l.n) l.out

abbrev pub decreases-loop-y : goal.decreases-loop-y
decreases-loop-y l = l.rows - l.y
