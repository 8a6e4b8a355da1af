use Rattle.std.proofs.Common.{◌+◌, ◌-◌, ◌≤◌}
use Rattle.field.specs.Slice.{elem_at}
use Rattle.prover.specs.Transforms.{spread_f}
use Rattle.prover.specs.Written.{Written}
use Rattle.prover.proofs.geometric.spread.Given as goal

abbrev pub invariant-loop-j : goal.invariant-loop-j
invariant-loop-j l = (l.j ≤ l.rows) × Written l.initial.e 0 l.j (spread_f l.l l.o (elem_at l.a)) l.e

abbrev pub decreases-loop-j : goal.decreases-loop-j
decreases-loop-j l = l.rows - l.j

abbrev pub invariant-loop-j-2 : goal.invariant-loop-j-2
invariant-loop-j-2 l = (l.j ≤ l.rows) × Written l.initial.e 0 (l.rows + l.j) (spread_f l.l l.o (elem_at l.a)) l.e

abbrev pub decreases-loop-j-2 : goal.decreases-loop-j-2
decreases-loop-j-2 l = l.rows - l.j
