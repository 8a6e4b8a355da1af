use Rattle.std.proofs.Common.{◌-◌, ◌≤◌}
use Rattle.field.specs.Element.{elem_of}
use Rattle.field.specs.Slice.{elem_at}
use Rattle.prover.specs.RoundValues.{one_or_two}
use Rattle.prover.specs.PointBlocks.{weight_line, Weights}
use Rattle.prover.proofs.points.weigh.Given as goal

abbrev pub invariant-loop-y : goal.invariant-loop-y
invariant-loop-y l = (l.y ≤ l.n) × Weights l.y (weight_line l.weighing.flag (elem_of l.weighing.lambda) (elem_at l.weighing.eq.now) (elem_at l.weighing.k_rot.now) (one_or_two l.two)) l.t

abbrev pub decreases-loop-y : goal.decreases-loop-y
decreases-loop-y l = l.n - l.y
