use Rattle.std.proofs.Common.{◌-◌, ◌≤◌}
use Rattle.field.specs.Element.{elem_of}
use Rattle.prover.specs.Written.{Written}
use Rattle.prover.proofs.MleFolds.{folded}
use Rattle.prover.proofs.sumcheck.fold_mle_evals.Given as goal

abbrev pub invariant-loop-y : goal.invariant-loop-y
invariant-loop-y l = (l.y ≤ l.half) × Written l.initial.t l.at l.y (folded l.initial.t l.at l.half (elem_of l.u)) l.t

abbrev pub decreases-loop-y : goal.decreases-loop-y
decreases-loop-y l = l.half - l.y
