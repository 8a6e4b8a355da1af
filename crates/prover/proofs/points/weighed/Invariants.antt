use Rattle.std.proofs.Common.{◌+◌}
use Rattle.algebra.specs.Multilinear.{fold_mle}
use Rattle.field.specs.Element.{F, ◌⊗◌}
use Rattle.field.specs.Slice.{elem_at}
use Rattle.prover.specs.RoundValues.{one_or_two}
use Rattle.prover.proofs.SumTurns.{Summed}
use Rattle.prover.proofs.points.weighed.Given as goal

abbrev pub invariant-loop-y : goal.invariant-loop-y
invariant-loop-y l = Summed (λ i. fold_mle F (elem_at l.q) (one_or_two l.two) (l.from + i) ⊗ elem_at l.t i) l.y l.s
