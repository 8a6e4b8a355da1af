use Rattle.prover.proofs.StridedTurns.{term}
use Rattle.prover.proofs.SumTurns.{Summed}
use Rattle.prover.proofs.row_sums.strided.Given as goal

abbrev pub invariant-loop-y : goal.invariant-loop-y
invariant-loop-y l = Summed (term l.q l.at l.stride l.t) l.y l.s
