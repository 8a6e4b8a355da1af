use Rattle.prover.proofs.RowTurns.{quarter}
use Rattle.prover.proofs.SumTurns.{Summed}
use Rattle.prover.proofs.rows.row.Given as goal

abbrev pub invariant-loop-g : goal.invariant-loop-g
invariant-loop-g l = Summed (quarter l.q l.at l.k l.groups) l.g l.s
