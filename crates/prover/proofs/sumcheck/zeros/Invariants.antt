use Rattle.prover.proofs.ZeroScan.{ZerosTo}
use Rattle.prover.proofs.sumcheck.zeros.Given as goal

abbrev pub invariant-loop-x : goal.invariant-loop-x
invariant-loop-x l = ZerosTo l.xs l.x-index l.ok
