use Rattle.prover.proofs.CallLaws.{zeros_are}
use Rattle.prover.proofs.stacked_reduction.refused_pair.Goals as goal

pub returns : goal.returns
returns c = zeros_are _ _
