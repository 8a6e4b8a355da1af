use Rattle.prover.proofs.PointWeights.{block_least}
use Rattle.prover.proofs.points.block_entries.Goals as goal

pub returns : goal.returns
returns c = block_least _ _ c.min.ensures
