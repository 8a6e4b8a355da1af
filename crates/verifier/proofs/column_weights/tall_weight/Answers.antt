use Rattle.verifier.proofs.HeightWeights.{tall_weight}
use Rattle.verifier.proofs.column_weights.tall_weight.Goals as goal

pub returns : goal.returns
returns c = tall_weight _ _ _ _ _ _ c.requires.1 c.requires.0 c.requires.3 c.requires.4 c.prism_weight.ensures
