use Rattle.verifier.proofs.RowBits.{spot_is}
use Rattle.verifier.proofs.column_weights.spot_of.Goals as goal

pub returns : goal.returns
returns c = spot_is _ _ _ _ _ c.requires.0 c.lifted-lift.ensures
