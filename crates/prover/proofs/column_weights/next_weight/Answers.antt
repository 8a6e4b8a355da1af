use Rattle.prover.proofs.WeightWalk.{weight_kept, weight_bit}
use Rattle.prover.proofs.column_weights.next_weight.Goals as goal

pub returns-then-lifted-round : goal.returns-then-lifted-round
returns-then-lifted-round c = weight_bit _ _ _ _ _ _ _ _ c.lifted.ensures c.if-lifted-round.true c.requires.0 c.requires.1 c.bit_factor-f.ensures c.mul.ensures

pub returns : goal.returns
returns c = weight_kept _ _ _ _ _ _ _ _ c.lifted.ensures c.if-lifted-round.false c.canonical.ensures
