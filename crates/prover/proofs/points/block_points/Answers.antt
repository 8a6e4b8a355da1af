use Rattle.prover.proofs.PointWeights.{points_short, points_past, points_in}
use Rattle.prover.proofs.points.block_points.Goals as goal

pub returns-then-lift-round : goal.returns-then-lift-round
returns-then-lift-round c = points_short _ c.if-lift-round.true

pub returns-then-half-block : goal.returns-then-half-block
returns-then-half-block c = points_past _ c.if-lift-round.false c.requires.0 c.if-half-block.true

pub returns : goal.returns
returns c = points_in _ c.if-lift-round.false c.requires.0 c.block_entries.ensures
