use Rattle.field.proofs.Elements.{canonical_words_lem}
use Rattle.prover.specs.PointBlocks.{weight_line}
use Rattle.weights.proofs.PowerWalks.{only_plain}
use Rattle.prover.proofs.PointWeights.{with_lambda_lem}
use Rattle.prover.proofs.points.weight_at.Goals as goal

pub returns-then-weighing-eq0 : goal.returns-then-weighing-eq0
unfolding weight_line
returns-then-weighing-eq0 c = only_plain _ _ _ c.if-weighing-eq0.true c.point-plain.ensures

pub mul_add-requires : goal.mul_add-requires
mul_add-requires c = record { canonical = canonical_words_lem _ c.point-plain.ensures; canonical_2 = c.requires.canonical; canonical_3 = canonical_words_lem _ c.point-rotated.ensures }

pub returns : goal.returns
unfolding weight_line
returns c = with_lambda_lem _ _ _ _ c.if-weighing-eq0.false c.point-plain.ensures c.point-rotated.ensures c.mul_add.ensures
