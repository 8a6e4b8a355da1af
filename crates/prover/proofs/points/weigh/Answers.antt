use Rattle.std.proofs.Common.{arith}
use Rattle.field.proofs.Elements.{canonical_words_lem}
use Rattle.prover.proofs.PointWeights.{weighing_start, weighing_turn, weighing_end, eleven_canonical}
use Rattle.prover.proofs.points.weigh.Goals as goal

pub loop-y-init : goal.loop-y-init
loop-y-init c = (omega arith, weighing_start _)

pub write-requires : goal.write-requires
write-requires c = record { i_in_bounds = omega arith; canonical = canonical_words_lem _ c.weight_at-w.ensures }

pub write-requires-in-loop-y : goal.write-requires-in-loop-y
write-requires-in-loop-y c = record { i_in_bounds = omega arith; canonical = eleven_canonical _ c.eleven_times-v.ensures }

pub loop-y-preserved : goal.loop-y-preserved
loop-y-preserved c = (omega arith, weighing_turn _ c.loop-y.invariant.1 c.loop-y-test.true c.requires.n_bound (omega arith) (omega arith) c.weight_at-w.ensures c.eleven_times-v.ensures c.write.ensures c.write-in-loop-y.ensures)

pub returns : goal.returns
returns c = weighing_end _ c.loop-y.invariant.0 c.loop-y-test.false c.loop-y.invariant.1
