use Rattle.std.proofs.Common.{arith}
use Rattle.field.proofs.Elements.{canonical_words_lem}
use Rattle.prover.specs.PointBlocks.{point_sum}
use Rattle.prover.proofs.PointWeights.{weight_word, weight_beside}
use Rattle.prover.proofs.RoundTurns.{point-inside, row0, row1, row2, row3, product_is}
use Rattle.prover.proofs.SumTurns.{summed_start, summed_turn, summed_room, summed_few, summed_end}
use Rattle.prover.proofs.points.weighed.Goals as goal

pub loop-y-init : goal.loop-y-init
loop-y-init c = summed_start _

pub point-a-requires : goal.point-a-requires
point-a-requires c = point-inside _ c.loop-y-test.true c.requires.words

pub dot-requires : goal.dot-requires
dot-requires c = record { canonical = canonical_words_lem _ c.point-a.ensures; below = row0 _ _ c.point-a.ensures (weight_word _ _ _ c.requires.weights c.loop-y-test.true c.read-w.ensures) (weight_beside _ _ _ c.requires.weights c.loop-y-test.true c.read-v.ensures) }

pub take-s-requires : goal.take-s-requires
take-s-requires c = summed_room _ c.loop-y.invariant (omega arith) c.requires.n_bound

pub dot-requires-in-loop-y : goal.dot-requires-in-loop-y
dot-requires-in-loop-y c = record { canonical = canonical_words_lem _ c.point-a.ensures; below = row1 _ _ c.point-a.ensures (weight_word _ _ _ c.requires.weights c.loop-y-test.true c.read-w.ensures) (weight_beside _ _ _ c.requires.weights c.loop-y-test.true c.read-v.ensures) }

pub dot-requires-in-loop-y-2 : goal.dot-requires-in-loop-y-2
dot-requires-in-loop-y-2 c = record { canonical = canonical_words_lem _ c.point-a.ensures; below = row2 _ _ c.point-a.ensures (weight_word _ _ _ c.requires.weights c.loop-y-test.true c.read-w.ensures) (weight_beside _ _ _ c.requires.weights c.loop-y-test.true c.read-v.ensures) }

pub dot-requires-in-loop-y-3 : goal.dot-requires-in-loop-y-3
dot-requires-in-loop-y-3 c = record { canonical = canonical_words_lem _ c.point-a.ensures; below = row3 _ _ c.point-a.ensures (weight_word _ _ _ c.requires.weights c.loop-y-test.true c.read-w.ensures) (weight_beside _ _ _ c.requires.weights c.loop-y-test.true c.read-v.ensures) }

pub loop-y-preserved : goal.loop-y-preserved
loop-y-preserved c = summed_turn _ c.loop-y.invariant (product_is _ _ c.point-a.ensures (weight_word _ _ _ c.requires.weights c.loop-y-test.true c.read-w.ensures) (weight_beside _ _ _ c.requires.weights c.loop-y-test.true c.read-v.ensures) c.dot.ensures c.dot-in-loop-y.ensures c.dot-in-loop-y-2.ensures c.dot-in-loop-y-3.ensures) c.take-s.ensures

pub done-requires : goal.done-requires
done-requires c = summed_few _ c.loop-y.invariant (omega arith) c.requires.n_bound

pub returns : goal.returns
unfolding point_sum
returns c = summed_end _ c.loop-y.invariant (omega arith) c.loop-y-test.false c.done.ensures
