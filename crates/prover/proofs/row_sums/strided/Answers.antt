use Rattle.std.proofs.Common.{arith}
use Rattle.prover.specs.StridedSum.{strided_sum}
use Rattle.prover.proofs.StridedTurns.{term_words}
use Rattle.prover.proofs.SumTurns.{summed_start, summed_turn, summed_room, summed_few, summed_end}
use Rattle.prover.proofs.row_sums.strided.Goals as goal

pub loop-y-init : goal.loop-y-init
loop-y-init c = summed_start _

pub take-s-requires : goal.take-s-requires
take-s-requires c = summed_room _ c.loop-y.invariant (omega arith) c.requires.m_bound

pub loop-y-preserved : goal.loop-y-preserved
loop-y-preserved c = summed_turn _ c.loop-y.invariant (term_words _ _ _ _ _ c.read-e.ensures c.product.ensures c.product-in-loop-y.ensures c.product-in-loop-y-2.ensures c.product-in-loop-y-3.ensures) c.take-s.ensures

pub done-requires : goal.done-requires
done-requires c = summed_few _ c.loop-y.invariant (omega arith) c.requires.m_bound

pub returns : goal.returns
unfolding strided_sum
returns c = summed_end _ c.loop-y.invariant (omega arith) c.loop-y-test.false c.done.ensures
