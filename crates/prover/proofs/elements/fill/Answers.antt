use Rattle.std.proofs.Common.{refl, arith}
use Rattle.prover.proofs.Writing.{written_none, written_turn}
use Rattle.prover.proofs.elements.fill.Goals as goal

pub loop-k-init : goal.loop-k-init
loop-k-init c = (omega arith, written_none _ _ _)

pub loop-k-preserved : goal.loop-k-preserved
loop-k-preserved c = (omega arith, written_turn c.loop-k.invariant.1 (omega arith) refl c.write.ensures)
