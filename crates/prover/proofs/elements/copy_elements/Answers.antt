use Rattle.std.proofs.Common.{arith}
use Rattle.prover.proofs.Writing.{written_none, written_end}
use Rattle.prover.proofs.CallLaws.{copied_canonical, copied_turn}
use Rattle.prover.proofs.elements.copy_elements.Goals as goal

pub loop-i-init : goal.loop-i-init
loop-i-init c = (omega arith, written_none _ _ _)

pub read-e-requires : goal.read-e-requires
read-e-requires c = omega (arith, c.requires.held.room)

pub write-requires : goal.write-requires
write-requires c = record { i_in_bounds = omega (arith, c.loop-i.invariant.1.length_kept, c.requires.n_in_bounds); canonical = copied_canonical _ _ _ c.requires.held c.loop-i-test.true c.read-e.ensures }

pub loop-i-preserved : goal.loop-i-preserved
loop-i-preserved c = (omega arith, copied_turn _ c.loop-i.invariant.1 (omega (arith, c.requires.n_in_bounds)) c.read-e.ensures c.write.ensures)

pub shape_of-to : goal.shape_of-to
shape_of-to c = c.loop-i.invariant.1.length_kept

pub returns : goal.returns
returns c = written_end c.loop-i.invariant.0 c.loop-i-test.false c.loop-i.invariant.1
