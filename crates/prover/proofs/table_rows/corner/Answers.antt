use Rattle.prover.proofs.TableBlocks.{corner_start, corner_turn, corner_end}
use Rattle.prover.proofs.table_rows.corner.Goals as goal

pub loop-i-preserved : goal.loop-i-preserved
loop-i-preserved c = corner_turn _ _ _ _ _ c.loop-i.invariant c.loop-i-test.true c.load.ensures c.bit_factor-f.ensures c.mul-x.ensures

pub loop-i-init : goal.loop-i-init
loop-i-init c = corner_start _ _ _ _

pub returns : goal.returns
returns c = corner_end _ _ _ _ c.loop-i.invariant c.loop-i-test.false
