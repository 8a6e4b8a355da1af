use mathlib.Core.Path.{refl}
use native.Mathlib.Omega.{arith}
use Rattle.layout.specs.Stacked.{cells_before}
use Rattle.layout.proofs.Turns.{asks}
use Rattle.layout.proofs.Cells.{cells_turn, cells_small', cells_end}
use Rattle.layout.proofs.stacking.cell_count.Goals as goal

pub loop-i-init : goal.loop-i-init
unfolding cells_before
loop-i-init c = (omega arith, omega arith, refl)

pub cells_of-n-requires : goal.cells_of-n-requires
cells_of-n-requires c = asks _ _ _ _ _ c.requires c.loop-i-test.true refl

pub overflow_add-n : goal.overflow_add-n
overflow_add-n c = omega (arith, cells_small' _ _ _ c.requires _ _ _ _ c.loop-i-test.true c.loop-i.invariant.2 refl c.cells_of-n.ensures c.loop-i.invariant.1, c.requires.shaped.few, c.loop-i-test.true)

pub loop-i-preserved : goal.loop-i-preserved
loop-i-preserved c = (omega arith, cells_small' _ _ _ c.requires _ _ _ _ c.loop-i-test.true c.loop-i.invariant.2 refl c.cells_of-n.ensures c.loop-i.invariant.1, cells_turn _ _ _ c.requires _ _ _ _ c.loop-i-test.true c.loop-i.invariant.2 refl c.cells_of-n.ensures)

pub returns : goal.returns
returns c = cells_end _ _ _ c.loop-i.invariant.2 c.loop-i.invariant.0 c.loop-i-test.false
