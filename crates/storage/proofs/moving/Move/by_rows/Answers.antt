use mathlib.Core.Path.{◌∙◌}
use native.Mathlib.Omega.{arith}
use Rattle.storage.proofs.Grids.{row_at, rows_turn, rows_end}
use Rattle.storage.proofs.moving.Move.by_rows.Goals as goal

pub loop-b-preserved : goal.loop-b-preserved
loop-b-preserved c = (omega (arith, c.pow2-n.ensures), c.line.auto.to ∙ c.loop-b.invariant.1, rows_turn _ _ _ _ _ _ _ _ _ _ _ _ _ (rw c.pow2-n.ensures at c.loop-b-test.true) (row_at _ _ _ _ c.requires.4.from c.reversal-turned.ensures c.along_row-at.ensures) (row_at _ _ _ _ c.requires.4.to c.reversal-turned.ensures c.along_row-there.ensures) c.loop-b.invariant.2 c.line.ensures)

pub returns : goal.returns
returns c = rows_end _ _ _ _ _ _ _ _ c.loop-b.invariant.0 (rw c.pow2-n.ensures at c.loop-b-test.false) c.loop-b.invariant.2
