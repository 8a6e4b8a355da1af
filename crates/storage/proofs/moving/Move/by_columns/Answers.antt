use mathlib.Core.Path.{◌∙◌}
use native.Mathlib.Omega.{arith}
use Rattle.storage.proofs.Grids.{column_at_lem, column_there, columns_turn, columns_end}
use Rattle.storage.proofs.moving.Move.by_columns.Goals as goal

pub along_column-at-requires : goal.along_column-at-requires
along_column-at-requires c = omega (arith, column_there _ _ _ _ _ c.requires.1 c.loop-c-test.true)

pub along_column-there-requires : goal.along_column-there-requires
along_column-there-requires c = omega (arith, column_there _ _ _ _ _ c.requires.2 c.loop-c-test.true)

pub loop-c-preserved : goal.loop-c-preserved
loop-c-preserved c = (omega arith, c.line.auto.to ∙ c.loop-c.invariant.1, columns_turn _ _ _ _ _ _ _ _ _ _ _ _ _ c.pow2-n.ensures (column_at_lem _ _ _ c.requires.3.from c.along_column-at.ensures) (column_at_lem _ _ _ c.requires.3.to c.along_column-there.ensures) c.loop-c.invariant.2 c.line.ensures)

pub returns : goal.returns
returns c = columns_end _ _ _ _ _ _ _ _ _ c.loop-c.invariant.0 c.loop-c-test.false c.loop-c.invariant.2
