-- `matrix::cell_at` meets its contract: each test by quotients says whether the slice reaches the cell. Assumes nothing.
use mathlib.Core.Path.{refl}
use native.Mathlib.Omega.{arith}
use Prim.Native.Nat.{◌+◌, ◌*◌, ◌<◌}
use lib.ListN.{length}
use Rattle.views.proofs.Cells.{reaches, row_past, column_past, no_column, no_row, no_stride, no_word, word_at}
use Rattle.views.proofs.matrix.cell_at.Goals.{Else-last-row_idx-2}
use Rattle.views.proofs.matrix.cell_at.Goals as goal

-- the cell lies in the slice
inside : (c : Else-last-row_idx-2) → (c.args.col_idx * c.args.height + c.args.row_idx) * c.args.stride < length c.args.values.now
inside c = reaches _ _ _ _ _ (omega (arith, c.if-n-eq0.false)) (omega (arith, c.if-stride-eq0.false)) c.if-height-row_idx.false c.if-last-row_idx.false c.if-last-row_idx-2.false

pub returns-then-width-col_idx : goal.returns-then-width-col_idx
returns-then-width-col_idx c = no_column _ _ _ _ _ _ c.if-width-col_idx.true

pub returns-then-height-row_idx : goal.returns-then-height-row_idx
returns-then-height-row_idx c = no_row _ _ _ _ _ _ c.if-width-col_idx.false c.if-height-row_idx.true

pub returns-then-stride-eq0 : goal.returns-then-stride-eq0
returns-then-stride-eq0 c = no_stride _ _ _ _ _ _ c.if-width-col_idx.false c.if-height-row_idx.false c.if-stride-eq0.true

pub returns-then-n-eq0 : goal.returns-then-n-eq0
returns-then-n-eq0 c = no_word _ _ _ _ _ _ c.if-width-col_idx.false c.if-height-row_idx.false (omega (arith, c.if-stride-eq0.false)) (omega (arith, c.if-n-eq0.true))

pub returns-then-last-row_idx : goal.returns-then-last-row_idx
returns-then-last-row_idx c = no_word _ _ _ _ _ _ c.if-width-col_idx.false c.if-height-row_idx.false (omega (arith, c.if-stride-eq0.false)) (row_past _ _ _ _ _ (omega (arith, c.if-n-eq0.false)) (omega (arith, c.if-stride-eq0.false)) c.if-last-row_idx.true)

pub returns-then-last-row_idx-2 : goal.returns-then-last-row_idx-2
returns-then-last-row_idx-2 c = no_word _ _ _ _ _ _ c.if-width-col_idx.false c.if-height-row_idx.false (omega (arith, c.if-stride-eq0.false)) (column_past _ _ _ _ _ (omega (arith, c.if-n-eq0.false)) (omega (arith, c.if-stride-eq0.false)) c.if-height-row_idx.false c.if-last-row_idx.false c.if-last-row_idx-2.true)

pub overflow_mul-at-2 : goal.overflow_mul-at-2
overflow_mul-at-2 c = omega (arith, inside c)

pub offset_bounds-values-at : goal.offset_bounds-values-at
offset_bounds-values-at c = omega (arith, inside c)

pub bounds-values-at : goal.bounds-values-at
bounds-values-at c = inside (goal.at.bounds-values-at c).Else-last-row_idx-2

pub returns : goal.returns
returns c = word_at _ _ _ _ _ _ c.if-width-col_idx.false c.if-height-row_idx.false _ (omega (arith, c.if-stride-eq0.false)) refl (inside (goal.at.returns c).Else-last-row_idx-2)
