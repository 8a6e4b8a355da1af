-- `matrix::height_of` meets its contract. Assumes nothing.
use native.Mathlib.Omega.{arith}
use Rattle.views.proofs.Cells.{no_width, no_apart, too_short, not_whole, whole}
use Rattle.views.proofs.matrix.height_of.Goals as goal

pub returns-then-width-eq0 : goal.returns-then-width-eq0
returns-then-width-eq0 c = no_width _ _ _ c.if-width-eq0.true

pub returns-then-stride-eq0 : goal.returns-then-stride-eq0
returns-then-stride-eq0 c = no_apart _ _ _ c.if-stride-eq0.true

pub returns-then-n-width : goal.returns-then-n-width
returns-then-n-width c = too_short _ _ _ (omega (arith, c.if-width-eq0.false)) (omega (arith, c.if-stride-eq0.false)) c.if-n-width.true

pub returns-then-n-cells-ne0 : goal.returns-then-n-cells-ne0
returns-then-n-cells-ne0 c = not_whole _ _ _ (omega (arith, c.if-width-eq0.false)) (omega (arith, c.if-stride-eq0.false)) c.if-n-cells-ne0.true

pub returns : goal.returns
returns c = whole _ _ _ (omega (arith, c.if-width-eq0.false)) (omega (arith, c.if-stride-eq0.false)) c.if-n-cells-ne0.false
