use mathlib.Core.Path.{refl}
use native.Mathlib.Omega.{arith}
use Rattle.layout.proofs.Spreads.{spread_start, cell-place, spread-length, spread_turn, spread_end}
use Rattle.layout.proofs.stacking.spread_at.Goals as goal

pub loop-t-init : goal.loop-t-init
loop-t-init c = spread_start _ _ _ _ _ _ c.requires

pub overflow_add-out : goal.overflow_add-out
overflow_add-out c = omega (arith, c.requires.there)

pub offset_bounds-cells-from : goal.offset_bounds-cells-from
offset_bounds-cells-from c = omega (arith, c.requires.there, c.well_formed)

pub bounds-cells-from : goal.bounds-cells-from
bounds-cells-from c = omega (arith, c.requires.there)

pub overflow_mul-out : goal.overflow_mul-out
overflow_mul-out c = omega (arith, cell-place _ _ _ _ _ _ c.requires _ _ c.loop-t.invariant c.loop-t-test.true, c.well_formed)

pub overflow_add-out-in-loop-t : goal.overflow_add-out-in-loop-t
overflow_add-out-in-loop-t c = omega (arith, cell-place _ _ _ _ _ _ c.requires _ _ c.loop-t.invariant c.loop-t-test.true, c.well_formed)

pub offset_bounds-out-at : goal.offset_bounds-out-at
offset_bounds-out-at c = omega (arith, cell-place _ _ _ _ _ _ c.requires _ _ c.loop-t.invariant c.loop-t-test.true, c.well_formed)

pub bounds-out-at : goal.bounds-out-at
bounds-out-at c = omega (arith, cell-place _ _ _ _ _ _ c.requires _ _ c.loop-t.invariant c.loop-t-test.true, spread-length _ _ _ _ _ _ c.requires _ _ c.loop-t.invariant)

pub loop-t-preserved : goal.loop-t-preserved
loop-t-preserved c = spread_turn _ _ _ _ _ _ c.requires _ _ c.loop-t.invariant _ c.loop-t-test.true refl

pub shape_of-out : goal.shape_of-out
shape_of-out c = spread-length _ _ _ _ _ _ c.requires _ _ c.loop-t.invariant

pub returns : goal.returns
returns c = spread_end _ _ _ _ _ _ c.requires _ _ c.loop-t.invariant c.loop-t-test.false
