-- `stacked_pcs::mat_shape` meets its contract: the matrix is one of the list where it has a place. Assumes nothing.
use mathlib.Core.Path.{◌≡◌, refl}
use mathlib.Core.Bool.{false}
use native.Mathlib.Omega.{arith}
use Rattle.std.specs.Result.{is_err}
use Rattle.layout.specs.Viewing.{mat_place_of}
use Rattle.layout.proofs.Answering.{refused_by}
use Rattle.views.specs.Shapes.{shape_of}
use Rattle.views.proofs.Shapes.{there, log_small, skip_small, shape_is}
use Rattle.views.proofs.stacked_pcs.mat_shape.Goals.{In_ok-mat_place}
use Rattle.views.proofs.stacked_pcs.mat_shape.Goals as goal

-- the matrix has a place: `mat_place` gave no refusal, whatever hands its answer on
placed : (c : In_ok-mat_place) → is_err c.mat_place.result ≡ false
placed c = grind (arith, c.in_ok-mat_place.was)

pub returns-in_err-mat_place : goal.returns-in_err-mat_place
unfolding mat_place_of shape_of
returns-in_err-mat_place c = refused_by _ _ _ _ c.mat_place.ensures (grind (arith, c.in_err-mat_place.was)) c.from_residual.ensures.1 refl

pub overflow_mul-log : goal.overflow_mul-log
overflow_mul-log c = omega (arith, there _ _ _ _ _ c.mat_place.ensures (placed c))

pub overflow_add-log : goal.overflow_add-log
overflow_add-log c = omega (arith, there _ _ _ _ _ c.mat_place.ensures (placed c))

pub offset_bounds-sorted-i : goal.offset_bounds-sorted-i
offset_bounds-sorted-i c = omega (arith, there _ _ _ _ _ c.mat_place.ensures (placed c))

pub bounds-sorted-i : goal.bounds-sorted-i
bounds-sorted-i c = omega (arith, there _ _ _ _ _ c.mat_place.ensures (placed (goal.at.bounds-sorted-i c).In_ok-mat_place))

pub overflow_mul-width : goal.overflow_mul-width
overflow_mul-width c = omega (arith, there _ _ _ _ _ c.mat_place.ensures (placed (goal.at.overflow_mul-width c).In_ok-mat_place))

pub offset_bounds-sorted-i-2 : goal.offset_bounds-sorted-i-2
offset_bounds-sorted-i-2 c = omega (arith, there _ _ _ _ _ c.mat_place.ensures (placed (goal.at.offset_bounds-sorted-i-2 c).In_ok-mat_place))

pub bounds-sorted-i-2 : goal.bounds-sorted-i-2
bounds-sorted-i-2 c = omega (arith, there _ _ _ _ _ c.mat_place.ensures (placed (goal.at.bounds-sorted-i-2 c).In_ok-mat_place))

pub overflow_shl-height : goal.overflow_shl-height
overflow_shl-height c = log_small _ _ _ _ _ c.mat_place.ensures (placed (goal.at.overflow_shl-height c).In_ok-mat_place)

pub overflow_shl-stride : goal.overflow_shl-stride
overflow_shl-stride c = omega (arith, c.saturating_sub.ensures, skip_small _ _ _ _ _ c.mat_place.ensures (placed (goal.at.overflow_shl-stride c).In_ok-mat_place))

pub returns : goal.returns
returns c = shape_is _ _ _ _ _ c.mat_place.ensures (placed (goal.at.returns c).In_ok-mat_place) _ c.saturating_sub.ensures
