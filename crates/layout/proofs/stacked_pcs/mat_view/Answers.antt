-- `stacked_pcs::mat_view` meets its contract: the place lies in the stacked matrix. Assumes nothing.
use mathlib.Core.Path.{sym, ◌∙◌}
use native.Mathlib.Omega.{arith}
use Rattle.layout.proofs.Parts.{part-inside, part_is, part_none}
use Rattle.layout.proofs.stacked_pcs.mat_view.Goals as goal

pub overflow_add-result : goal.overflow_add-result
overflow_add-result c = omega (arith, part-inside _ _ _ _ _ _ (sym c.mat_place.ensures ∙ c.in-Ok.is))

pub offset_bounds-stacked_matrix-place : goal.offset_bounds-stacked_matrix-place
offset_bounds-stacked_matrix-place c = omega (arith, part-inside _ _ _ _ _ _ (sym c.mat_place.ensures ∙ c.in-Ok.is), c.well_formed)

pub slice_bounds-result-end : goal.slice_bounds-result-end
slice_bounds-result-end c = part-inside _ _ _ _ _ _ (sym c.mat_place.ensures ∙ c.in-Ok.is)

pub returns-in-Ok : goal.returns-in-Ok
returns-in-Ok c = part_is _ _ _ _ _ _ (sym c.mat_place.ensures ∙ c.in-Ok.is)

pub returns-in-Err : goal.returns-in-Err
returns-in-Err c = part_none _ _ _ _ _ (sym c.mat_place.ensures ∙ c.in-Err.is)
