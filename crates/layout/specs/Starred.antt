-- The starred value of the layout, a theorem on the definitions: columns 5 6 7 8, then 9, then 3 in the layout of
-- document 01's example.
use Rattle.std.specs.Prelude.{◌≡◌, refl, [], ◌∷◌, replicate}
use Rattle.std.specs.Int.Count.{ones, ones_in, count_trailing_zeros}
use Rattle.algebra.specs.Listed.{listed}
use Rattle.field.specs.Slice.{canonical_words}
use Rattle.layout.specs.Checks.{refuse, or_else, first_of}
use Rattle.layout.specs.Triples.{columns_before}
use Rattle.layout.specs.Placing.{slice_length, round_up, opened, matrix_length, matrix_start}
use Rattle.layout.specs.Refusals.{limits_number, flag_number, columns_in, width_number, column_number, matrix_number, place_number, higher_number, rise_number, laid_number, shape_number}
use Rattle.layout.specs.Logs.{log_word, height_number}
use Rattle.layout.specs.Stacked.{cells_of, cells_before, spread, spread_matrix, stacked_up_to, stacked_matrix}
use Rattle.layout.specs.Stacking.{trace_number, cells_number, stacking_number, filled_by, stacked_into}

pub stacked_example : stacked_into 1 1 (1 ∷ 4 ∷ 0 ∷ 2 ∷ 1 ∷ 1 ∷ []) (5 ∷ 6 ∷ 7 ∷ 8 ∷ 9 ∷ 3 ∷ []) (replicate 8 77) ≡ 5 ∷ 6 ∷ 7 ∷ 8 ∷ 9 ∷ 0 ∷ 3 ∷ 0 ∷ []
unfolding ones ones_in count_trailing_zeros canonical_words refuse or_else first_of columns_before listed slice_length round_up opened matrix_length matrix_start limits_number flag_number columns_in width_number column_number matrix_number place_number higher_number rise_number laid_number shape_number log_word height_number cells_of cells_before spread spread_matrix stacked_up_to stacked_matrix trace_number cells_number stacking_number filled_by stacked_into
stacked_example = refl
