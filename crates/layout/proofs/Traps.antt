-- Document 01's order of numbers on small lists, computed from the definitions. Assumes nothing.
use mathlib.Core.Path.{◌≡◌, refl}
use mathlib.Core.List.{[], ◌∷◌}
use lib.Count.{ones, ones_in, count_trailing_zeros}
use Rattle.algebra.specs.Listed.{listed}
use Rattle.field.specs.Slice.{canonical_words}
use Rattle.layout.specs.Checks.{refuse, or_else, first_of}
use Rattle.layout.specs.Triples.{columns_before}
use Rattle.layout.specs.Placing.{slice_length, round_up, opened, matrix_length, matrix_start}
use Rattle.layout.specs.Refusals.{limits_number, flag_number, columns_in, width_number, column_number, matrix_number, place_number, higher_number, rise_number, laid_number, shape_number, plan_number, triple_number}
use Rattle.layout.specs.Getting.{get_number}
use Rattle.layout.specs.Viewing.{view_number}
use Rattle.layout.specs.Logs.{log_word, height_number}
use Rattle.layout.specs.Stacking.{trace_number, cells_number, stacking_number}
use Rattle.layout.specs.Lists.{commitment_number, counts_number, width_there, later_number, empty_number, there_number, lists_number}

-- stacking asks one bit at width 0 too
height_at_width_0 : stacking_number 0 2 (0 ∷ 3 ∷ 0 ∷ []) [] 0 ≡ 3
unfolding ones ones_in refuse or_else first_of columns_before limits_number flag_number columns_in width_number shape_number height_number trace_number stacking_number
height_at_width_0 = refl

-- 3 comes after 2
columns_before_heights : stacking_number 0 0 (4097 ∷ 3 ∷ 0 ∷ []) [] 0 ≡ 2
unfolding refuse or_else first_of columns_before limits_number flag_number columns_in width_number shape_number trace_number stacking_number
columns_before_heights = refl

-- stacking with no column is 7, and planning is not
no_column : stacking_number 0 2 (0 ∷ 1 ∷ 0 ∷ []) [] 0 ≡ 7
unfolding ones ones_in count_trailing_zeros refuse or_else first_of columns_before listed limits_number flag_number columns_in width_number matrix_number place_number rise_number laid_number shape_number log_word height_number trace_number cells_number stacking_number
no_column = refl

planned_empty : plan_number 0 2 (0 ∷ 99 ∷ 0 ∷ []) ≡ 0
unfolding refuse or_else first_of columns_before limits_number flag_number columns_in width_number matrix_number place_number rise_number laid_number shape_number plan_number
planned_empty = refl

-- a column index past its matrix is 11, not the next matrix's column
past_its_matrix : get_number 1 1 (1 ∷ 2 ∷ 0 ∷ 2 ∷ 0 ∷ 1 ∷ []) 0 1 ≡ 11
unfolding refuse or_else first_of columns_before slice_length round_up opened matrix_length matrix_start limits_number flag_number columns_in width_number column_number matrix_number place_number higher_number rise_number laid_number shape_number plan_number triple_number get_number
past_its_matrix = refl

-- a view of width 0 is 11
view_of_width_0 : view_number 1 1 (0 ∷ 0 ∷ 0 ∷ []) [] 0 ≡ 11
unfolding canonical_words refuse or_else first_of columns_before slice_length round_up opened matrix_length matrix_start limits_number flag_number columns_in width_number matrix_number place_number rise_number laid_number shape_number plan_number triple_number view_number
view_of_width_0 = refl

-- 5 in the first commitment before 4 in the second, and the other way round
five_first : lists_number 0 3 (2 ∷ 1 ∷ []) (1 ∷ 2 ∷ 0 ∷ 1 ∷ 3 ∷ 0 ∷ 1 ∷ 4 ∷ 0 ∷ []) ≡ 5
unfolding refuse or_else first_of columns_before slice_length round_up opened matrix_length matrix_start limits_number flag_number columns_in width_number column_number matrix_number place_number laid_number commitment_number counts_number there_number lists_number
five_first = refl

four_first : lists_number 0 3 (3 ∷ []) (1 ∷ 4 ∷ 0 ∷ 1 ∷ 2 ∷ 0 ∷ 1 ∷ 3 ∷ 0 ∷ []) ≡ 4
unfolding refuse or_else first_of columns_before slice_length round_up opened matrix_length matrix_start limits_number flag_number columns_in width_number column_number matrix_number place_number laid_number commitment_number counts_number there_number lists_number
four_first = refl

-- a later commitment of no column is 7
later_empty : lists_number 0 3 (1 ∷ 1 ∷ []) (1 ∷ 2 ∷ 0 ∷ 0 ∷ 9 ∷ 0 ∷ []) ≡ 7
unfolding refuse or_else first_of columns_before slice_length round_up opened matrix_length matrix_start limits_number flag_number columns_in width_number column_number matrix_number place_number higher_number rise_number laid_number commitment_number counts_number width_there later_number empty_number there_number lists_number
later_empty = refl
