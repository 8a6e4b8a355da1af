-- A worked batch: l_skip 1, n_stack 1; a commitment of a matrix of height 4 and one of two columns of height 1, flagged, and one of a matrix of height 2. Its
-- stackings are accepted, and these are its lists and its stacked matrices.
use mathlib.Core.Path.{◌≡◌, refl}
use mathlib.Core.List.{List, [], ◌∷◌}
use Prim.Native.Nat.{ℕ}
use native.Mathlib.Omega.{arith}
use lib.ListN.{replicate}
use lib.Count.{ones, ones_in, count_trailing_zeros}
use Rattle.algebra.specs.Listed.{listed}
use Rattle.field.specs.Slice.{canonical_words}
use Rattle.layout.specs.Checks.{refuse, or_else, first_of}
use Rattle.layout.specs.Triples.{columns_before}
use Rattle.layout.specs.Placing.{slice_length, round_up, opened, matrix_length, matrix_start}
use Rattle.layout.specs.Refusals.{limits_number, flag_number, columns_in, width_number, column_number, matrix_number, place_number, higher_number, rise_number, laid_number, shape_number}
use Rattle.layout.specs.Logs.{log_word, height_number}
use Rattle.layout.specs.Stacked.{cells_of, cells_before, spread, spread_matrix, stacked_up_to, stacked_matrix}
use Rattle.layout.specs.Stacking.{trace_number, cells_number, stacking_number, filled_by, stacked_into}
use Rattle.reduction.specs.HonestBatch.{Commitment, counts_of, lists_of, all_stacked, Traces}

abbrev first : Commitment
first = record { heights = 1 ∷ 4 ∷ 0 ∷ 2 ∷ 1 ∷ 1 ∷ []; cells = 5 ∷ 6 ∷ 7 ∷ 8 ∷ 9 ∷ 3 ∷ []; lent = replicate 8 77 }

abbrev second : Commitment
second = record { heights = 1 ∷ 2 ∷ 0 ∷ []; cells = 4 ∷ 2 ∷ []; lent = replicate 4 77 }

pub traces : Traces 1 1 first (second ∷ [])
unfolding ones ones_in count_trailing_zeros canonical_words refuse or_else first_of columns_before listed slice_length round_up opened matrix_length matrix_start limits_number flag_number columns_in width_number column_number
    matrix_number place_number higher_number rise_number laid_number shape_number log_word height_number cells_of cells_before trace_number cells_number stacking_number
traces = record { accepted = (refl, (refl, tt)); single = (refl, tt); few = omega arith }

pub batch_lists : ◌≡◌ {A = List (List ℕ)} (counts_of (first ∷ second ∷ []) ∷ lists_of (first ∷ second ∷ []) ∷ [])
    ((2 ∷ 1 ∷ []) ∷ (1 ∷ 2 ∷ 0 ∷ 2 ∷ 0 ∷ 1 ∷ 1 ∷ 1 ∷ 0 ∷ []) ∷ [])
unfolding count_trailing_zeros ones_in ones listed log_word counts_of lists_of
batch_lists = refl

-- the cells of the columns of height 1 stand at a stride of 2, zeros between; the second commitment opens a stack column
pub batch_stacked : all_stacked 1 1 (first ∷ second ∷ []) ≡ 5 ∷ 6 ∷ 7 ∷ 8 ∷ 9 ∷ 0 ∷ 3 ∷ 0 ∷ 4 ∷ 2 ∷ 0 ∷ 0 ∷ []
unfolding ones ones_in count_trailing_zeros canonical_words refuse or_else first_of columns_before listed slice_length round_up opened matrix_length matrix_start limits_number flag_number columns_in width_number column_number
    matrix_number place_number higher_number rise_number laid_number shape_number log_word height_number cells_of cells_before trace_number cells_number stacking_number filled_by stacked_into spread spread_matrix
    stacked_up_to stacked_matrix all_stacked
batch_stacked = refl
