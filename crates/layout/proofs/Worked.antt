-- Each call of this crate on an accepted and a refused input, computed through its definition: document 01's example, l_skip 1 and n_stack 1, a
-- matrix of one column of 4 rows and one of two columns of 1 row.
use Prim.Native.Nat.{ℕ}
use mathlib.Core.Path.{◌≡◌, refl}
use mathlib.Core.List.{List, [], ◌∷◌}
use lib.ListN.{replicate}
use lib.Count.{ones, ones_in, count_trailing_zeros}
use Rattle.algebra.specs.Listed.{listed}
use Rattle.field.specs.Slice.{canonical_words}
use Rattle.std.specs.declared.result.Result.{Result}
use Rattle.std.specs.declared.result.Result.TheVariants.{Ok, Err}
use Rattle.field.specs.declared.answer.Refusal.{Refusal}
use Rattle.field.specs.declared.answer.Refusal.TheVariants.{LimitExceeded, WrongLength, NoSuchColumn, FinalSumMismatch}
use Rattle.field.specs.Number.{settled, refusal_of, refusals}
use Rattle.layout.specs.declared.columns.Column.{Column}
use Rattle.layout.specs.declared.runs.RunLists.{RunLists}
use Rattle.layout.specs.declared.stacked_pcs.StackedLayout.{StackedLayout}
use Rattle.layout.specs.declared.stacked_pcs.StackedSlice.{StackedSlice}
use Rattle.layout.specs.declared.stacked_pcs.MatPlace.{MatPlace}
use Rattle.layout.specs.Answers.{answer_of}
use Rattle.layout.specs.Checks.{refuse, or_else, first_of}
use Rattle.layout.specs.Triples.{columns_before}
use Rattle.layout.specs.Placing.{slice_length, round_up, opened, matrix_length, matrix_start}
use Rattle.layout.specs.Refusals.{limits_number, flag_number, columns_in, width_number, column_number, matrix_number, place_number, higher_number, rise_number, laid_number, shape_number, plan_number, matrices_number, triple_number}
use Rattle.layout.specs.Slice.{slice_at}
use Rattle.layout.specs.Columns.{column_from, column_end, end_mark, located, is_column, is_placed, first_column, next_column, outside, oversized, strays, sought, walk_first, column_after, walk_next}
use Rattle.layout.specs.Packed.{packed, packed_log, record_word}
use Rattle.layout.specs.Planning.{planning_number, done_layout, laid_out, planned_of, planned_into}
use Rattle.layout.specs.Getting.{get_number, got_of}
use Rattle.layout.specs.Viewing.{view_number, mat_place_of, view_of}
use Rattle.layout.specs.Logs.{log_word, height_number}
use Rattle.layout.specs.Stacked.{cells_of, cells_before}
use Rattle.layout.specs.Stacking.{trace_number, cells_number, stacking_number, filled_by, stacked_of, stacked_into}
use Rattle.layout.specs.Lists.{commitment_number, counts_number, width_there, later_number, empty_number, there_number, lists_number, lists_length, run_lists}

-- the matrices with log heights, those with heights, and the stacked matrix
abbrev list : List ℕ
list = 1 ∷ 2 ∷ 0 ∷ 2 ∷ 0 ∷ 1 ∷ []

abbrev traces : List ℕ
traces = 1 ∷ 4 ∷ 0 ∷ 2 ∷ 1 ∷ 1 ∷ []

abbrev stacked : List ℕ
stacked = 5 ∷ 6 ∷ 7 ∷ 8 ∷ 9 ∷ 0 ∷ 3 ∷ 0 ∷ []

abbrev plan : ℕ → ℕ → ℕ → Result StackedLayout Refusal
plan width height columns = Ok (record { width = width; height = height; columns = columns })

abbrev got : ℕ → ℕ → ℕ → Result StackedSlice Refusal
got column row log = Ok (record { col_idx = column; row_idx = row; log_height = log })

abbrev found : ℕ → ℕ → Result MatPlace Refusal
found start len = Ok (record { start = start; len = len })

-- planning: three records and stack width 2; 9 where there is a word too few, and the words stay
planned : ◌≡◌ {A = List (Result StackedLayout Refusal)} (planned_of 1 1 list 6 ∷ planned_of 1 1 list 5 ∷ planned_of 11 1 list 6 ∷ []) (plan 2 4 3 ∷ Err WrongLength ∷ Err LimitExceeded ∷ [])
unfolding refuse or_else first_of columns_before slice_length round_up opened matrix_length matrix_start limits_number flag_number columns_in width_number column_number matrix_number place_number higher_number rise_number
    laid_number shape_number plan_number triple_number planning_number done_layout laid_out planned_of settled refusal_of refusals
planned = refl

planned-records : ◌≡◌ {A = List (List ℕ)} (planned_into 1 1 list (replicate 6 7) ∷ planned_into 1 1 list (7 ∷ 7 ∷ 7 ∷ []) ∷ [])
    ((0 ∷ 1152921504606846976 ∷ 281474993487872 ∷ 0 ∷ 281543712964610 ∷ 0 ∷ []) ∷ (7 ∷ 7 ∷ 7 ∷ []) ∷ [])
unfolding refuse or_else first_of columns_before listed slice_length round_up opened matrix_length matrix_start limits_number flag_number columns_in width_number column_number matrix_number place_number higher_number rise_number
    laid_number shape_number plan_number triple_number planning_number planned_into record_word packed packed_log located
planned-records = refl

-- `get`: the last column, and one past it
gets : ◌≡◌ {A = List (Result StackedSlice Refusal)} (got_of 1 1 list 1 1 ∷ got_of 1 1 list 1 2 ∷ []) (got 1 2 0 ∷ Err NoSuchColumn ∷ [])
unfolding refuse or_else first_of columns_before slice_length round_up opened matrix_length matrix_start limits_number flag_number columns_in width_number column_number matrix_number place_number higher_number rise_number
    laid_number shape_number plan_number triple_number get_number got_of slice_at settled refusal_of refusals
gets = refl

-- `stacked_matrix`: done, its slice in `Starred`; 9 for a cell too few, and the slice as it was
stackings : ◌≡◌ {A = List (Result StackedLayout Refusal)} (stacked_of 1 1 traces (5 ∷ 6 ∷ 7 ∷ 8 ∷ 9 ∷ 3 ∷ []) 8 ∷ stacked_of 1 1 traces (5 ∷ 6 ∷ 7 ∷ 8 ∷ 9 ∷ []) 8 ∷ []) (plan 2 4 3 ∷ Err WrongLength ∷ [])
unfolding ones ones_in count_trailing_zeros canonical_words refuse or_else first_of columns_before listed slice_length round_up opened matrix_length matrix_start limits_number flag_number columns_in width_number column_number
    matrix_number place_number higher_number rise_number laid_number shape_number log_word height_number cells_of cells_before trace_number cells_number stacking_number done_layout laid_out stacked_of settled refusal_of refusals
stackings = refl

stacking_refused : stacked_into 1 1 traces (5 ∷ 6 ∷ 7 ∷ 8 ∷ 9 ∷ []) (replicate 8 77) ≡ replicate 8 77
unfolding ones ones_in count_trailing_zeros canonical_words refuse or_else first_of columns_before listed slice_length round_up opened matrix_length matrix_start limits_number flag_number columns_in width_number column_number
    matrix_number place_number higher_number rise_number laid_number shape_number log_word height_number cells_of cells_before trace_number cells_number stacking_number filled_by stacked_into
stacking_refused = refl

-- `mat_place` and `mat_view`: the second matrix, and a third
places : ◌≡◌ {A = List (Result MatPlace Refusal)} (mat_place_of 1 1 list stacked 1 ∷ mat_place_of 1 1 list stacked 2 ∷ []) (found 4 4 ∷ Err NoSuchColumn ∷ [])
unfolding canonical_words refuse or_else first_of columns_before slice_length round_up opened matrix_length matrix_start limits_number flag_number columns_in width_number column_number matrix_number place_number higher_number
    rise_number laid_number shape_number plan_number triple_number view_number mat_place_of settled refusal_of refusals
places = refl

views : ◌≡◌ {A = List (List ℕ)} (view_of 1 1 list stacked 1 ∷ view_of 1 1 list stacked 2 ∷ []) ((9 ∷ 0 ∷ 3 ∷ 0 ∷ []) ∷ [] ∷ [])
unfolding canonical_words refuse or_else first_of columns_before slice_length round_up opened matrix_length matrix_start limits_number flag_number columns_in width_number column_number matrix_number place_number higher_number
    rise_number laid_number shape_number plan_number triple_number view_number view_of
views = refl

-- lists that are refused, by 1 for a flag, 2, 5 and 6
abbrev flagged : List ℕ
flagged = 1 ∷ 2 ∷ 0 ∷ 2 ∷ 0 ∷ 2 ∷ []

abbrev many : List ℕ
many = 4096 ∷ 2 ∷ 0 ∷ 1 ∷ 0 ∷ 1 ∷ []

abbrev over : List ℕ
over = 1 ∷ 0 ∷ 0 ∷ 1 ∷ 2 ∷ 0 ∷ []

abbrev rising : List ℕ
rising = 2 ∷ 0 ∷ 0 ∷ 1 ∷ 2 ∷ 0 ∷ []

numbers : ◌≡◌ {A = List ℕ} (matrices_number 1 1 2 list ∷ matrices_number 1 1 2 flagged ∷ matrices_number 1 1 2 many ∷ matrices_number 1 1 2 over ∷ matrices_number 1 1 2 rising ∷ matrices_number 1 1 1 (1 ∷ 3 ∷ 0 ∷ []) ∷ []) (0 ∷ 1 ∷ 2 ∷ 5 ∷ 6 ∷ 4 ∷ [])
unfolding refuse or_else first_of columns_before slice_length round_up opened matrix_length matrix_start limits_number flag_number columns_in width_number column_number matrix_number place_number higher_number rise_number
    laid_number matrices_number
numbers = refl

-- `first_column`: on the list; the end mark past a limit and on each of these
decided_firsts : ◌≡◌ {A = List Column} (first_column 1 1 2 list ∷ first_column 11 1 2 list ∷ first_column 1 1 2 flagged ∷ first_column 1 1 2 many ∷ first_column 1 1 2 over ∷ first_column 1 1 2 rising ∷ [])
    (column_from list 0 0 0 ∷ column_end 2 0 ∷ column_end 2 0 ∷ column_end 2 0 ∷ column_end 2 0 ∷ column_end 2 0 ∷ [])
unfolding refuse or_else first_of columns_before slice_length round_up opened matrix_length matrix_start limits_number flag_number columns_in width_number column_number matrix_number place_number higher_number rise_number
    laid_number matrices_number located first_column
decided_firsts = refl

-- `next_column`: from the first column on to the end and no further
decided_nexts : ◌≡◌ {A = List Column} (next_column 1 1 2 list (column_from list 0 0 0) ∷ next_column 1 1 2 list (column_from list 1 0 4) ∷ next_column 1 1 2 list (column_from list 1 1 6) ∷ next_column 1 1 2 list (column_end 2 8) ∷ [])
    (column_from list 1 0 4 ∷ column_from list 1 1 6 ∷ column_end 2 8 ∷ end_mark list ∷ [])
unfolding refuse or_else first_of columns_before slice_length round_up opened matrix_length matrix_start limits_number flag_number columns_in width_number column_number matrix_number place_number higher_number rise_number
    laid_number matrices_number located is_column is_placed next_column
decided_nexts = refl

-- the end mark from another cell, from a column past the width, and from a column of a list that is refused
decided_strays : ◌≡◌ {A = List Column} (next_column 1 1 2 list (column_from list 1 0 5) ∷ next_column 1 1 2 list (column_from list 1 2 8) ∷ next_column 1 1 2 rising (column_from rising 0 0 0) ∷ []) (end_mark list ∷ end_mark list ∷ column_end 2 0 ∷ [])
unfolding refuse or_else first_of columns_before slice_length round_up opened matrix_length matrix_start limits_number flag_number columns_in width_number column_number matrix_number place_number higher_number rise_number
    laid_number matrices_number located is_column is_placed next_column
decided_strays = refl

-- `walk_first_lem`: on the list, past a limit, and where the first matrix has a column too high or one too many
firsts : ◌≡◌ {A = List Column} (walk_first 1 1 2 list ∷ walk_first 11 1 2 list ∷ walk_first 1 1 1 (1 ∷ 3 ∷ 0 ∷ []) ∷ walk_first 1 1 1 (4097 ∷ 0 ∷ 0 ∷ []) ∷ [])
    (column_from list 0 0 0 ∷ column_end 2 0 ∷ column_end 1 0 ∷ column_end 1 0 ∷ [])
unfolding walk_first outside oversized sought limits_number refuse or_else
firsts = refl

-- `walk_next`: to the last column, past it, and from there on
nexts : ◌≡◌ {A = List Column} (walk_next 1 1 2 list (column_from list 1 0 4) ∷ walk_next 1 1 2 list (column_from list 1 1 6) ∷ walk_next 1 1 2 list (column_end 2 8) ∷ walk_next 1 1 2 list (end_mark list) ∷ [])
    (column_from list 1 1 6 ∷ column_end 2 8 ∷ end_mark list ∷ end_mark list ∷ [])
unfolding walk_next column_after strays is_column outside oversized sought limits_number refuse or_else slice_length round_up opened
nexts = refl

-- the end mark from a column past the width, from another log height, from a cell that no plan has, and before a matrix that is too high
strayed : ◌≡◌ {A = List Column} (walk_next 1 1 2 list (column_from list 1 2 8) ∷ walk_next 1 1 2 list (record { matrix = 1; column = 0; start = 4; log = 1; flag = 1 }) ∷ walk_next 1 1 2 list (column_from list 1 0 1152921504606846977) ∷ walk_next 1 1 2 (1 ∷ 2 ∷ 0 ∷ 1 ∷ 3 ∷ 0 ∷ []) (column_from list 0 0 0) ∷ [])
    (end_mark list ∷ end_mark list ∷ end_mark list ∷ column_end 2 0 ∷ [])
unfolding walk_next column_after strays is_column outside oversized sought limits_number refuse or_else slice_length round_up opened
strayed = refl

-- `read_lists`: one commitment, and a word after its last matrix
lists : ◌≡◌ {A = List (Result RunLists Refusal)} (run_lists 1 1 (2 ∷ []) list ∷ run_lists 1 1 (2 ∷ []) (1 ∷ 2 ∷ 0 ∷ 2 ∷ 0 ∷ 1 ∷ 9 ∷ []) ∷ [])
    (Ok (record { length = Ok tt; first = 2; columns = 3; stacked = 2 }) ∷ Ok (record { length = Err WrongLength; first = 0; columns = 0; stacked = 0 }) ∷ [])
unfolding refuse or_else first_of columns_before slice_length round_up opened matrix_length matrix_start limits_number flag_number columns_in width_number column_number matrix_number place_number higher_number rise_number
    laid_number commitment_number counts_number width_there later_number empty_number there_number lists_number lists_length run_lists answer_of settled refusal_of refusals
lists = refl

-- `answer`: the last number of the table, and one past it
answered : ◌≡◌ {A = List (Result (Unit {0}) Refusal)} (answer_of 0 ∷ answer_of 14 ∷ answer_of 15 ∷ []) (Ok tt ∷ Err FinalSumMismatch ∷ Err FinalSumMismatch ∷ [])
unfolding answer_of settled refusal_of refusals
answered = refl
