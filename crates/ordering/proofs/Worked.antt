-- Small instances of the promise, accepted and refused, worked out by computing from the definitions. Assumes nothing.
use Prim.Native.Nat.{ℕ}
use mathlib.Core.Path.{◌≡◌, refl}
use mathlib.Core.List.{List, [], ◌∷◌}
use lib.ListN.{replicate}
use Rattle.algebra.specs.Listed.{listed}
use Rattle.field.specs.declared.answer.Refusal.{Refusal}
use Rattle.std.specs.declared.result.Result.{Result}
use Rattle.field.specs.declared.answer.Refusal.TheVariants.{LimitExceeded, LayoutHeightExceeded, WrongLength}
use Rattle.std.specs.declared.result.Result.TheVariants.{Ok, Err}
use Rattle.layout.specs.declared.stacked_pcs.StackedLayout.{StackedLayout}
use Rattle.field.specs.Number.{refusals, refusal_of, settled}
use Rattle.layout.specs.Checks.{refuse, or_else, first_of}
use Rattle.layout.specs.Triples.{columns_before}
use Rattle.layout.specs.Placing.{slice_length, round_up, opened, matrix_length, matrix_start}
use Rattle.layout.specs.Refusals.{limits_number, flag_number, columns_in, width_number, column_number, matrix_number, place_number, higher_number, rise_number, laid_number, shape_number, plan_number, triple_number}
use Rattle.layout.specs.Columns.{located}
use Rattle.layout.specs.Packed.{packed, packed_log, record_word}
use Rattle.layout.specs.Planning.{planning_number, done_layout, laid_out, planned_into}
use Rattle.ordering.specs.Ordered.{key_at, placed, placed_up_to, positions, ordered_word, ordered}
use Rattle.ordering.specs.Unsorted.{in_order_number, unsorted_number, unsorted_of, unless_refused, arrivals_into, unsorted_into}

-- five matrices: one of width 0 and log height 7, and three log heights of which one comes twice
abbrev list : List ℕ
list = 2 ∷ 0 ∷ 1 ∷ 1 ∷ 3 ∷ 0 ∷ 0 ∷ 7 ∷ 0 ∷ 1 ∷ 2 ∷ 1 ∷ 2 ∷ 2 ∷ 0 ∷ []

-- four of one height, whose widths rise and fall
abbrev level : List ℕ
level = 1 ∷ 1 ∷ 0 ∷ 2 ∷ 1 ∷ 1 ∷ 0 ∷ 1 ∷ 0 ∷ 2 ∷ 1 ∷ 0 ∷ []

-- a flag of 2 at width 0, a column too high, and a word after the last matrix
abbrev flagged : List ℕ
flagged = 2 ∷ 0 ∷ 1 ∷ 0 ∷ 7 ∷ 2 ∷ []

abbrev high : List ℕ
high = 1 ∷ 0 ∷ 0 ∷ 1 ∷ 3 ∷ 0 ∷ []

abbrev longer : List ℕ
longer = 1 ∷ 0 ∷ 0 ∷ 1 ∷ []

abbrev plan : ℕ → ℕ → ℕ → StackedLayout
plan width height columns = record { width = width; height = height; columns = columns }

in_order : ◌≡◌ {A = List (List ℕ)} (positions list ∷ ordered list ∷ []) ((2 ∷ 1 ∷ 4 ∷ 3 ∷ 0 ∷ []) ∷ (0 ∷ 7 ∷ 0 ∷ 1 ∷ 3 ∷ 0 ∷ 2 ∷ 2 ∷ 0 ∷ 1 ∷ 2 ∷ 1 ∷ 2 ∷ 0 ∷ 1 ∷ []) ∷ [])
unfolding key_at placed placed_up_to ordered_word listed
in_order = refl

-- the wider first, then the earlier arrival, and no column last
wider_first : ◌≡◌ {A = List (List ℕ)} (positions level ∷ ordered level ∷ []) ((1 ∷ 3 ∷ 0 ∷ 2 ∷ []) ∷ (2 ∷ 1 ∷ 1 ∷ 2 ∷ 1 ∷ 0 ∷ 1 ∷ 1 ∷ 0 ∷ 0 ∷ 1 ∷ 0 ∷ []) ∷ [])
unfolding key_at placed placed_up_to ordered_word listed
wider_first = refl

answers_given : ◌≡◌ {A = List (Result StackedLayout Refusal)} (unsorted_of 1 2 list 5 12 ∷ unsorted_of 1 2 flagged 2 4 ∷ unsorted_of 0 2 high 2 4 ∷ unsorted_of 0 2 longer 1 2 ∷ unsorted_of 1 2 list 4 12 ∷ unsorted_of 1 2 list 5 11 ∷ unsorted_of 0 2 [] 0 0 ∷ [])
    (Ok (plan 3 8 6) ∷ Err LimitExceeded ∷ Err LayoutHeightExceeded ∷ Err WrongLength ∷ Err WrongLength ∷ Err WrongLength ∷ Ok (plan 0 4 0) ∷ [])
unfolding refuse or_else first_of columns_before slice_length round_up opened matrix_length matrix_start limits_number flag_number columns_in width_number column_number matrix_number place_number higher_number rise_number
    laid_number shape_number plan_number triple_number planning_number key_at placed placed_up_to ordered_word listed in_order_number unsorted_number done_layout laid_out unsorted_of refusals refusal_of settled
answers_given = refl

-- the positions; as they were where a flag, a height, a word too many or a place too few refuses
arrivals_left : ◌≡◌ {A = List (List ℕ)} (arrivals_into 1 2 list (7 ∷ 7 ∷ 7 ∷ 7 ∷ 7 ∷ []) 12 ∷ arrivals_into 1 2 flagged (7 ∷ 7 ∷ []) 4 ∷ arrivals_into 0 2 high (7 ∷ 7 ∷ []) 4 ∷ arrivals_into 0 2 longer (7 ∷ []) 2 ∷ arrivals_into 1 2 list (7 ∷ 7 ∷ []) 12 ∷ [])
    ((2 ∷ 1 ∷ 4 ∷ 3 ∷ 0 ∷ []) ∷ (7 ∷ 7 ∷ []) ∷ (7 ∷ 7 ∷ []) ∷ (7 ∷ []) ∷ (7 ∷ 7 ∷ []) ∷ [])
unfolding refuse or_else first_of columns_before slice_length round_up opened matrix_length matrix_start limits_number flag_number columns_in width_number column_number matrix_number place_number higher_number rise_number
    laid_number shape_number plan_number triple_number planning_number key_at placed placed_up_to ordered_word listed in_order_number unsorted_number unless_refused arrivals_into
arrivals_left = refl

records-left : ◌≡◌ {A = List (List ℕ)} (unsorted_into 1 2 list 5 (replicate 12 7) ∷ unsorted_into 1 2 flagged 2 (replicate 4 7) ∷ unsorted_into 0 2 high 2 (replicate 4 7) ∷ unsorted_into 0 2 longer 1 (7 ∷ 7 ∷ []) ∷ unsorted_into 1 2 list 5 (7 ∷ 7 ∷ []) ∷ [])
    ((281474976710656 ∷ 1729382256910270464 ∷ 562949970198528 ∷ 1152921504606846976 ∷ 563018689675268 ∷ 1152921504606846976 ∷ 844424963686400 ∷ 1152921504606846976 ∷ 1125899940397060 ∷ 0 ∷ 1125968659873798 ∷ 0 ∷ []) ∷ replicate 4 7 ∷ replicate 4 7 ∷ (7 ∷ 7 ∷ []) ∷ (7 ∷ 7 ∷ []) ∷ [])
unfolding refuse or_else first_of columns_before slice_length round_up opened matrix_length matrix_start limits_number flag_number columns_in width_number column_number matrix_number place_number higher_number rise_number
    laid_number shape_number plan_number triple_number planning_number key_at placed placed_up_to ordered_word listed in_order_number unsorted_number unless_refused unsorted_into record_word packed packed_log located
records-left = refl

-- of one height: the records of the new order, and those that the old call gives the list as it came
as_it_came : ◌≡◌ {A = List (List ℕ)} (unsorted_into 0 2 level 4 (replicate 10 7) ∷ planned_into 0 2 level (replicate 10 7) ∷ [])
    ((0 ∷ 576460752303423488 ∷ 68719476738 ∷ 576460752303423488 ∷ 281474993487872 ∷ 576460752303423488 ∷ 281543712964610 ∷ 576460752303423488 ∷ 562949986975744 ∷ 576460752303423488 ∷ []) ∷ (0 ∷ 576460752303423488 ∷ 281474976710658 ∷ 576460752303423488 ∷ 281543712964608 ∷ 576460752303423488 ∷ 844424946909186 ∷ 576460752303423488 ∷ 844493683163136 ∷ 576460752303423488 ∷ []) ∷ [])
unfolding refuse or_else first_of columns_before slice_length round_up opened matrix_length matrix_start limits_number flag_number columns_in width_number column_number matrix_number place_number higher_number rise_number
    laid_number shape_number plan_number triple_number planning_number key_at placed placed_up_to ordered_word listed in_order_number unsorted_number unless_refused unsorted_into planned_into record_word packed packed_log located
as_it_came = refl

-- lists that rise: document 01's example of 5, and its list turned round
turned : ◌≡◌ {A = List (List ℕ)} (unsorted_into 0 3 (1 ∷ 2 ∷ 0 ∷ 1 ∷ 3 ∷ 0 ∷ []) 2 (replicate 4 7) ∷ unsorted_into 1 1 (2 ∷ 0 ∷ 1 ∷ 1 ∷ 2 ∷ 0 ∷ []) 2 (replicate 6 7) ∷ [])
    ((0 ∷ 1729382256910270464 ∷ 281474993487872 ∷ 1152921504606846976 ∷ []) ∷ (0 ∷ 1152921504606846976 ∷ 281474993487872 ∷ 0 ∷ 281543712964610 ∷ 0 ∷ []) ∷ [])
unfolding refuse or_else first_of columns_before slice_length round_up opened matrix_length matrix_start limits_number flag_number columns_in width_number column_number matrix_number place_number higher_number rise_number
    laid_number shape_number plan_number triple_number planning_number key_at placed placed_up_to ordered_word listed in_order_number unsorted_number unless_refused unsorted_into record_word packed packed_log located
turned = refl

-- the order of the numbers: 1 before 2, 2 before 4, 4 before 9; the widest and highest twice is 2
numbers : ◌≡◌ {A = List ℕ} (unsorted_number 0 2 (4097 ∷ 3 ∷ 2 ∷ 1 ∷ []) 0 0 ∷ unsorted_number 0 2 (4097 ∷ 3 ∷ 1 ∷ 1 ∷ []) 0 0 ∷ unsorted_number 0 2 (1 ∷ 0 ∷ 0 ∷ 1 ∷ 3 ∷ 0 ∷ 1 ∷ []) 0 0 ∷ unsorted_number 0 0 (0 ∷ 4294967295 ∷ 0 ∷ []) 1 0 ∷ unsorted_number 0 2 (4294967295 ∷ 4294967295 ∷ 1 ∷ 4294967295 ∷ 4294967295 ∷ 1 ∷ []) 2 0 ∷ []) (1 ∷ 2 ∷ 4 ∷ 0 ∷ 2 ∷ [])
unfolding refuse or_else first_of columns_before slice_length round_up opened matrix_length matrix_start limits_number flag_number columns_in width_number column_number matrix_number place_number higher_number rise_number
    laid_number shape_number plan_number triple_number planning_number key_at placed placed_up_to ordered_word listed in_order_number unsorted_number
numbers = refl
