-- Each call of this crate on a text of document 01's form and on one of another, computed through its definition: `1 1`, `1 2 0`, `2 0 1`.
use Prim.Native.Nat.{ℕ}
use mathlib.Core.Path.{◌≡◌, refl}
use mathlib.Core.Bool.{Bool, true, false}
use mathlib.Core.List.{List, [], ◌∷◌, ◌++◌}
use lib.ListN.{length, replicate}
use Rattle.algebra.specs.Listed.{listed}
use Rattle.field.specs.declared.answer.Refusal.TheVariants.{LimitExceeded}
use Rattle.field.specs.declared.answer.Refusal.{Refusal}
use Rattle.field.specs.Number.{settled}
use Rattle.std.specs.declared.result.Result.{Result}
use Rattle.std.specs.declared.result.Result.TheVariants.{Ok, Err}
use Rattle.text.specs.Reading.{is_digit}
use Rattle.text.specs.Printed.{digit_count, decimal_of, hexadecimal_of, record_of}
use Rattle.layout.specs.declared.stacked_pcs.StackedLayout.{StackedLayout}
use Rattle.layout.specs.Checks.{refuse, or_else, first_of}
use Rattle.layout.specs.Triples.{columns_before}
use Rattle.layout.specs.Placing.{slice_length, round_up, opened, matrix_length, matrix_start}
use Rattle.layout.specs.Refusals.{limits_number, flag_number, columns_in, width_number, column_number, matrix_number, place_number, higher_number, rise_number, laid_number, shape_number, plan_number, triple_number}
use Rattle.layout.specs.Columns.{located}
use Rattle.layout.specs.Packed.{packed, packed_log, record_word}
use Rattle.layout.specs.Planning.{planning_number, done_layout, laid_out, planned_of, planned_into}
use Rattle.plan_text.specs.declared.Reading.TheVariants.{Between, Wrong}
use Rattle.plan_text.specs.Steps.{started, within, refused, State, state, ending, digit_of, ended_of, reading_of, words_of, step_of, steps_of, whole_of}
use Rattle.plan_text.specs.Planned.{matrices, places_of, planned, plan_of, records_in, records_of}
use Rattle.plan_text.specs.Printing.{refusal, header, record_lines, printed}

-- the first line, and the two matrices
abbrev first : List ℕ
first = 49 ∷ 32 ∷ 49 ∷ 10 ∷ []

abbrev lists : List ℕ
lists = 49 ∷ 32 ∷ 50 ∷ 32 ∷ 48 ∷ 10 ∷ 50 ∷ 32 ∷ 48 ∷ 32 ∷ 49 ∷ 10 ∷ []

abbrev numbers : List ℕ
numbers = 1 ∷ 1 ∷ 1 ∷ 2 ∷ 0 ∷ 2 ∷ 0 ∷ 1 ∷ []

-- `step` and `read`: the eight numbers; two spaces are of another form
read : ◌≡◌ {A = List State} (steps_of (state (started 0) (replicate 8 0)) (first ++ lists) ∷ steps_of (state (started 0) (replicate 8 0)) (49 ∷ 32 ∷ 32 ∷ 49 ∷ 10 ∷ []) ∷ [])
    (state (started 8) numbers ∷ state (refused 1) (1 ∷ replicate 7 0) ∷ [])
unfolding steps_of reading_of words_of ending digit_of ended_of is_digit
read = refl

-- `step` by the digit 5: it goes on from a value that stands before the first digit; text of another form stays as it is
others : ◌≡◌ {A = List State} (step_of (state (Between 2 7) []) 53 ∷ step_of (state (Wrong 2 7 true) []) 53 ∷ []) (state (within 2 75) [] ∷ state (Wrong 2 7 true) [] ∷ [])
unfolding reading_of words_of digit_of is_digit
others = refl

-- `whole`: at the end of a line, and in one
wholes : ◌≡◌ {A = List Bool} (whole_of (started 8) ∷ whole_of (started 0) ∷ whole_of (started 3) ∷ []) (true ∷ false ∷ false ∷ [])
unfolding whole_of
wholes = refl

abbrev Plan : Type 0
Plan = Result StackedLayout Refusal

abbrev layout : Plan
layout = Ok (record { width = 2; height = 4; columns = 3 })

abbrev none : Plan
none = Err LimitExceeded

-- `plan`: document 01's plan, and 1
plans : ◌≡◌ {A = List Plan} (plan_of (started 8) numbers 7 ∷ plan_of (refused 1) numbers 7 ∷ []) (layout ∷ none ∷ [])
unfolding plan_of planned whole_of matrices places_of refuse or_else first_of columns_before slice_length round_up opened matrix_length matrix_start limits_number flag_number columns_in width_number column_number matrix_number
    place_number higher_number rise_number laid_number shape_number plan_number triple_number planning_number done_layout laid_out planned_of settled
plans = refl

abbrev records : List ℕ
records = 0 ∷ 1152921504606846976 ∷ 281474993487872 ∷ 0 ∷ 281543712964610 ∷ 0 ∷ []

-- its records in seven words, of which the last stays; and all as they were
recorded : ◌≡◌ {A = List (List ℕ)} (records_of (started 8) numbers (replicate 7 7) ∷ records_of (refused 1) numbers (replicate 7 7) ∷ []) ((records ++ 7 ∷ []) ∷ replicate 7 7 ∷ [])
unfolding records_of records_in planned whole_of matrices places_of listed packed packed_log record_word refuse or_else first_of columns_before slice_length round_up opened matrix_length matrix_start limits_number flag_number columns_in width_number
    column_number matrix_number place_number higher_number rise_number laid_number shape_number plan_number triple_number planning_number planned_into located
recorded = refl

-- `print`: the header and three lines of 32 digits are 105 bytes; `refused 1`
lengths : ◌≡◌ {A = List ℕ} (length (printed layout records) ∷ []) (105 ∷ [])
unfolding printed header record_lines decimal_of digit_count hexadecimal_of record_of
lengths = refl

refusals : printed none records ≡ 114 ∷ 101 ∷ 102 ∷ 117 ∷ 115 ∷ 101 ∷ 100 ∷ 32 ∷ 49 ∷ 10 ∷ []
unfolding printed refusal decimal_of digit_count
refusals = refl
