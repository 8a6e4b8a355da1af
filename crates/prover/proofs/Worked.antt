-- Each call of a run on an accepted and a refused input, computed through its definition: l_skip 0 and n_stack 1, a column of 2 rows with a flag and
-- one of 1 row without. The buffers that the accepted calls leave, and their values, are computed in reduction's worked list.
use Rattle.std.proofs.Common.{◌≡◌, ℕ, List, [], ◌∷◌, replicate, refl}
use Rattle.algebra.specs.Zmod.{class}
use Rattle.field.specs.Element.{words_of}
use Rattle.field.specs.Slice.{elem_at, elem_words, canonical_words, canonical_four}
use Rattle.field.specs.declared.answer.Refusal.{Refusal}
use Rattle.field.specs.Number.{settled, refusal_of, refusals}
use Rattle.std.specs.declared.result.Result.{Result}
use Rattle.field.specs.declared.answer.Refusal.TheVariants.{OutOfTurn, WrongLength, NotCanonical}
use Rattle.std.specs.declared.result.Result.TheVariants.{Ok, Err}
use Rattle.layout.specs.Answers.{answer_of}
use Rattle.layout.specs.Checks.{refuse, or_else, first_of}
use Rattle.layout.specs.Triples.{columns_before}
use Rattle.layout.specs.Placing.{slice_length, round_up, opened, matrix_length, matrix_start}
use Rattle.layout.specs.Refusals.{limits_number, flag_number, columns_in, width_number, column_number, matrix_number, place_number, higher_number, rise_number, laid_number}
use Rattle.layout.specs.Columns.{located}
use Rattle.layout.specs.Lists.{commitment_number, counts_number, width_there, later_number, empty_number, there_number, lists_number, lists_length}
use Rattle.weights.specs.LambdaPowers.{claims_of, claims_before}
use Rattle.prover.specs.declared.stacked_reduction.Step.{Step}
use Rattle.prover.specs.Given.{Given, Work, given, work}
use Rattle.prover.specs.Slots.{occurs_in, entries, slot_start}
use Rattle.prover.specs.Turns.{after, in_round, first_turn, uni_turn, openings_turn}
use Rattle.prover.specs.CallNumbers.{lengths_number, called_number, point_number, live, live_tables, live_number, start_number, uni_words, uni_number, round_number, pair_number, fold_number, openings_words, openings_number, listed_number, made_words, made_number, first_number}
use Rattle.prover.specs.Calls.{step_of, one_more, leaves, start_work, uni_work, fold_work, pair_value, pair_of, openings_out}
use Rattle.prover.specs.FirstCalls.{first_out, claims_out, claims_answer}

-- what is given, with a word of r to choose
abbrev given_with : ℕ → Given
given_with x = given 0 1 (2 ∷ []) (1 ∷ 1 ∷ 1 ∷ 1 ∷ 0 ∷ 0 ∷ []) (11 ∷ 0 ∷ 0 ∷ 2 ∷ x ∷ 0 ∷ 1 ∷ 0 ∷ []) (3 ∷ 1 ∷ 0 ∷ 0 ∷ [])

abbrev pub g : Given
g = given_with 13

-- r with a word of p
abbrev pub large : Given
large = given_with 2013265921

abbrev pub lent : Work
lent = work (replicate 16 9) (replicate 12 9) (replicate 12 9) (replicate 8 9)

abbrev pub u : ℕ → List ℕ
u x = x ∷ 0 ∷ 0 ∷ 0 ∷ []

abbrev pub matrices : List ℕ
matrices = 5 ∷ 7 ∷ 9 ∷ 0 ∷ []

abbrev pub out : ℕ → List ℕ
out n = replicate n 77

abbrev pub step : Result (Unit {0}) Refusal → ℕ → Step
step answer calls = record { answer = answer; turn = after calls }

-- start: done, and 10
pub starts : ◌≡◌ {A = List Step} (step_of (start_number g lent) (after 7) (after 1) ∷ step_of (start_number large lent) (after 7) (after 1) ∷ []) (step (Ok tt) 1 ∷ step (Err NotCanonical) 7 ∷ [])
unfolding start_number called_number lengths_number point_number lists_number limits_number counts_number commitment_number there_number flag_number columns_in width_number laid_number place_number matrix_number column_number
    rise_number higher_number empty_number width_there later_number lists_length refuse or_else first_of slice_length round_up opened matrix_length matrix_start columns_before located occurs_in entries slot_start
    canonical_words canonical_four step_of answer_of settled refusal_of refusals
starts = refl

-- the first polynomial: 8 before start and after it was made, done between; 9 where there is room for a word less, 10 at p past the last column
pub firsts : ◌≡◌ {A = List Step} (step_of (first_number g (after 0) matrices (out 4)) (after 0) (one_more (after 0)) ∷ step_of (first_number g (after 1) matrices (out 4)) (after 1) (one_more (after 1))
    ∷ step_of (first_number g (after 2) matrices (out 4)) (after 2) (one_more (after 2)) ∷ step_of (first_number g (after 1) matrices (out 3)) (after 1) (one_more (after 1))
    ∷ step_of (first_number g (after 1) (5 ∷ 7 ∷ 9 ∷ 2013265921 ∷ []) (out 4)) (after 1) (one_more (after 1)) ∷ [])
    (step (Err OutOfTurn) 0 ∷ step (Ok tt) 2 ∷ step (Err OutOfTurn) 2 ∷ step (Err WrongLength) 1 ∷ step (Err NotCanonical) 1 ∷ [])
unfolding made_number listed_number made_words first_turn point_number lists_number limits_number counts_number commitment_number there_number flag_number columns_in
    width_number laid_number place_number matrix_number column_number rise_number higher_number empty_number width_there later_number lists_length refuse or_else first_of slice_length round_up opened matrix_length matrix_start
    columns_before located canonical_words canonical_four step_of answer_of settled refusal_of refusals
firsts = refl

-- the trace columns' openings, two of the flagged column and one of the other: done, 9, and 10
pub column-openings : ◌≡◌ {A = List (Result (Unit {0}) Refusal)} (claims_answer g matrices (out 12) ∷ claims_answer g matrices (out 11) ∷ claims_answer g (5 ∷ 7 ∷ 9 ∷ 2013265921 ∷ []) (out 12) ∷ [])
    (Ok tt ∷ Err WrongLength ∷ Err NotCanonical ∷ [])
unfolding made_number listed_number made_words point_number claims_of claims_before lists_number limits_number counts_number commitment_number there_number flag_number columns_in
    width_number laid_number place_number matrix_number column_number rise_number higher_number empty_number width_there later_number lists_length refuse or_else first_of slice_length round_up opened matrix_length matrix_start
    columns_before located canonical_words canonical_four answer_of settled refusal_of refusals
column-openings = refl

-- the fold at u_0: done at 17 and at 1, which is in the skip subgroup, and 10 at p
pub unis : ◌≡◌ {A = List Step} (step_of (uni_number g (after 2) matrices (u 17) lent) (after 2) (one_more (after 2)) ∷ step_of (uni_number g (after 2) matrices (u 1) lent) (after 2) (one_more (after 2))
    ∷ step_of (uni_number g (after 2) matrices (u 2013265921) lent) (after 2) (one_more (after 2)) ∷ [])
    (step (Ok tt) 3 ∷ step (Ok tt) 3 ∷ step (Err NotCanonical) 2 ∷ [])
unfolding uni_number uni_turn uni_words called_number lengths_number point_number lists_number limits_number counts_number commitment_number there_number flag_number columns_in
    width_number laid_number place_number matrix_number column_number rise_number higher_number empty_number width_there later_number lists_length refuse or_else first_of slice_length round_up opened matrix_length matrix_start
    columns_before located occurs_in entries slot_start canonical_words canonical_four step_of answer_of settled refusal_of refusals
unis = refl

-- round 1's pair: done, and 8 with zeros before the fold at u_0
pub pair-taken : ((pair_of g (after 3) 1 lent (pair_number g (after 3) 1 lent)).answer ≡ Ok tt) × ((pair_of g (after 3) 1 lent (pair_number g (after 3) 1 lent)).turn ≡ after 4)
unfolding pair_of answer_of settled refusal_of refusals round_number in_round live_number live_tables live called_number lengths_number point_number lists_number limits_number counts_number commitment_number there_number flag_number columns_in
    width_number laid_number place_number matrix_number column_number rise_number higher_number empty_number width_there later_number lists_length refuse or_else first_of slice_length round_up opened matrix_length matrix_start
    columns_before located occurs_in entries slot_start canonical_words canonical_four
pair-taken = (refl, refl)

pub pair-refused : pair_of g (after 2) 1 lent (pair_number g (after 2) 1 lent) ≡ record { answer = Err OutOfTurn; turn = after 2; one = u 0; two = u 0 }
unfolding pair_of pair_value words_of class answer_of settled refusal_of refusals round_number in_round live_number live_tables live called_number lengths_number point_number lists_number limits_number counts_number commitment_number there_number flag_number columns_in
    width_number laid_number place_number matrix_number column_number rise_number higher_number empty_number width_there later_number lists_length refuse or_else first_of slice_length round_up opened matrix_length matrix_start
    columns_before located occurs_in entries slot_start canonical_words canonical_four
pair-refused = refl

-- round 1's fold: done, and 10 at a challenge with a word of p
pub folds : ◌≡◌ {A = List Step} (step_of (fold_number g (after 4) 1 (u 19) lent) (after 4) (one_more (after 4)) ∷ step_of (fold_number g (after 4) 1 (u 2013265921) lent) (after 4) (one_more (after 4)) ∷ [])
    (step (Ok tt) 5 ∷ step (Err NotCanonical) 4 ∷ [])
unfolding fold_number round_number in_round live_number live_tables live called_number lengths_number point_number lists_number limits_number counts_number commitment_number there_number flag_number columns_in
    width_number laid_number place_number matrix_number column_number rise_number higher_number empty_number width_there later_number lists_length refuse or_else first_of slice_length round_up opened matrix_length matrix_start
    columns_before located occurs_in entries slot_start canonical_words canonical_four step_of answer_of settled refusal_of refusals
folds = refl

-- the openings: done, and 9 where there is room for less
pub openings : ◌≡◌ {A = List Step} (step_of (openings_number g (after 5) (out 8) lent) (after 5) (one_more (after 5)) ∷ step_of (openings_number g (after 5) (out 7) lent) (after 5) (one_more (after 5)) ∷ [])
    (step (Ok tt) 6 ∷ step (Err WrongLength) 5 ∷ [])
unfolding openings_number openings_turn openings_words called_number lengths_number point_number lists_number limits_number counts_number commitment_number there_number flag_number columns_in
    width_number laid_number place_number matrix_number column_number rise_number higher_number empty_number width_there later_number lists_length refuse or_else first_of slice_length round_up opened matrix_length matrix_start
    columns_before located occurs_in entries slot_start canonical_words canonical_four step_of answer_of settled refusal_of refusals
openings = refl

-- refused, they leave the slice that is lent
pub untouched : ◌≡◌ {A = List (List ℕ)} (first_out g (after 1) matrices (out 3) ∷ first_out g (after 0) matrices (out 4) ∷ claims_out g matrices (out 11) ∷ []) (out 3 ∷ out 4 ∷ out 11 ∷ [])
unfolding first_out claims_out leaves made_number listed_number made_words first_turn point_number claims_of claims_before lists_number limits_number counts_number commitment_number there_number flag_number columns_in
    width_number laid_number place_number matrix_number column_number rise_number higher_number empty_number width_there later_number lists_length refuse or_else first_of slice_length round_up opened matrix_length matrix_start
    columns_before located canonical_words canonical_four
untouched = refl

-- the refused calls leave the buffers, and the openings their slice
pub left : ◌≡◌ {A = List Work} (start_work large lent ∷ uni_work g (after 2) matrices (u 2013265921) lent ∷ fold_work g (after 4) 1 (u 2013265921) lent ∷ []) (lent ∷ lent ∷ lent ∷ [])
unfolding start_work uni_work fold_work leaves start_number uni_number uni_turn uni_words fold_number round_number in_round live_number live_tables live called_number lengths_number
    point_number lists_number limits_number counts_number commitment_number there_number flag_number columns_in width_number laid_number place_number matrix_number column_number rise_number higher_number empty_number width_there
    later_number lists_length refuse or_else first_of slice_length round_up opened matrix_length matrix_start columns_before located occurs_in entries slot_start canonical_words canonical_four
left = refl

pub opened-values : ◌≡◌ {A = List (List ℕ)} (openings_out g (after 5) (out 8) lent ∷ openings_out g (after 5) (out 7) lent ∷ []) (replicate 8 9 ∷ out 7 ∷ [])
unfolding openings_out leaves elem_words elem_at words_of class openings_number openings_turn openings_words called_number lengths_number point_number lists_number limits_number counts_number commitment_number there_number
    flag_number columns_in width_number laid_number place_number matrix_number column_number rise_number higher_number empty_number width_there later_number lists_length refuse or_else first_of slice_length round_up opened
    matrix_length matrix_start columns_before located occurs_in entries slot_start canonical_words canonical_four
opened-values = refl
