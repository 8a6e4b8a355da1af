-- A bring-up with the challenges 1, 2, 3, computed through the definitions: l_skip 0, n_stack 2, a column of the rows 5 and 7 and two flagged columns of one
-- row, 9 and 3. 1 is in the skip subgroup: the fold there leaves the rows. The verdict on the true claims is yes; on a false claim with a first polynomial of
-- its sum it is yes too, since u_1 is 2, and at the challenges 1, 3, 4 it is 14.
use mathlib.Core.Path.{◌≡◌, refl}
use mathlib.Core.List.{List, [], ◌∷◌}
use mathlib.Core.Option.{Option, some}
use Prim.Native.Nat.{ℕ}
use lib.ListN.{replicate}
use Rattle.algebra.specs.Ring.{pow, num}
use Rattle.algebra.specs.Sum.{sum}
use Rattle.algebra.specs.Listed.{listed}
use Rattle.algebra.specs.Polynomial.{value}
use Rattle.algebra.specs.Multilinear.{bit_factor, cube_factor, line, fold_mle}
use Rattle.algebra.specs.Zmod.{class, zadd, zmul, zneg}
use Rattle.algebra.specs.Quadratic.{qadd, qmul, qneg}
use Rattle.field.specs.Element.{elem_of, words_of}
use Rattle.field.specs.Same.{same_words}
use Rattle.field.specs.declared.answer.Refusal.{Refusal}
use Rattle.std.specs.declared.result.Result.{Result}
use Rattle.field.specs.declared.answer.Refusal.TheVariants.{FinalSumMismatch}
use Rattle.std.specs.declared.result.Result.TheVariants.{Ok, Err}
use Rattle.field.specs.Slice.{elem_at, words_at, elem_words, canonical_words, canonical_four}
use Rattle.tables.specs.Index.{before}
use Rattle.tables.specs.Lagrange.{lagrange}
use Rattle.tables.specs.EqUni.{eq_uni}
use Rattle.tables.specs.InUni.{in_uni}
use Rattle.tables.specs.FoldPle.{fold_ple}
use Rattle.tables.specs.SubgroupSum.{subgroup_sum}
use Rattle.tables.specs.Quadratic.{quadratic}
use Rattle.tables.specs.Prism.{row_factor, prism}
use Rattle.tables.specs.AtStride.{on_zero, at_stride}
use Rattle.tables.specs.Window.{below, window}
use Rattle.tables.specs.Interpolated.{interpolated}
use Rattle.tables.specs.Product.{product_at}
use Rattle.tables.specs.OnSlices.{value_of}
use Rattle.field.specs.Number.{settled, refusal_of, refusals}
use Rattle.layout.specs.Answers.{answer_of}
use Rattle.layout.specs.Checks.{refuse, or_else, first_of}
use Rattle.layout.specs.Triples.{columns_before}
use Rattle.layout.specs.Placing.{slice_length, round_up, opened, matrix_length, matrix_start}
use Rattle.layout.specs.Refusals.{limits_number, flag_number, columns_in, width_number, column_number, matrix_number, place_number, higher_number, rise_number, laid_number}
use Rattle.layout.specs.Columns.{located}
use Rattle.layout.specs.Lists.{commitment_number, counts_number, width_there, later_number, empty_number, there_number, lists_number, lists_length}
use Rattle.weights.specs.ColumnFactor.{raised, lifted_point, column_factor}
use Rattle.weights.specs.LambdaPowers.{claims_of, claims_before, if_flagged, plain_power, rotated_power, weighted_claims}
use Rattle.weights.specs.Weights.{cell_weight, weights}
use Rattle.weights.specs.StackColumns.{stack_rows}
use Rattle.weights.specs.FirstPolynomial.{block_at, first_coefficient}
use Rattle.weights.specs.FinalSum as FinalSum
use Rattle.weights.specs.Carried.{sent, carried}
use Rattle.weights.specs.HeightTables.{indicator}
use Rattle.verifier.specs.Sides.{weighted, first_sum, claimed, final_sum}
use Rattle.verifier.specs.Numbers as Numbers
use Rattle.verifier.specs.Verdicts.{side_of, verdict}
use Rattle.prover.specs.Given.{Given, Work, given, work}
use Rattle.prover.specs.Slots.{occurs_in, entries, slot_start, slotted}
use Rattle.prover.specs.Blocks.{blocks, folded_words}
use Rattle.prover.specs.Rotated.{rotated}
use Rattle.prover.specs.UniKernels.{eq_scale, rot_scale, rot_shift}
use Rattle.prover.specs.OwnSum.{tables_of, place, own_term, own_sum, folded_tables, own_quadratic}
use Rattle.prover.specs.Turns.{after, in_round, first_turn, uni_turn, openings_turn}
use Rattle.prover.specs.CallNumbers.{lengths_number, called_number, point_number, live, live_tables, live_number, start_number, uni_words, uni_number, round_number, fold_number, openings_words, openings_number, listed_number, made_words, made_number}
use Rattle.prover.specs.FirstCalls.{first_words, first_out}
use Rattle.prover.specs.Calls.{step_of, leaves, start_values, start_eq, start_weights, start_work, uni_values, uni_eq, uni_rot, uni_work, fold_values, fold_tables, fold_weights, fold_work, pair_value, pair_of, openings_out}
use Rattle.reduction.specs.Calls.{State, ask_first, fold_first, task_reply, task_work, lent_by, challenge_of, first_in, pair_in, openings_in, task_answer, task_slice, task_turn, lent_work, kept_work}
use Rattle.reduction.specs.Steps.{step_by}
use Rattle.reduction.specs.Lists.{begun, outcome}
use Rattle.reduction.specs.HonestRun.{follow, rounds, honest_tasks}
use Rattle.reduction.specs.Verdict.{all_words, judged}

-- an element of one word
abbrev e : ℕ → List ℕ
e x = x ∷ 0 ∷ 0 ∷ 0 ∷ []

abbrev g : Given
g = given 0 2 (2 ∷ []) (1 ∷ 1 ∷ 0 ∷ 2 ∷ 0 ∷ 1 ∷ []) (7 ∷ 0 ∷ 0 ∷ 0 ∷ 8 ∷ 0 ∷ 0 ∷ 0 ∷ 9 ∷ 0 ∷ 0 ∷ 0 ∷ []) (e 5)

abbrev w : Work
w = work (replicate 16 0) (replicate 12 0) (replicate 12 0) (replicate 12 0)

abbrev matrices : List ℕ
matrices = 5 ∷ 7 ∷ 9 ∷ 3 ∷ []

-- what the run at 1 and these later challenges comes to
abbrev ran : ℕ → ℕ → State
ran u v = outcome (begun g (after 0) w) (follow g (honest_tasks g matrices (e 1) (e u ∷ e v ∷ [])))

abbrev claims : ℕ → List ℕ
claims x = x ∷ 0 ∷ 0 ∷ 0 ∷ 9 ∷ 0 ∷ 0 ∷ 0 ∷ 9 ∷ 0 ∷ 0 ∷ 0 ∷ 3 ∷ 0 ∷ 0 ∷ 0 ∷ 3 ∷ 0 ∷ 0 ∷ 0 ∷ []

abbrev answer : State → ℕ → ℕ → ℕ → Result (Unit {0}) Refusal
answer s opening claim coefficient = (verdict (judged g s (e opening) (claims claim) (e coefficient) (replicate 24 0))).answer

-- after the fold at 1 the values are the rows
pub rows : (outcome (begun g (after 0) w) (follow g (ask_first matrices (e 0) ∷ fold_first matrices (e 1) ∷ []))).work.q ≡ 5 ∷ 0 ∷ 0 ∷ 0 ∷ 7 ∷ 0 ∷ 0 ∷ 0 ∷ 9 ∷ 0 ∷ 0 ∷ 0 ∷ 3 ∷ 0 ∷ 0 ∷ 0 ∷ []
unfolding start_number called_number lengths_number point_number lists_number limits_number counts_number commitment_number there_number flag_number columns_in width_number laid_number place_number matrix_number column_number
    rise_number higher_number empty_number width_there later_number lists_length refuse or_else first_of slice_length round_up opened matrix_length matrix_start columns_before located occurs_in entries slot_start
    canonical_words canonical_four
    first_turn uni_turn in_round openings_turn uni_number uni_words same_words round_number live_number live_tables live fold_number openings_number openings_words listed_number made_words made_number start_work leaves start_values start_eq start_weights
    elem_words blocks slotted cube_factor bit_factor listed uni_work uni_values fold_ple lagrange sum pow uni_eq uni_rot eq_scale rot_scale rot_shift indicator in_uni eq_uni raised rotated before fold_work fold_values folded_words
    fold_tables fold_weights folded_tables tables_of fold_mle line elem_at elem_of words_of words_at class zadd zmul zneg qadd qmul qneg pair_of pair_value own_quadratic own_sum own_term place plain_power rotated_power if_flagged num
    openings_out step_of answer_of settled refusal_of refusals task_answer task_slice task_reply lent_by challenge_of first_in pair_in openings_in step_by task_turn task_work lent_work kept_work begun
    verdict side_of Numbers.verdict_number Numbers.asked_number Numbers.slices_number Numbers.words_number weighted first_sum claimed final_sum subgroup_sum value value_of weighted_claims claims_of
    claims_before carried sent quadratic FinalSum.final_sum prism row_factor cell_weight weights column_factor lifted_point below window at_stride on_zero outcome all_words follow rounds
rows = refl

-- the first polynomial, the weighted sum
pub own_first : (ran 2 3).first ≡ some (e 12621)
unfolding start_number called_number lengths_number point_number lists_number limits_number counts_number commitment_number there_number flag_number columns_in width_number laid_number place_number matrix_number column_number
    rise_number higher_number empty_number width_there later_number lists_length refuse or_else first_of slice_length round_up opened matrix_length matrix_start columns_before located occurs_in entries slot_start
    canonical_words canonical_four
    first_turn uni_turn in_round openings_turn uni_number uni_words same_words round_number live_number live_tables live fold_number openings_number openings_words listed_number made_words made_number start_work leaves start_values start_eq start_weights
    elem_words blocks slotted cube_factor bit_factor listed uni_work uni_values fold_ple lagrange sum pow uni_eq uni_rot eq_scale rot_scale rot_shift indicator in_uni eq_uni raised rotated before fold_work fold_values folded_words
    fold_tables fold_weights folded_tables tables_of fold_mle line elem_at elem_of words_of words_at class zadd zmul zneg qadd qmul qneg pair_of pair_value own_quadratic own_sum own_term place plain_power rotated_power if_flagged num
    openings_out first_out first_words first_coefficient block_at interpolated product_at stack_rows step_of answer_of settled refusal_of refusals task_answer task_slice task_reply lent_by challenge_of first_in pair_in openings_in step_by task_turn task_work lent_work kept_work begun
    verdict side_of Numbers.verdict_number Numbers.asked_number Numbers.slices_number Numbers.words_number weighted first_sum claimed final_sum subgroup_sum value value_of weighted_claims claims_of
    claims_before carried sent quadratic FinalSum.final_sum prism row_factor cell_weight weights column_factor lifted_point below window at_stride on_zero outcome all_words follow rounds
own_first = refl

-- the pairs and the opening of both runs
pub finished : ◌≡◌ {A = List (List ℕ × Option (List ℕ))} (((ran 2 3).pairs, (ran 2 3).openings) ∷ ((ran 3 4).pairs, (ran 3 4).openings) ∷ [])
    ((11306 ∷ 0 ∷ 0 ∷ 0 ∷ 2013244078 ∷ 0 ∷ 0 ∷ 0 ∷ 2013243871 ∷ 0 ∷ 0 ∷ 0 ∷ 2013045766 ∷ 0 ∷ 0 ∷ 0 ∷ [], some (e 2013265894)) ∷ (11306 ∷ 0 ∷ 0 ∷ 0 ∷ 2013244078 ∷ 0 ∷ 0 ∷ 0 ∷ 2013167371 ∷ 0 ∷ 0 ∷ 0 ∷ 2012631923 ∷ 0 ∷ 0 ∷ 0 ∷ [], some (e 2013265852)) ∷ [])
unfolding start_number called_number lengths_number point_number lists_number limits_number counts_number commitment_number there_number flag_number columns_in width_number laid_number place_number matrix_number column_number
    rise_number higher_number empty_number width_there later_number lists_length refuse or_else first_of slice_length round_up opened matrix_length matrix_start columns_before located occurs_in entries slot_start
    canonical_words canonical_four
    first_turn uni_turn in_round openings_turn uni_number uni_words same_words round_number live_number live_tables live fold_number openings_number openings_words listed_number made_words made_number start_work leaves start_values start_eq start_weights
    elem_words blocks slotted cube_factor bit_factor listed uni_work uni_values fold_ple lagrange sum pow uni_eq uni_rot eq_scale rot_scale rot_shift indicator in_uni eq_uni raised rotated before fold_work fold_values folded_words
    fold_tables fold_weights folded_tables tables_of fold_mle line elem_at elem_of words_of words_at class zadd zmul zneg qadd qmul qneg pair_of pair_value own_quadratic own_sum own_term place plain_power rotated_power if_flagged num
    openings_out step_of answer_of settled refusal_of refusals task_answer task_slice task_reply lent_by challenge_of first_in pair_in openings_in step_by task_turn task_work lent_work kept_work begun
    verdict side_of Numbers.verdict_number Numbers.asked_number Numbers.slices_number Numbers.words_number weighted first_sum claimed final_sum subgroup_sum value value_of weighted_claims claims_of
    claims_before carried sent quadratic FinalSum.final_sum prism row_factor cell_weight weights column_factor lifted_point below window at_stride on_zero outcome all_words follow rounds
finished = refl

pub judgements : ◌≡◌ {A = List (Result (Unit {0}) Refusal)} (answer (ran 2 3) 2013265894 21 12621 ∷ answer (ran 2 3) 2013265894 22 12622 ∷ answer (ran 3 4) 2013265852 22 12622 ∷ [])
    (Ok tt ∷ Ok tt ∷ Err FinalSumMismatch ∷ [])
unfolding start_number called_number lengths_number point_number lists_number limits_number counts_number commitment_number there_number flag_number columns_in width_number laid_number place_number matrix_number column_number
    rise_number higher_number empty_number width_there later_number lists_length refuse or_else first_of slice_length round_up opened matrix_length matrix_start columns_before located occurs_in entries slot_start
    canonical_words canonical_four
    first_turn uni_turn in_round openings_turn uni_number uni_words same_words round_number live_number live_tables live fold_number openings_number openings_words listed_number made_words made_number start_work leaves start_values start_eq start_weights
    elem_words blocks slotted cube_factor bit_factor listed uni_work uni_values fold_ple lagrange sum pow uni_eq uni_rot eq_scale rot_scale rot_shift indicator in_uni eq_uni raised rotated before fold_work fold_values folded_words
    fold_tables fold_weights folded_tables tables_of fold_mle line elem_at elem_of words_of words_at class zadd zmul zneg qadd qmul qneg pair_of pair_value own_quadratic own_sum own_term place plain_power rotated_power if_flagged num
    openings_out step_of answer_of settled refusal_of refusals task_answer task_slice task_reply lent_by challenge_of first_in pair_in openings_in step_by task_turn task_work lent_work kept_work begun
    verdict side_of Numbers.verdict_number Numbers.asked_number Numbers.slices_number Numbers.words_number weighted first_sum claimed final_sum subgroup_sum value value_of weighted_claims claims_of
    claims_before carried sent quadratic FinalSum.final_sum prism row_factor cell_weight weights column_factor lifted_point below window at_stride on_zero outcome all_words follow rounds
judgements = refl
