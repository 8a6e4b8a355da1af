-- The verdict on what the worked list returns, computed through the definitions: with its own first polynomial and the true claims yes; with one claim
-- raised by one 13; with that claim and the first polynomial both raised by one 14.
use mathlib.Core.Path.{◌≡◌, refl}
use mathlib.Core.List.{List, [], ◌∷◌}
use Prim.Native.Nat.{ℕ}
use Rattle.algebra.specs.Ring.{pow, num}
use Rattle.algebra.specs.Sum.{sum}
use Rattle.algebra.specs.Listed.{listed}
use Rattle.algebra.specs.Polynomial.{value}
use Rattle.algebra.specs.Multilinear.{bit_factor, cube_factor, line, fold_mle}
use Rattle.algebra.specs.Zmod.{class, zadd, zmul, zneg}
use Rattle.algebra.specs.Quadratic.{qadd, qmul, qneg}
use Rattle.field.specs.Element.{elem_of, words_of}
use Rattle.field.specs.Same.{same_words}
use Rattle.field.specs.declared.answer.Refusal.{Refusal}
use Rattle.std.specs.declared.result.Result.{Result}
use Rattle.field.specs.declared.answer.Refusal.TheVariants.{S0Mismatch, FinalSumMismatch}
use Rattle.std.specs.declared.result.Result.TheVariants.{Ok, Err}
use Rattle.field.specs.Slice.{elem_at, words_at, elem_words, canonical_words, canonical_four}
use Rattle.tables.specs.Index.{before}
use Rattle.tables.specs.Lagrange.{lagrange}
use Rattle.tables.specs.EqUni.{eq_uni}
use Rattle.tables.specs.InUni.{in_uni}
use Rattle.tables.specs.FoldPle.{fold_ple}
use Rattle.tables.specs.SubgroupSum.{subgroup_sum}
use Rattle.tables.specs.Quadratic.{quadratic}
use Rattle.tables.specs.Prism.{row_factor, prism}
use Rattle.tables.specs.AtStride.{on_zero, at_stride}
use Rattle.tables.specs.Window.{below, window}
use Rattle.tables.specs.OnSlices.{value_of}
use Rattle.field.specs.Number.{settled, refusal_of, refusals}
use Rattle.layout.specs.Answers.{answer_of}
use Rattle.layout.specs.Checks.{refuse, or_else, first_of}
use Rattle.layout.specs.Triples.{columns_before}
use Rattle.layout.specs.Placing.{slice_length, round_up, opened, matrix_length, matrix_start}
use Rattle.layout.specs.Refusals.{limits_number, flag_number, columns_in, width_number, column_number, matrix_number, place_number, higher_number, rise_number, laid_number}
use Rattle.layout.specs.Columns.{located}
use Rattle.layout.specs.Lists.{commitment_number, counts_number, width_there, later_number, empty_number, there_number, lists_number, lists_length}
use Rattle.weights.specs.ColumnFactor.{raised, lifted_point, column_factor}
use Rattle.weights.specs.LambdaPowers.{claims_of, claims_before, if_flagged, plain_power, rotated_power, weighted_claims}
use Rattle.weights.specs.Weights.{cell_weight, weights}
use Rattle.weights.specs.FinalSum as FinalSum
use Rattle.weights.specs.Carried.{sent, carried}
use Rattle.weights.specs.HeightTables.{indicator}
use Rattle.verifier.specs.Sides.{weighted, first_sum, claimed, final_sum}
use Rattle.verifier.specs.Numbers as Numbers
use Rattle.verifier.specs.Verdicts.{side_of, verdict}
use Rattle.prover.specs.Slots.{occurs_in, entries, slot_start, slotted}
use Rattle.prover.specs.Blocks.{blocks, folded_words}
use Rattle.prover.specs.Rotated.{rotated}
use Rattle.prover.specs.UniKernels.{eq_scale, rot_scale, rot_shift}
use Rattle.prover.specs.OwnSum.{tables_of, place, own_term, own_sum, folded_tables, own_quadratic}
use Rattle.prover.specs.Turns.{after, in_round, first_turn, uni_turn, openings_turn}
use Rattle.prover.specs.CallNumbers.{lengths_number, called_number, point_number, live, live_tables, live_number, start_number, uni_words, uni_number, round_number, fold_number, openings_words, openings_number, listed_number, made_words, made_number}
use Rattle.prover.specs.Calls.{step_of, leaves, start_values, start_eq, start_weights, start_work, uni_values, uni_eq, uni_rot, uni_work, fold_values, fold_tables, fold_weights, fold_work, pair_value, pair_of, openings_out}
use Rattle.reduction.specs.Calls.{task_reply, task_work, lent_by, challenge_of, first_in, pair_in, openings_in, task_answer, task_slice, task_turn, lent_work, kept_work}
use Rattle.reduction.specs.Steps.{step_by}
use Rattle.reduction.specs.Lists.{begun, outcome}
use Rattle.reduction.specs.Verdict.{all_words, Fitting, judged}
use Rattle.reduction.proofs.WorkedRun.{g, w₃, calls, first, openings}

-- the true claims: of the flagged column its value at r and the rotated one, of the other its value
abbrev right : List ℕ
right = 31 ∷ 0 ∷ 2 ∷ 0 ∷ 2013265902 ∷ 0 ∷ 2013265919 ∷ 0 ∷ 9 ∷ 0 ∷ 0 ∷ 0 ∷ []

abbrev wrong : List ℕ
wrong = 32 ∷ 0 ∷ 2 ∷ 0 ∷ 2013265902 ∷ 0 ∷ 2013265919 ∷ 0 ∷ 9 ∷ 0 ∷ 0 ∷ 0 ∷ []

-- the first polynomial raised by one
abbrev more : List ℕ
more = 56 ∷ 35 ∷ 5 ∷ 2013265919 ∷ []

-- what is lent for the observed values
abbrev lent : List ℕ
lent = 0 ∷ 0 ∷ 0 ∷ 0 ∷ 0 ∷ 0 ∷ 0 ∷ 0 ∷ 0 ∷ 0 ∷ 0 ∷ 0 ∷ 0 ∷ 0 ∷ 0 ∷ 0 ∷ 0 ∷ 0 ∷ 0 ∷ 0 ∷ []

abbrev answer : List ℕ → List ℕ → Result (Unit {0}) Refusal
answer claims coefficients = (verdict (judged g (outcome (begun g (after 7) w₃) calls) openings claims coefficients lent)).answer

pub fits : Fitting g wrong more lent
unfolding claims_of claims_before located matrix_start columns_before opened slice_length matrix_length round_up canonical_words
fits = record { claims_asked_lem = refl; claims_words_lem = refl; coefficients_asked_lem = refl; coefficients_words = refl; observed_asked = refl }

pub judgements : ◌≡◌ {A = List (Result (Unit {0}) Refusal)} (answer right first ∷ answer wrong first ∷ answer wrong more ∷ []) (Ok tt ∷ Err S0Mismatch ∷ Err FinalSumMismatch ∷ [])
unfolding start_number called_number lengths_number point_number lists_number limits_number counts_number commitment_number there_number flag_number columns_in width_number laid_number place_number matrix_number column_number
    rise_number higher_number empty_number width_there later_number lists_length refuse or_else first_of slice_length round_up opened matrix_length matrix_start columns_before located occurs_in entries slot_start
    canonical_words canonical_four
    first_turn uni_turn in_round openings_turn uni_number uni_words same_words round_number live_number live_tables live fold_number openings_number openings_words listed_number made_words made_number start_work leaves start_values start_eq start_weights
    elem_words blocks slotted cube_factor bit_factor listed uni_work uni_values fold_ple lagrange sum pow uni_eq uni_rot eq_scale rot_scale rot_shift indicator in_uni eq_uni raised rotated before fold_work fold_values folded_words
    fold_tables fold_weights folded_tables tables_of fold_mle line elem_at elem_of words_of words_at class zadd zmul zneg qadd qmul qneg pair_of pair_value own_quadratic own_sum own_term place plain_power rotated_power if_flagged num
    openings_out step_of answer_of settled refusal_of refusals task_answer task_slice task_reply lent_by challenge_of first_in pair_in openings_in step_by task_turn task_work lent_work kept_work begun
    verdict side_of Numbers.verdict_number Numbers.asked_number Numbers.slices_number Numbers.words_number weighted first_sum claimed final_sum subgroup_sum value value_of weighted_claims claims_of
    claims_before carried sent quadratic FinalSum.final_sum prism row_factor cell_weight weights column_factor lifted_point below window at_stride on_zero outcome all_words
judgements = refl
