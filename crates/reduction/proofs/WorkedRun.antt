-- A worked list of calls, computed through the definitions: l_skip 0, n_stack 1, one commitment of a column of 2 rows with a flag and one of 1 row without.
-- Ten calls, of which five are refused as out of turn: they are proper calls, and the list is finished.
use mathlib.Core.Path.{◌≡◌, refl}
use mathlib.Core.List.{List, [], ◌∷◌, ◌++◌}
use mathlib.Core.Option.{Option, some}
use Prim.Native.Nat.{ℕ}
use native.Mathlib.Omega.{arith}
use Rattle.algebra.specs.Ring.{pow, num}
use Rattle.algebra.specs.Sum.{sum}
use Rattle.algebra.specs.Listed.{listed}
use Rattle.algebra.specs.Multilinear.{bit_factor, cube_factor, line, fold_mle}
use Rattle.algebra.specs.Zmod.{class, zadd, zmul, zneg}
use Rattle.algebra.specs.Quadratic.{qadd, qmul, qneg}
use Rattle.field.specs.Element.{elem_of, words_of}
use Rattle.field.specs.Slice.{elem_at, words_at, elem_words, canonical_words, canonical_four}
use Rattle.tables.specs.Index.{before}
use Rattle.tables.specs.Lagrange.{lagrange}
use Rattle.tables.specs.EqUni.{eq_uni}
use Rattle.tables.specs.InUni.{in_uni}
use Rattle.tables.specs.FoldPle.{fold_ple}
use Rattle.tables.specs.Window.{below, window}
use Rattle.tables.specs.AtStride.{on_zero, at_stride}
use Rattle.tables.specs.Prism.{row_factor}
use Rattle.tables.specs.Interpolated.{interpolated}
use Rattle.tables.specs.Product.{product_at}
use Rattle.field.specs.Number.{settled, refusal_of, refusals}
use Rattle.layout.specs.Answers.{answer_of}
use Rattle.layout.specs.Checks.{refuse, or_else, first_of}
use Rattle.layout.specs.Triples.{columns_before}
use Rattle.layout.specs.Placing.{slice_length, round_up, opened, matrix_length, matrix_start}
use Rattle.layout.specs.Refusals.{limits_number, flag_number, columns_in, width_number, column_number, matrix_number, place_number, higher_number, rise_number, laid_number}
use Rattle.layout.specs.Columns.{located}
use Rattle.layout.specs.Lists.{commitment_number, counts_number, width_there, later_number, empty_number, there_number, lists_number, lists_length}
use Rattle.weights.specs.ColumnFactor.{raised, lifted_point, column_factor}
use Rattle.weights.specs.LambdaPowers.{if_flagged, plain_power, rotated_power}
use Rattle.weights.specs.HeightTables.{indicator}
use Rattle.weights.specs.Weights.{cell_weight, weights}
use Rattle.weights.specs.StackColumns.{stack_rows}
use Rattle.weights.specs.FirstPolynomial.{block_at, first_coefficient}
use Rattle.prover.specs.Given.{Given, Work, given, work}
use Rattle.prover.specs.Slots.{occurs_in, entries, slot_start, slotted}
use Rattle.prover.specs.Blocks.{blocks, folded_words}
use Rattle.prover.specs.Rotated.{rotated}
use Rattle.prover.specs.UniKernels.{eq_scale, rot_scale, rot_shift}
use Rattle.prover.specs.OwnSum.{tables_of, place, own_term, own_sum, folded_tables, own_quadratic}
use Rattle.prover.specs.Turns.{after, in_round, first_turn, uni_turn, openings_turn}
use Rattle.prover.specs.CallNumbers.{lengths_number, called_number, point_number, live, live_tables, live_number, start_number, uni_words, uni_number, round_number, fold_number, openings_words, openings_number, listed_number, made_words, made_number}
use Rattle.prover.specs.FirstCalls.{first_words, first_out}
use Rattle.prover.specs.Calls.{step_of, leaves, start_values, start_eq, start_weights, start_work, uni_values, uni_eq, uni_rot, uni_work, fold_values, fold_tables, fold_weights, fold_work, pair_value, pair_of, openings_out}
use Rattle.reduction.specs.Calls.{Task, ask_first, fold_first, ask_pair, fold_next, ask_openings, Buffers, own, other, Call, Reply, refused, first_sent, folded, paired, opened as answered, Event, task_reply, task_work, lent_by, challenge_of, first_in, pair_in, openings_in, task_answer, task_slice, task_turn, lent_work, kept_work}
use Rattle.reduction.specs.Steps.{step_by}
use Rattle.reduction.specs.Lists.{begun, Started, events, outcome, SameMatrices, Proper}

-- l_skip 0, n_stack 1; two matrices: width 1, log height 1, flagged; width 1, log height 0
abbrev pub g : Given
g = given 0 1 (2 ∷ []) (1 ∷ 1 ∷ 1 ∷ 1 ∷ 0 ∷ 0 ∷ []) (11 ∷ 0 ∷ 0 ∷ 2 ∷ 13 ∷ 0 ∷ 1 ∷ 0 ∷ []) (3 ∷ 1 ∷ 0 ∷ 0 ∷ [])

abbrev pub w₁ : Work
w₁ = work (0 ∷ 0 ∷ 0 ∷ 0 ∷ 0 ∷ 0 ∷ 0 ∷ 0 ∷ 0 ∷ 0 ∷ 0 ∷ 0 ∷ 0 ∷ 0 ∷ 0 ∷ 0 ∷ [])
    (1 ∷ 0 ∷ 0 ∷ 0 ∷ 2013265909 ∷ 0 ∷ 2013265920 ∷ 0 ∷ 13 ∷ 0 ∷ 1 ∷ 0 ∷ [])
    (0 ∷ 0 ∷ 0 ∷ 0 ∷ 0 ∷ 0 ∷ 0 ∷ 0 ∷ 0 ∷ 0 ∷ 0 ∷ 0 ∷ [])
    (1 ∷ 0 ∷ 0 ∷ 0 ∷ 1 ∷ 0 ∷ 0 ∷ 0 ∷ [])

abbrev pub w₂ : Work
w₂ = work (5 ∷ 0 ∷ 0 ∷ 0 ∷ 7 ∷ 0 ∷ 0 ∷ 0 ∷ 9 ∷ 0 ∷ 0 ∷ 0 ∷ 0 ∷ 0 ∷ 0 ∷ 0 ∷ [])
    (1 ∷ 0 ∷ 0 ∷ 0 ∷ 2013265909 ∷ 0 ∷ 2013265920 ∷ 0 ∷ 13 ∷ 0 ∷ 1 ∷ 0 ∷ [])
    (1 ∷ 0 ∷ 0 ∷ 0 ∷ 13 ∷ 0 ∷ 1 ∷ 0 ∷ 2013265909 ∷ 0 ∷ 2013265920 ∷ 0 ∷ [])
    (1 ∷ 0 ∷ 0 ∷ 0 ∷ 1 ∷ 0 ∷ 0 ∷ 0 ∷ [])

abbrev pub w₃ : Work
w₃ = work (43 ∷ 0 ∷ 0 ∷ 10 ∷ 2013265759 ∷ 0 ∷ 0 ∷ 2013265876 ∷ 0 ∷ 0 ∷ 0 ∷ 0 ∷ 0 ∷ 0 ∷ 0 ∷ 0 ∷ [])
    (1 ∷ 0 ∷ 0 ∷ 0 ∷ 463 ∷ 110 ∷ 37 ∷ 125 ∷ 0 ∷ 0 ∷ 0 ∷ 0 ∷ [])
    (1 ∷ 0 ∷ 0 ∷ 0 ∷ 2013265459 ∷ 2013265811 ∷ 2013265884 ∷ 2013265796 ∷ 0 ∷ 0 ∷ 0 ∷ 0 ∷ [])
    (1 ∷ 0 ∷ 0 ∷ 0 ∷ 2013265903 ∷ 0 ∷ 0 ∷ 2013265916 ∷ [])

-- a call of the run, lent these buffers
abbrev call : Buffers → Task → Call
call b task = record { given = g; buffers = b; task = task }

abbrev pub u₀ : List ℕ
u₀ = 17 ∷ 0 ∷ 0 ∷ 0 ∷ []

abbrev pub u₁ : List ℕ
u₁ = 19 ∷ 0 ∷ 0 ∷ 5 ∷ []

abbrev matrices : List ℕ
matrices = 5 ∷ 7 ∷ 9 ∷ 0 ∷ []

-- the pair before u_0, the fold at u_0 before the first polynomial, a fold before the pair, the pair twice and the openings twice: of the refused ones three
-- get buffers that are not the run's
abbrev pub calls : List Call
calls =
    call (other w₃) (ask_pair 1) ∷ call own (fold_first matrices u₀) ∷ call own (ask_first matrices (0 ∷ 0 ∷ 0 ∷ 0 ∷ [])) ∷ call own (fold_first matrices u₀) ∷ call own (fold_next 1 u₁) ∷ call own (ask_pair 1) ∷ call (other w₃) (ask_pair 1)
    ∷ call own (fold_next 1 u₁) ∷ call own (ask_openings (0 ∷ 0 ∷ 0 ∷ 0 ∷ 0 ∷ 0 ∷ 0 ∷ 0 ∷ [])) ∷ call (other w₁) (ask_openings []) ∷ []

-- the first polynomial, of one coefficient: the weighted sum
abbrev pub first : List ℕ
first = 55 ∷ 35 ∷ 5 ∷ 2013265919 ∷ []

abbrev pub one : List ℕ
one = 2013265760 ∷ 2013265837 ∷ 2013265907 ∷ 2013265914 ∷ []

abbrev pub two : List ℕ
two = 2013265345 ∷ 2013265642 ∷ 2013265876 ∷ 2013265894 ∷ []

abbrev pub openings : List ℕ
openings = 43 ∷ 0 ∷ 0 ∷ 10 ∷ 2013265759 ∷ 0 ∷ 0 ∷ 2013265876 ∷ []

-- the start is handed the turn and lent the buffers of an older run
pub started : Started g (after 7) w₃
unfolding start_number called_number lengths_number point_number lists_number limits_number counts_number commitment_number there_number flag_number columns_in width_number laid_number place_number matrix_number column_number
    rise_number higher_number empty_number width_there later_number lists_length refuse or_else first_of slice_length round_up opened matrix_length matrix_start columns_before located occurs_in entries slot_start
    canonical_words canonical_four step_of answer_of settled refusal_of refusals
started = refl

abbrev replies : List Event → List Reply
replies [] = []
replies (e ∷ es) = e.reply ∷ replies es

pub computed : ◌≡◌ {A = List Reply} (replies (events (begun g (after 7) w₃) calls))
    (refused 8 ∷ refused 8 ∷ first_sent first ∷ folded ∷ refused 8 ∷ paired one two ∷ refused 8 ∷ folded ∷ answered openings ∷ refused 8 ∷ [])
unfolding start_number called_number lengths_number point_number lists_number limits_number counts_number commitment_number there_number flag_number columns_in width_number laid_number place_number matrix_number column_number
    rise_number higher_number empty_number width_there later_number lists_length refuse or_else first_of slice_length round_up opened matrix_length matrix_start columns_before located occurs_in entries slot_start
    canonical_words canonical_four
    first_turn uni_turn in_round openings_turn uni_number uni_words round_number live_number live_tables live fold_number openings_number openings_words listed_number made_words made_number start_work leaves start_values start_eq start_weights
    elem_words blocks slotted cube_factor bit_factor listed uni_work uni_values fold_ple lagrange sum pow uni_eq uni_rot eq_scale rot_scale rot_shift indicator in_uni eq_uni raised rotated before fold_work fold_values folded_words
    fold_tables fold_weights folded_tables tables_of fold_mle line elem_at elem_of words_of words_at class zadd zmul zneg qadd qmul qneg pair_of pair_value own_quadratic own_sum own_term place plain_power rotated_power if_flagged num
    openings_out first_out first_words first_coefficient block_at interpolated product_at weights cell_weight column_factor lifted_point row_factor below window at_stride on_zero stack_rows step_of answer_of settled refusal_of refusals task_answer task_slice task_reply lent_by challenge_of first_in pair_in openings_in step_by task_turn task_work lent_work kept_work events begun
computed = refl

-- nothing that is refused was accepted
not_eight : ◌≡◌ {A = ℕ} 8 0 → ⊥
not_eight e = omega arith

-- of the accepted calls the buffers are those that the call before left
pub proper : Proper g (begun g (after 7) w₃) calls
unfolding start_number called_number lengths_number point_number lists_number limits_number counts_number commitment_number there_number flag_number columns_in width_number laid_number place_number matrix_number column_number
    rise_number higher_number empty_number width_there later_number lists_length refuse or_else first_of slice_length round_up opened matrix_length matrix_start columns_before located occurs_in entries slot_start
    canonical_words canonical_four
    first_turn uni_turn in_round openings_turn uni_number uni_words round_number live_number live_tables live fold_number openings_number openings_words listed_number made_words made_number start_work leaves start_values start_eq start_weights
    elem_words blocks slotted cube_factor bit_factor listed uni_work uni_values fold_ple lagrange sum pow uni_eq uni_rot eq_scale rot_scale rot_shift indicator in_uni eq_uni raised rotated before fold_work fold_values folded_words
    fold_tables fold_weights folded_tables tables_of fold_mle line elem_at elem_of words_of words_at class zadd zmul zneg qadd qmul qneg pair_of pair_value own_quadratic own_sum own_term place plain_power rotated_power if_flagged num
    openings_out first_out first_words first_coefficient block_at interpolated product_at weights cell_weight column_factor lifted_point row_factor below window at_stride on_zero stack_rows step_of answer_of settled refusal_of refusals task_answer task_slice task_reply lent_by challenge_of first_in pair_in openings_in step_by task_turn task_work lent_work kept_work events begun Proper SameMatrices
proper = (
  λ e. absurd (not_eight e),
  (
    λ e. absurd (not_eight e),
    (
      λ e. record { given = refl; buffers = refl; lent = tt },
      (
        λ e. record { given = refl; buffers = refl; lent = refl },
        (
          λ e. absurd (not_eight e),
          (
            λ e. record { given = refl; buffers = refl; lent = tt },
            (
              λ e. absurd (not_eight e),
              (
                λ e. record { given = refl; buffers = refl; lent = tt },
                (λ e. record { given = refl; buffers = refl; lent = tt }, (λ e. absurd (not_eight e), tt)),
              ),
            ),
          ),
        ),
      ),
    ),
  ),
)

-- what the list leaves: the first polynomial, the pair's words and the openings
pub finished : ◌≡◌ {A = Option (List ℕ) × List ℕ × Option (List ℕ)}
    ((outcome (begun g (after 7) w₃) calls).first, (outcome (begun g (after 7) w₃) calls).pairs, (outcome (begun g (after 7) w₃) calls).openings)
    (some first, one ++ two, some openings)
unfolding start_number called_number lengths_number point_number lists_number limits_number counts_number commitment_number there_number flag_number columns_in width_number laid_number place_number matrix_number column_number
    rise_number higher_number empty_number width_there later_number lists_length refuse or_else first_of slice_length round_up opened matrix_length matrix_start columns_before located occurs_in entries slot_start
    canonical_words canonical_four
    first_turn uni_turn in_round openings_turn uni_number uni_words round_number live_number live_tables live fold_number openings_number openings_words listed_number made_words made_number start_work leaves start_values start_eq start_weights
    elem_words blocks slotted cube_factor bit_factor listed uni_work uni_values fold_ple lagrange sum pow uni_eq uni_rot eq_scale rot_scale rot_shift indicator in_uni eq_uni raised rotated before fold_work fold_values folded_words
    fold_tables fold_weights folded_tables tables_of fold_mle line elem_at elem_of words_of words_at class zadd zmul zneg qadd qmul qneg pair_of pair_value own_quadratic own_sum own_term place plain_power rotated_power if_flagged num
    openings_out first_out first_words first_coefficient block_at interpolated product_at weights cell_weight column_factor lifted_point row_factor below window at_stride on_zero stack_rows step_of answer_of settled refusal_of refusals task_answer task_slice task_reply lent_by challenge_of first_in pair_in openings_in step_by task_turn task_work lent_work kept_work events begun outcome
finished = refl
