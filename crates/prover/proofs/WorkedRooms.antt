-- What a run is lent, computed through the definition: document 01's list and a second commitment whose height recurs; and lists that are refused.
use Rattle.std.proofs.Common.{◌≡◌, List, [], ◌∷◌, refl}
use Rattle.std.specs.declared.result.Result.{Result}
use Rattle.std.specs.declared.result.Result.TheVariants.{Ok, Err}
use Rattle.field.specs.declared.answer.Refusal.{Refusal}
use Rattle.field.specs.declared.answer.Refusal.TheVariants.{LimitExceeded, LayoutRowOverflow, NoColumn, WrongLength}
use Rattle.field.specs.Number.{settled, refusal_of, refusals}
use Rattle.layout.specs.Checks.{refuse, or_else, first_of}
use Rattle.layout.specs.Triples.{columns_before}
use Rattle.layout.specs.Placing.{slice_length, round_up, opened, matrix_length, matrix_start}
use Rattle.layout.specs.Refusals.{limits_number, flag_number, columns_in, width_number, column_number, matrix_number, place_number, higher_number, rise_number, laid_number}
use Rattle.layout.specs.Columns.{located}
use Rattle.layout.specs.Lists.{commitment_number, counts_number, width_there, later_number, empty_number, there_number, lists_number, lists_length}
use Rattle.weights.specs.LambdaPowers.{claims_of, claims_before}
use Rattle.prover.specs.declared.rooms.RunRoom.{RunRoom}
use Rattle.prover.specs.Slots.{occurs_in, entries, slot_start}
use Rattle.prover.specs.Rooms.{run_room}

-- three stack columns of four rows; the tables of logs 2 and 0 have two entries and one, log 2 once though both commitments have it; a claim of
-- the first column, and two of each of the three flagged ones
pub taken : run_room 1 1 (2 ∷ 1 ∷ []) (1 ∷ 2 ∷ 0 ∷ 2 ∷ 0 ∷ 1 ∷ 1 ∷ 2 ∷ 1 ∷ []) ≡ Ok (record { r = 8; q_evals = 24; eq_r = 12; eq_ub = 16; matrices = 12; openings = 12; coefficients = 12; claims = 28 })
unfolding run_room settled lists_number limits_number counts_number commitment_number there_number flag_number columns_in width_number laid_number place_number matrix_number column_number rise_number higher_number empty_number width_there
    later_number lists_length refuse or_else first_of slice_length round_up opened matrix_length matrix_start columns_before located occurs_in entries slot_start claims_of claims_before
taken = refl

-- l_skip 11; a row that overflows; width 0 only; a word more than the counts say
pub refused : ◌≡◌ {A = List (Result RunRoom Refusal)} (run_room 11 0 (1 ∷ []) (1 ∷ 0 ∷ 0 ∷ []) ∷ run_room 0 3 (2 ∷ []) (1 ∷ 2 ∷ 0 ∷ 1 ∷ 3 ∷ 0 ∷ []) ∷ run_room 0 0 (1 ∷ []) (0 ∷ 0 ∷ 0 ∷ []) ∷ run_room 0 0 (1 ∷ []) (1 ∷ 0 ∷ 0 ∷ 1 ∷ []) ∷ [])
    (Err LimitExceeded ∷ Err LayoutRowOverflow ∷ Err NoColumn ∷ Err WrongLength ∷ [])
unfolding run_room settled lists_number limits_number counts_number commitment_number there_number flag_number columns_in width_number laid_number place_number matrix_number column_number rise_number higher_number empty_number width_there
    later_number lists_length refuse or_else first_of slice_length round_up opened matrix_length matrix_start columns_before located occurs_in entries slot_start claims_of claims_before refusal_of refusals
refused = refl
