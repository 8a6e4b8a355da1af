-- The calls' answers as they go to other languages: the number of the table in place of the enum.
use Rattle.std.specs.Prelude.{Result}
use Rattle.std.specs.declared.result.Result.TheVariants.{Ok, Err}
use Rattle.field.specs.declared.answer.Refusal.{Refusal}
use Rattle.field.specs.Number.{refusal_number, number_of}
use Rattle.layout.specs.declared.stacked_pcs.StackedLayout.{StackedLayout}
use Rattle.layout.specs.declared.stacked_pcs.StackedSlice.{StackedSlice}
use Rattle.layout.specs.declared.stacked_pcs.MatPlace.{MatPlace}
use Rattle.verifier.specs.declared.stacked_reduction.Verdict.{Verdict}
use Rattle.prover.specs.declared.stacked_reduction.Step.{Step}
use Rattle.prover.specs.declared.stacked_reduction.RoundPair.{RoundPair}
use Rattle.verifier.specs.declared.rooms.VerdictRoom.{VerdictRoom}
use Rattle.prover.specs.declared.rooms.RunRoom.{RunRoom}
use Rattle.legrudda.specs.declared.plans.Plan.{Plan}
use Rattle.legrudda.specs.declared.plans.Slice.{Slice}
use Rattle.legrudda.specs.declared.plans.Place.{Place}
use Rattle.legrudda.specs.declared.rooms.Room.{Room}
use Rattle.legrudda.specs.declared.runs.Stepped.{Stepped}
use Rattle.legrudda.specs.declared.runs.PairStepped.{PairStepped}
use Rattle.legrudda.specs.declared.verdicts.Judged.{Judged}

-- zeros where refused
unfoldable pub plan_of : Result StackedLayout Refusal → Plan
plan_of (Ok a) = record { number = 0; width = a.width; height = a.height; columns = a.columns }
plan_of (Err e) = record { number = refusal_number e; width = 0; height = 0; columns = 0 }

unfoldable pub slice_of : Result StackedSlice Refusal → Slice
slice_of (Ok a) = record { number = 0; col_idx = a.col_idx; row_idx = a.row_idx; log_height = a.log_height }
slice_of (Err e) = record { number = refusal_number e; col_idx = 0; row_idx = 0; log_height = 0 }

unfoldable pub place_of : Result MatPlace Refusal → Place
place_of (Ok a) = record { number = 0; start = a.start; len = a.len }
place_of (Err e) = record { number = refusal_number e; start = 0; len = 0 }

unfoldable pub judged_of : Verdict → Judged
judged_of a = record { number = number_of a.answer; left = record { words = a.left }; right = record { words = a.right } }

unfoldable pub stepped_of : Step → Stepped
stepped_of a = record { number = number_of a.answer; turn = a.turn.calls }

unfoldable pub pair_stepped_of : RoundPair → PairStepped
pair_stepped_of a =
    record { number = number_of a.answer; turn = a.turn.calls; at_1 = record { words = a.one }; at_2 = record { words = a.two } }

abbrev pub refused_room : Refusal → Room
refused_room e = record {
  number = refusal_number e;
  r = 0;
  q_evals = 0;
  eq_r = 0;
  eq_ub = 0;
  matrices = 0;
  openings = 0;
  challenges = 0;
  claims = 0;
  coefficients = 0;
  pairs = 0;
  observed = 0;
}

-- the run's lengths, and those of the verdict that the run has not
abbrev pub taken_room : RunRoom → VerdictRoom → Room
taken_room a b = record {
  number = 0;
  r = a.r;
  q_evals = a.q_evals;
  eq_r = a.eq_r;
  eq_ub = a.eq_ub;
  matrices = a.matrices;
  openings = a.openings;
  challenges = b.challenges;
  claims = a.claims;
  coefficients = a.coefficients;
  pairs = b.pairs;
  observed = b.observed;
}

unfoldable pub room_of : Result RunRoom Refusal → Result VerdictRoom Refusal → Room
room_of (Ok a) (Ok b) = taken_room a b
room_of (Ok a) (Err e) = refused_room e
room_of (Err e) b = refused_room e
