-- An exported answer from the fields of the call's.
use mathlib.Core.Path.{◌≡◌}
use Prim.Native.Nat.{ℕ}
use Rattle.std.specs.declared.result.Result.TheVariants.{Err}
use Rattle.field.specs.declared.answer.Refusal.{Refusal}
use Rattle.field.specs.Number.{refusal_number, number_of}
use Rattle.verifier.specs.declared.stacked_reduction.Verdict.{Verdict}
use Rattle.prover.specs.declared.stacked_reduction.Step.{Step}
use Rattle.prover.specs.declared.stacked_reduction.RoundPair.{RoundPair}
use Rattle.legrudda.specs.declared.plans.Slice.{Slice}
use Rattle.legrudda.specs.declared.plans.Place.{Place}
use Rattle.legrudda.specs.declared.runs.Stepped.{Stepped}
use Rattle.legrudda.specs.declared.runs.PairStepped.{PairStepped}
use Rattle.legrudda.specs.declared.verdicts.Judged.{Judged}
use Rattle.legrudda.specs.Exported.{slice_of, place_of, judged_of, stepped_of, pair_stepped_of}

pub judged_is : (a : Verdict) (n : ℕ) → n ≡ number_of a.answer
    → ◌≡◌ {A = Judged} (record { number = n; left = record { words = a.left }; right = record { words = a.right } }) (judged_of a)
unfolding judged_of
judged_is a n e = cc

pub stepped_is : (a : Step) (n : ℕ) → n ≡ number_of a.answer → ◌≡◌ {A = Stepped} (record { number = n; turn = a.turn.calls }) (stepped_of a)
unfolding stepped_of
stepped_is a n e = cc

pub pair-stepped_is : (a : RoundPair) (n : ℕ) → n ≡ number_of a.answer
    → ◌≡◌ {A = PairStepped} (record { number = n; turn = a.turn.calls; at_1 = record { words = a.one }; at_2 = record { words = a.two } }) (pair_stepped_of a)
unfolding pair_stepped_of
pair-stepped_is a n e = cc

-- refused: the number, and zeros
pub slice_refused : (e : Refusal) (n : ℕ) → n ≡ refusal_number e → ◌≡◌ {A = Slice} (record { number = n; col_idx = 0; row_idx = 0; log_height = 0 }) (slice_of (Err e))
unfolding slice_of
slice_refused e n h = cc

pub place_refused : (e : Refusal) (n : ℕ) → n ≡ refusal_number e → ◌≡◌ {A = Place} (record { number = n; start = 0; len = 0 }) (place_of (Err e))
unfolding place_of
place_refused e n h = cc
