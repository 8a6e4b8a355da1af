use mathlib.Core.Path.{ap}
use mathlib.Core.Bool.{not}
use Rattle.verifier.specs.Asked.{asked_of}
use Rattle.verifier.specs.Numbers.{Shaped}
use Rattle.verifier.proofs.ShapeLaws.{shape_taken, shape_refusal, step_walked, step-placed, step_first, step_observed}
use Rattle.verifier.proofs.VerdictLaws.{verdict-refused, verdict_first, verdict_last}
use Rattle.verifier.proofs.stacked_reduction.verify_stacked_reduction.Goals.{In-Ok}
use Rattle.verifier.proofs.stacked_reduction.verify_stacked_reduction.Goals as goal

shaped : (c : In-Ok) → Shaped (asked_of c.args.asked c.args.observed.now) c.in-Ok.shape
shaped c = shape_taken _ c.shape_of.ensures c.in-Ok.is

pub returns-in-Err : goal.returns-in-Err
returns-in-Err c = let whole = verdict-refused _ _ _ (shape_refusal _ c.shape_of.ensures c.in-Err.is) c.refused.ensures in record { value = whole.0; observed_after = whole.1 }

pub weighted_claims-s_0-requires : goal.weighted_claims-s_0-requires
weighted_claims-s_0-requires c = step_walked _ _ (shaped (goal.at.weighted_claims-s_0-requires c).In-Ok)

pub first_sum-s_0_sum_eval-requires : goal.first_sum-s_0_sum_eval-requires
first_sum-s_0_sum_eval-requires c = let whole = step_first _ _ (shaped (goal.at.first_sum-s_0_sum_eval-requires c).In-Ok) in record { l_skip_bound = whole.0; coefficients_len = whole.1 }

pub returns-then-not-same : goal.returns-then-not-same
returns-then-not-same c = let s = shaped (goal.at.returns-then-not-same c).In-Ok in let whole = verdict_first _ s.number _ s.first c.weighted_claims-s_0.ensures c.first_sum-s_0_sum_eval.ensures c.same.ensures (ap not c.if-not-same.true) in record { value = whole.0; observed_after = whole.1 }

pub observe-requires : goal.observe-requires
observe-requires c = step_observed _ _ (shaped (goal.at.observe-requires c).In-Ok)

pub last_verdict-requires : goal.last_verdict-requires
last_verdict-requires c = step-placed _ _ (shaped (goal.at.last_verdict-requires c).In-Ok)

pub returns : goal.returns
returns c = let s = shaped (goal.at.returns c).In-Ok in let whole = verdict_last _ s.number _ s.first c.weighted_claims-s_0.ensures c.first_sum-s_0_sum_eval.ensures c.same.ensures (ap not c.if-not-same.false) _ _ c.last_verdict.ensures c.observe.ensures in record { value = whole.0; observed_after = whole.1 }
