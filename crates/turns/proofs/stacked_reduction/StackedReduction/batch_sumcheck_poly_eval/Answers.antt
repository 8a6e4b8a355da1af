use Rattle.turns.proofs.RefusedPairs.{refused_pair}
use Rattle.turns.proofs.stacked_reduction.StackedReduction.batch_sumcheck_poly_eval.Goals as goal

pub returns-in_err-step : goal.returns-in_err-step
returns-in_err-step c = refused_pair _ _ _ _ c.batch_sumcheck_poly_eval-step.ensures c.in_err-step.was c.from_residual.result c.from_residual.ensures.1
