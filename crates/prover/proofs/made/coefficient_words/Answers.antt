use Rattle.prover.proofs.MadeChecks.{order_some, coefficients_are}
use Rattle.prover.proofs.made.coefficient_words.Goals as goal

pub overflow_sub-result : goal.overflow_sub-result
overflow_sub-result c = order_some _ c.requires

pub returns : goal.returns
returns c = coefficients_are _ c.requires
