use Rattle.std.proofs.Common.{arith}
use Rattle.prover.proofs.RoomLaws.{values_fit, taken_is}
use Rattle.prover.proofs.rooms.taken_run.Goals as goal

pub overflow_mul-result-2 : goal.overflow_mul-result-2
overflow_mul-result-2 c = omega (arith, values_fit _ _ _ c.requires.n_stack_bound.0 c.requires.n_stack_bound.1)

pub returns : goal.returns
returns c = taken_is _ _ _ c.requires.n_stack_bound.0 c.requires.n_stack_bound.1 _ _ _ c.coefficient_words-coefficients.ensures
