use Rattle.std.proofs.Common.{rules}
use Rattle.prover.specs.Accumulated.{rest}
use Rattle.prover.proofs.accumulator.Acc.rest.Goals as goal

pub returns : goal.returns
unfolding rest
returns c = search rules
