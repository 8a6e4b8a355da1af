use Rattle.std.proofs.Common.{rules}
use Rattle.prover.specs.Products.{quarters_of}
use Rattle.prover.proofs.rows.quarters.Goals as goal

pub returns : goal.returns
unfolding quarters_of
returns c = search rules
