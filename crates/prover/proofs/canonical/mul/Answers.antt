use Rattle.prover.proofs.WordSums.{product_alone}
use Rattle.prover.proofs.canonical.mul.Goals as goal

pub returns : goal.returns
returns c = product_alone _ c.mul_add.ensures
