use Rattle.prover.proofs.WordSums.{mul-add_words}
use Rattle.prover.proofs.canonical.mul_add.Goals as goal

pub returns : goal.returns
returns c = mul-add_words _ _ _ _ _ _ c.mul-w1.ensures c.mul-w2.ensures c.mul-w3.ensures c.dot_add.ensures c.dot_add-2.ensures c.dot_add-3.ensures c.dot_add-4.ensures
