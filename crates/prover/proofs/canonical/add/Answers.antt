use Rattle.prover.proofs.WordSums.{sum_words}
use Rattle.prover.proofs.canonical.add.Goals as goal

pub returns : goal.returns
returns c = sum_words _ _ c.plus.ensures c.plus-2.ensures c.plus-3.ensures c.plus-4.ensures
