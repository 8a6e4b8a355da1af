use Rattle.prover.proofs.WordSums.{gap_words}
use Rattle.prover.proofs.canonical.sub.Goals as goal

pub returns : goal.returns
returns c = gap_words _ _ c.minus.ensures c.minus-2.ensures c.minus-3.ensures c.minus-4.ensures
