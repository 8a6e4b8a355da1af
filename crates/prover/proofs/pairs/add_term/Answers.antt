use Rattle.prover.proofs.ColumnPairs.{term_is}
use Rattle.prover.proofs.pairs.add_term.Goals as goal

pub returns : goal.returns
returns c = term_is _ _ _ _ c.mul-a.ensures c.mul-b.ensures c.add.ensures
