use Rattle.prover.proofs.SpreadTurns.{back_none, back_there}
use Rattle.prover.proofs.geometric.back.Goals as goal

pub returns-then-j-d : goal.returns-then-j-d
returns-then-j-d c = back_none _ _ _ c.if-j-d.true

pub returns : goal.returns
returns c = back_there _ _ _ c.if-j-d.false (c.requires.canonical c.if-j-d.false) c.read.ensures
