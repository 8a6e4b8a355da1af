use Rattle.verifier.proofs.RoundTurns.{first_sum_lem}
use Rattle.verifier.proofs.rounds.first_sum.Goals as goal

pub returns : goal.returns
returns c = first_sum_lem _ _ c.requires.l_skip_bound c.requires.coefficients_len c.load-a.ensures c.load-b.ensures c.add-s.ensures c.scale.ensures
