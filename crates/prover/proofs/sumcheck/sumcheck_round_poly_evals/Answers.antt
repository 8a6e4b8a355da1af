use Rattle.prover.specs.RoundValues.{one_or_two}
use Rattle.prover.proofs.sumcheck.sumcheck_round_poly_evals.Goals as goal

pub returns : goal.returns
unfolding one_or_two
returns c = (c.weighed.ensures, c.weighed-2.ensures)
