use Rattle.std.proofs.Common.{ap, ◌∙◌, arith}
use Rattle.field.specs.Element.{words_of}
use Rattle.prover.proofs.ColumnPairs.{points_inside, part_points}
use Rattle.prover.proofs.columns.long_pair.Goals as goal

pub sumcheck_round_poly_evals-requires : goal.sumcheck_round_poly_evals-requires
sumcheck_round_poly_evals-requires c = record { n_bound = (c.requires.n_bound.0, omega (arith, c.requires.n_bound.1, c.requires.n_bound.2)); words = points_inside _ _ _ _ _ c.requires.held c.requires.n_bound.1; weights = c.requires.weights; weights_2 = c.requires.weights_2 }

pub returns : goal.returns
returns c = (c.sumcheck_round_poly_evals.ensures.0 ∙ ap words_of (part_points _ _ _ _ _ _ _ c.requires.n_bound.1), c.sumcheck_round_poly_evals.ensures.1 ∙ ap words_of (part_points _ _ _ _ _ _ _ c.requires.n_bound.1))
