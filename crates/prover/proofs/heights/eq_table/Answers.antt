use Rattle.prover.proofs.EqParts.{table_written}
use Rattle.prover.proofs.heights.eq_table.Goals as goal

pub returns : goal.returns
returns c = table_written _ c.requires.canonical _ _ _ _ c.requires.n_bound c.requires.n_in_bounds c.requires.r_value c.requires.n_in_bounds_2 c.evals_eq_hypercube.ensures.out_after
