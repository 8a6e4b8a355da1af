use Rattle.prover.proofs.ClaimSums.{order_kernels}
use Rattle.prover.proofs.claims.kernels_at.Goals as goal

pub returns : goal.returns
returns c = order_kernels _ _ _ _ _ c.requires.l_skip_bound.0 c.requires.l_skip_bound.1 c.two_to-end.ensures.value c.requires.o_in_bounds c.requires.o_in_bounds_2 c.load.ensures c.exp_power_of_2-y.ensures c.eq_uni_kernels.ensures.out_after c.turned.ensures c.eq_uni_kernels-2.ensures.out_after
