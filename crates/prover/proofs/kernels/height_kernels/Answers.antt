use Rattle.prover.proofs.KernelLaws.{kernels_are}
use Rattle.prover.proofs.kernels.height_kernels.Goals as goal

pub returns : goal.returns
returns c = λ n first lists lambda. kernels_are _ n first lists _ lambda _ _ c.requires.l_skip_bound.0 c.requires.l_skip_bound.1 (c.indicator_of-ind.ensures n first lists _ lambda) c.lifted.ensures c.lifted-l.ensures c.load.ensures c.lifted-2.ensures c.exp_power_of_2-r_0.ensures c.eval_eq_uni-a.ensures c.turned.ensures c.eval_eq_uni-b.ensures c.requires.shift_value c.mul.ensures c.mul-2.ensures c.mul-3.ensures
