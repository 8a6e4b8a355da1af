use Rattle.prover.proofs.KernelLaws.{shift_is}
use Rattle.prover.proofs.kernels.shift_kernel.Goals as goal

pub returns : goal.returns
returns c = shift_is _ _ _ c.requires c.load.ensures c.turned-before.ensures c.eval_eq_uni_at_one-a.ensures c.eval_eq_uni_at_one-b.ensures c.mul.ensures
