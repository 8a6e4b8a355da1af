use Rattle.prover.proofs.KernelLaws.{turned_is}
use Rattle.prover.proofs.kernels.turned.Goals as goal

pub returns : goal.returns
returns c = turned_is _ _ c.requires c.skip_power.ensures c.from_word-w.ensures c.mul.ensures
