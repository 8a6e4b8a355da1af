use Rattle.weights.proofs.SignedHeights.{signed_lack}
use Rattle.prover.proofs.KernelLaws.{inside_is}
use Rattle.prover.proofs.kernels.indicator_of.Goals as goal

pub returns : goal.returns
returns c = λ n first lists point lambda. inside_is _ n first lists point lambda _ _ _ c.requires.0 (signed_lack c.args.h c.args.l_skip c.requires.1 c.requires.0) c.eval_in_uni.ensures
