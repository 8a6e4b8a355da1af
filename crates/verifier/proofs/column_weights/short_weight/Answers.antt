use Rattle.weights.proofs.SignedHeights.{signed_lack}
use Rattle.verifier.proofs.HeightWeights.{short_weight}
use native.Mathlib.Omega.{arith}
use Rattle.verifier.proofs.column_weights.short_weight.Goals as goal

pub returns : goal.returns
returns c = short_weight c.args.asked.l_skip c.args.c.log c.args.c.flag c.args.asked.lambda c.args.asked.r.now c.args.asked.challenges.now c.requires.1 _ c.requires.0 c.requires.2 (signed_lack c.args.c.log c.args.asked.l_skip (omega arith) c.requires.1) c.load.ensures c.load-2.ensures c.eval_in_uni-ind.ensures c.exp_power_of_2-r_0.ensures c.prism_weight-batched.ensures c.mul.ensures
