use Rattle.weights.proofs.PowerWalks.{only_plain, with_rotated}
use Rattle.verifier.proofs.column_weights.prism_weight.Goals as goal

pub returns-then-flag-eq0 : goal.returns-then-flag-eq0
returns-then-flag-eq0 c = only_plain _ _ _ c.if-flag-eq0.true c.eval_eq_prism-eq_prism.ensures

pub returns : goal.returns
returns c = with_rotated _ _ _ _ c.if-flag-eq0.false c.eval_eq_prism-eq_prism.ensures c.eval_rot_kernel_prism-rot_kernel_prism.ensures c.mul-x.ensures c.add.ensures
