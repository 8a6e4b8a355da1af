-- `plan_picture::scale::Frame::bar_width` meets its contract.
use native.Mathlib.Omega.{arith}
use Rattle.plan_picture.proofs.Scales.{pitch-within}
use Rattle.plan_picture.proofs.scale.Frame.bar_width.Goals as goal

pub overflow_sub-result : goal.overflow_sub-result
overflow_sub-result c = omega (arith, c.bar_pitch-p.ensures, pitch-within c.args.self.width)
