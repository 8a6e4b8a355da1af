-- `plan_picture::scale::Frame::picture_width` meets its contract.
use native.Mathlib.Omega.{arith}
use Rattle.plan_picture.proofs.Scales.{left_low}
use Rattle.plan_picture.proofs.scale.Frame.picture_width.Goals as goal

pub overflow_add-bar_left : goal.overflow_add-bar_left
overflow_add-bar_left c = let w = c.args.self.width in omega (arith, c.bar_left.ensures, left_low w w (omega arith))
