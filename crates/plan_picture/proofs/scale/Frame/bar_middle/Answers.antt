-- `plan_picture::scale::Frame::bar_middle` meets its contract.
use Rattle.plan_picture.proofs.Scales.{pitch-within, left_low}
use native.Mathlib.Omega.{arith}
use Rattle.plan_picture.proofs.scale.Frame.bar_middle.Goals as goal

pub overflow_add-result : goal.overflow_add-result
overflow_add-result c = let a = c.args in omega (arith, c.bar_left.ensures, c.bar_width.ensures, pitch-within a.self.width, left_low a.self.width a.k (omega arith))
