-- `plan_picture::scale::Frame::bar_left` meets its contract.
use Prim.Native.Nat.{◌*◌}
use mathlib.Core.Path.{ap}
use native.Mathlib.Omega.{arith}
use Rattle.plan_picture.proofs.Scales.{left_low}
use Rattle.plan_picture.proofs.scale.Frame.bar_left.Goals as goal

pub overflow_mul-result : goal.overflow_mul-result
overflow_mul-result c =
    let a = c.args in
    omega (arith, ap (λ p. a.k * p) c.bar_pitch.ensures, left_low a.self.width a.k (omega arith))

pub overflow_add-result : goal.overflow_add-result
overflow_add-result c =
    let a = c.args in
    omega (arith, ap (λ p. a.k * p) c.bar_pitch.ensures, left_low a.self.width a.k (omega arith))
