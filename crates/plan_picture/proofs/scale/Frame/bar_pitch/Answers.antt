-- `plan_picture::scale::Frame::bar_pitch` meets its contract.
use Prim.Native.Nat.{◌/◌, max}
use mathlib.Core.Path.{◌≡◌, ap, ◌∙◌}
use native.Mathlib.Omega.{arith}
use Rattle.plan_picture.specs.Scale.{pitch}
use Rattle.plan_picture.proofs.scale.Frame.bar_pitch.Goals as goal

pub returns : goal.returns
unfolding pitch
returns c =
    let w : max c.args.self.width 1 ≡ max 1 c.args.self.width = omega arith in
    omega (arith, ap (λ k. 1120 / k) (c.max.ensures ∙ w))
