-- `plan_picture::scale::Frame::is_roomy` meets its contract.
use native.Mathlib.Omega.{arith}
use Rattle.std.proofs.lemmas.Bool.Decides.{nat_tests}
use Rattle.plan_picture.specs.Slices.{roomy}
use Rattle.plan_picture.proofs.scale.Frame.is_roomy.Goals as goal

pub returns-then-bar_width-ge24 : goal.returns-then-bar_width-ge24
unfolding roomy
returns-then-bar_width-ge24 c = grind (arith, nat_tests)

pub returns-else-bar_width-ge24 : goal.returns-else-bar_width-ge24
unfolding roomy
returns-else-bar_width-ge24 c = grind (arith, nat_tests)
