-- `plan_picture::bars::is_numbered` meets its contract.
use native.Mathlib.Omega.{arith}
use Rattle.std.proofs.lemmas.Bool.Decides.{nat_tests}
use Rattle.plan_picture.specs.Parts.{bar_numbered}
use Rattle.plan_picture.proofs.bars.is_numbered.Goals as goal

pub returns-then-bar_pitch-ge24 : goal.returns-then-bar_pitch-ge24
unfolding bar_numbered
returns-then-bar_pitch-ge24 c = grind (arith, nat_tests)

pub returns-else-bar_pitch-ge24 : goal.returns-else-bar_pitch-ge24
unfolding bar_numbered
returns-else-bar_pitch-ge24 c = grind (arith, nat_tests)
