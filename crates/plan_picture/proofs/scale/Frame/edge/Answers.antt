-- `plan_picture::scale::Frame::edge` meets its contract.
use native.Mathlib.Omega.{arith}
use Rattle.std.proofs.lemmas.Bool.Decides.{nat_tests}
use Rattle.plan_picture.specs.Slices.{edge_of}
use Rattle.plan_picture.proofs.scale.Frame.edge.Goals as goal

pub returns : goal.returns
unfolding edge_of
returns c = grind (arith, nat_tests)
