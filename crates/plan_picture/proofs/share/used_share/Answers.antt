-- `plan_picture::share::used_share` meets its contract.
use native.Mathlib.Omega.{arith}
use native.Mathlib.Nat.{div-zero}
use Rattle.plan_picture.specs.Share.{used_share}
use Rattle.plan_picture.proofs.share.used_share.Goals as goal

pub returns : goal.returns
unfolding used_share
returns c = grind (arith, div-zero)
